-- How a path is divided, and what is written of it where its text doesn't say that.
use Rattle.std.proofs.Common.{◌≡◌, ℕ, zero, suc, ◌<◌, Bool, true, false, List, [], ◌∷◌, ◌++◌, Option, Some, None, length, take, drop, get_or, refl, sym, ap, ◌%◌, ◌∙◌, arith, codes, nat_lt}
use Rattle.std.specs.Prelude.{◌&&◌, not, flat_map, if◌then◌else◌}
use Rattle.std.proofs.lemmas.Fmt.{decimal_digit}
use Rattle.bmp_specs.specs.declared.wire.SegmentKind.{SegmentKind}
use Rattle.bmp_specs.specs.declared.wire.SegmentKind.TheVariants.{Set, Sequence, ConfedSequence, ConfedSet}
use Rattle.bmp_specs.specs.AsPath.{segment_type}
use Rattle.bmp_specs.specs.PeerText.{hex_text}
use Rattle.bmp_specs.specs.Values.{SegmentValue}
use Rattle.byteorder.specs.Endian.{big_bytes}
use Rattle.ask_specs.specs.FullLine.{divided_by, is_divided_plainly, raw_path, raw_text, segment_octets}
use Rattle.reply_text.specs.Raw.{begins_plainly, is_sequence, segment_begins_plainly}
use Rattle.reply_text.proofs.Texts.{hex-append, hex_flat}

divided_begins : (after : Bool) (kind : SegmentKind) (has_numbers : Bool) (rest : Bool → Bool) → divided_by after kind has_numbers rest ≡ begins_plainly after kind has_numbers && rest (is_sequence kind)
divided_begins true Sequence has_numbers rest = refl
divided_begins false Sequence has_numbers rest = refl
divided_begins after Set has_numbers rest = refl
divided_begins after ConfedSequence has_numbers rest = refl
divided_begins after ConfedSet has_numbers rest = refl

-- a path from a place on: how its first segment begins, and the others
pub divided_next : (after : Bool) (path : List SegmentValue) (i : ℕ) (s : SegmentValue) → i < length path → s ≡ get_or path i s
    → is_divided_plainly after (drop i path) ≡ segment_begins_plainly after s && is_divided_plainly (is_sequence s.kind) (drop (suc i) path)
divided_next after [] i s h is = absurd (omega arith)
divided_next after (p ∷ path) zero s h is =
    divided_begins after p.kind (nat_lt 0 (length p.numbers)) (λ b. is_divided_plainly b path)
    ∙ ap (λ (v : SegmentValue). segment_begins_plainly after v && is_divided_plainly (is_sequence v.kind) path) (sym is)
divided_next after (p ∷ path) (suc i) s h is = divided_next after path i s (omega arith) is

-- a segment in hexadecimal
pub segment_parts : (s : SegmentValue) → hex_text (segment_octets s) ≡ hex_text (segment_type s.kind ∷ (length s.numbers % 256) ∷ []) ++ flat_map (λ number. hex_text (big_bytes 4 number)) s.numbers
segment_parts s =
    hex-append (segment_type s.kind ∷ (length s.numbers % 256) ∷ []) (flat_map (big_bytes 4) s.numbers)
    ∙ ap (λ (l : List ℕ). hex_text (segment_type s.kind ∷ (length s.numbers % 256) ∷ []) ++ l) (hex_flat (big_bytes 4) s.numbers)

-- a path that is divided plainly isn't written there
pub raw_plain : (path : List SegmentValue) → is_divided_plainly false path ≡ true → raw_path (Some path) ≡ []
raw_plain path e = ap (λ (b : Bool). if b then [] else raw_text 2 (flat_map segment_octets path) ∷ []) e

pub raw_whole : (path : List SegmentValue) → is_divided_plainly false path ≡ false → raw_path (Some path) ≡ raw_text 2 (flat_map segment_octets path) ∷ []
raw_whole path e = ap (λ (b : Bool). if b then [] else raw_text 2 (flat_map segment_octets path) ∷ []) e

pub raw_path_parts : (path : List SegmentValue) → raw_text 2 (flat_map segment_octets path) ≡ codes "2:" ++ flat_map (λ segment. hex_text (segment_octets segment)) path
raw_path_parts path = ap (λ (l : List ℕ). l ++ (58 ∷ hex_text (flat_map segment_octets path))) (decimal_digit 2 (omega arith)) ∙ ap (λ (l : List ℕ). codes "2:" ++ l) (hex_flat segment_octets path)
