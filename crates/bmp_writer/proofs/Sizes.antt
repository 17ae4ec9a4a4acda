-- What a list's attribute takes.
use Rattle.std.proofs.Common.{◌≡◌, ℕ, ◌+◌, ◌*◌, ◌<◌, ◌≤◌, ◌==◌, Bool, true, false, cond, nat_lt, List, [], ◌∷◌, length, sym, ◌∙◌, arith}
use Rattle.bmp_specs.specs.Values.{AttrsValue}
use Rattle.bmp_writer.specs.WrittenAttributes.{attribute_size, communities_size, front_size, listed_size, optional_size, segments_size, short_size}

pub some_items : {V : Type 0} (vs : List V) (b : Bool) → b ≡ (length vs == 0) → b ≡ false → 0 < length vs
some_items [] b e f =
    let both : true ≡ false = sym e ∙ f in
    absurd cc
some_items (v ∷ vs) b e f = omega arith

within : (size most : ℕ) → attribute_size size ≤ most → size ≤ most
within size most fits = go (nat_lt 255 size) fits
  where
    go : (b : Bool) → cond b 4 3 + size ≤ most → size ≤ most
    go b le = omega (arith, le)

pub listed_fits : {V : Type 0} (before : ℕ) (size : List V → ℕ) (vs : List V) (most : ℕ) → 0 < length vs → listed_size before size vs ≤ most → before + size vs ≤ most
listed_fits before size [] most some fits = absurd (omega (arith, some))
listed_fits before size (v ∷ vs) most some fits = within (before + size (v ∷ vs)) most fits

third : (a b c : ℕ) → a + (b + c) ≤ 65535 → c ≤ 65535
third a b c fits = omega (arith, fits)

room_communities : (before after : ℕ) (values : List ℕ) → before + (after + communities_size values) ≤ 65535 → 4 * length values ≤ 65535
room_communities before after [] fits = omega arith
room_communities before after (v ∷ vs) fits = omega (arith, within (0 + 4 * length (v ∷ vs)) 65535 (third before after (communities_size (v ∷ vs)) fits))

pub told_communities : (told : AttrsValue) → front_size told ≤ 65535 → 4 * length told.communities ≤ 65535
told_communities told fits = room_communities (short_size told) (optional_size segments_size told.path) told.communities fits

pub not_zero : (n : ℕ) → 0 < n → (n == 0) ≡ false
not_zero n lt = grind (arith, lt)
