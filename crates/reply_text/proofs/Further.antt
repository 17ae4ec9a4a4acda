-- The fields of all that a route line doesn't tell, one after another.
use Rattle.std.proofs.Common.{◌≡◌, ℕ, Bool, true, false, List, [], ◌∷◌, ◌++◌, map, refl, sym, ap, ◌∙◌, append_assoc, codes}
use mathlib.Core.Bool.{true≢false}
use Rattle.std.specs.Prelude.{filter_map}
use Rattle.bmp_specs.specs.Lines.{further, line}
use Rattle.bmp_specs.specs.PeerText.{hex_text}
use Rattle.bmp_specs.specs.RouteLine.{comma_list}
use Rattle.bmp_specs.specs.Values.{AttrsValue, OtherValue}
use Rattle.ask_specs.specs.FullLine.{further_fields, own_field, raw_of, raw_path, text_of_own, originator, clusters, extended, aigp, large, otc}
use Rattle.reply_text.specs.Own.{bare_text, inner_text, policy_text, rest_text}
use Rattle.reply_text.specs.Pieces.{has_piece, spaced}

-- fields, and the end of the line
pub further-spaced : (fields : List (List ℕ)) → further fields ≡ spaced fields ++ codes "\n"
further-spaced [] = refl
further-spaced (field ∷ fields) = ap (λ (l : List ℕ). 32 ∷ (field ++ l)) (further-spaced fields) ∙ sym (append_assoc (32 ∷ field) (spaced fields) (codes "\n"))

-- eight texts after their names, in the groups in which they are written
grouped : (n1 f n2 l n3 e n4 t n5 a n6 o n7 c n8 r end : List ℕ)
    → (n1 ++ f) ++ ((((n2 ++ l) ++ ((n3 ++ e) ++ (n4 ++ t))) ++ ((n5 ++ a) ++ ((n6 ++ o) ++ (n7 ++ c)))) ++ ((n8 ++ r) ++ end))
    ≡ n1 ++ (f ++ (n2 ++ (l ++ (n3 ++ (e ++ (n4 ++ (t ++ (n5 ++ (a ++ (n6 ++ (o ++ (n7 ++ (c ++ (n8 ++ (r ++ end)))))))))))))))
grouped n1 f n2 l n3 e n4 t n5 a n6 o n7 c n8 r end = simp append_assoc

eight_fields : (f l e t a o c r : List ℕ)
    → further ((codes "flags=" ++ f) ∷ (codes "large=" ++ l) ∷ (codes "ext=" ++ e) ∷ (codes "otc=" ++ t) ∷ (codes "aigp=" ++ a) ∷ (codes "originator=" ++ o) ∷ (codes "clusters=" ++ c) ∷ (codes "raw=" ++ r) ∷ [])
    ≡ (codes " flags=" ++ f) ++ ((((codes " large=" ++ l) ++ ((codes " ext=" ++ e) ++ (codes " otc=" ++ t))) ++ ((codes " aigp=" ++ a) ++ ((codes " originator=" ++ o) ++ (codes " clusters=" ++ c)))) ++ ((codes " raw=" ++ r) ++ codes "\n"))
eight_fields f l e t a o c r =
    sym (grouped (codes " flags=") f (codes " large=") l (codes " ext=") e (codes " otc=") t (codes " aigp=") a (codes " originator=") o (codes " clusters=") c (codes " raw=") r (codes "\n"))

pub further_parts : (a : AttrsValue)
    → further (further_fields a) ≡ (codes " flags=" ++ comma_list (map (λ other. hex_text (other.flags ∷ [])) a.others)) ++ ((policy_text a.others ++ inner_text a.others) ++ rest_text a)
further_parts a =
    eight_fields (comma_list (map (λ (other : OtherValue). hex_text (other.flags ∷ [])) a.others)) (comma_list (filter_map (text_of_own large) a.others)) (comma_list (filter_map (text_of_own extended) a.others)) (comma_list (filter_map (text_of_own otc) a.others))
    (comma_list (filter_map (text_of_own aigp) a.others)) (comma_list (filter_map (text_of_own originator) a.others)) (comma_list (filter_map (text_of_own clusters) a.others)) (comma_list (raw_path a.path ++ filter_map raw_of a.others))

no_piece : (ps : List (List ℕ)) → has_piece ps ≡ false → ps ≡ []
no_piece [] e = refl
no_piece (p ∷ ps) e = absurd (true≢false e)

-- the further fields, by the other attributes and what is raw of the path
abbrev further_of : List OtherValue → List (List ℕ) → List ℕ
further_of others raws = further (
    (codes "flags=" ++ comma_list (map (λ other. hex_text (other.flags ∷ [])) others))
    ∷ own_field (codes "large=") large others
    ∷ own_field (codes "ext=") extended others
    ∷ own_field (codes "otc=") otc others
    ∷ own_field (codes "aigp=") aigp others
    ∷ own_field (codes "originator=") originator others
    ∷ own_field (codes "clusters=") clusters others
    ∷ (codes "raw=" ++ comma_list (raws ++ filter_map raw_of others))
    ∷ [])

-- where there are no other attributes and the path is divided plainly
pub bare_is : (a : AttrsValue) → a.others ≡ [] → has_piece (raw_path a.path) ≡ false → further (further_fields a) ≡ bare_text
bare_is a none plain = λ i. further_of (none i) (no_piece (raw_path a.path) plain i)
