-- Texts joined by a byte, as a recursion writes them.
use Rattle.std.proofs.Common.{◌≡◌, ℕ, ◌+◌, ◌<◌, ◌≤◌, ◌-◌, ◌^◌, List, [], ◌∷◌, ◌++◌, length, take, drop, get_or, refl, sym, ap, ◌∙◌, arith, append_assoc, length-append, map}
use Rattle.std.proofs.lemmas.List.{take_rest, nil_from_length}
use Rattle.std.proofs.lemmas.Fmt.{length-decimal-le}
use Rattle.std.specs.List.{join_with_byte}
use Rattle.bmp_specs.specs.AddressText.{dotted, joined_groups, group_text}
use Rattle.bmp_specs.specs.NumberText.{number_text}

join_one : (sep : ℕ) (part : ℕ → List ℕ) (ns : List ℕ) → 1 ≤ length ns → length ns < 2 → join_with_byte sep (map part ns) ≡ part (get_or ns 0 0)
join_one sep part [] some few = absurd (omega arith)
join_one sep part (n ∷ []) some few = refl
join_one sep part (n ∷ m ∷ ns) some few = absurd (omega arith)

join_more : (sep : ℕ) (part : ℕ → List ℕ) (ns : List ℕ) → 2 ≤ length ns → join_with_byte sep (map part ns) ≡ part (get_or ns 0 0) ++ (sep ∷ join_with_byte sep (map part (drop 1 ns)))
join_more sep part [] some = absurd (omega arith)
join_more sep part (n ∷ []) some = absurd (omega arith)
join_more sep part (n ∷ m ∷ ns) some = refl

pub dotted_none : (ns : List ℕ) → length ns ≡ 0 → dotted ns ≡ []
unfolding dotted
dotted_none ns none = ap (λ (l : List ℕ). join_with_byte 46 (map number_text l)) (nil_from_length ns none)

pub dotted_one : (ns : List ℕ) → 1 ≤ length ns → length ns < 2 → dotted ns ≡ number_text (get_or ns 0 0)
unfolding dotted
dotted_one ns some few = join_one 46 number_text ns some few

pub dotted_more : (ns : List ℕ) → 2 ≤ length ns → dotted ns ≡ number_text (get_or ns 0 0) ++ (46 ∷ dotted (take (length ns - 1) (drop 1 ns)))
unfolding dotted
dotted_more ns some = join_more 46 number_text ns some ∙ ap (λ (l : List ℕ). number_text (get_or ns 0 0) ++ (46 ∷ join_with_byte 46 (map number_text l))) (sym (take_rest ns 1))

pub groups_none : (ns : List ℕ) → length ns ≡ 0 → joined_groups ns ≡ []
unfolding joined_groups
groups_none ns none = ap (λ (l : List ℕ). join_with_byte 58 (map group_text l)) (nil_from_length ns none)

pub groups_one : (ns : List ℕ) → 1 ≤ length ns → length ns < 2 → joined_groups ns ≡ group_text (get_or ns 0 0)
unfolding joined_groups
groups_one ns some few = join_one 58 group_text ns some few

pub groups_more : (ns : List ℕ) → 2 ≤ length ns → joined_groups ns ≡ group_text (get_or ns 0 0) ++ (58 ∷ joined_groups (take (length ns - 1) (drop 1 ns)))
unfolding joined_groups
groups_more ns some = join_more 58 group_text ns some ∙ ap (λ (l : List ℕ). group_text (get_or ns 0 0) ++ (58 ∷ join_with_byte 58 (map group_text l))) (sym (take_rest ns 1))

-- one part, the byte, and what follows
pub put_more : (old one two all part rest : List ℕ) (sep : ℕ) → one ≡ old ++ part → two ≡ one ++ (sep ∷ []) → all ≡ two ++ rest → all ≡ old ++ (part ++ (sep ∷ rest))
put_more old one two all part rest sep p q r =
    r ∙ ap (λ (l : List ℕ). l ++ rest) (q ∙ ap (λ (l : List ℕ). l ++ (sep ∷ [])) p) ∙ append_assoc (old ++ part) (sep ∷ []) rest ∙ append_assoc old part (sep ∷ rest)

pub longer : (old one part : List ℕ) (n : ℕ) → one ≡ old ++ part → length part ≤ n → length one ≤ length old + n
longer old one part n e less = omega (arith, ap length e, length-append old part, less)

pub octet_within : (n : ℕ) → n < 2 ^ 8 → length (number_text n) ≤ 3
octet_within n fits = length-decimal-le 3 n (omega arith) (omega arith) (omega arith)
