-- Clearing the bits of one byte after another.
use Rattle.std.proofs.Common.{◌≡◌, ℕ, ◌+◌, ◌<◌, ◌-◌, List, [], ◌∷◌, ◌++◌, length, take, drop, set, get_or, refl, ap, ◌∙◌, append_assoc, arith}
use Rattle.std.proofs.lemmas.List.{take_more_set, drop_more, drop-set-lt}
use Rattle.bmp_specs.specs.Prefix.{high_bits, first_bits}

pub clear_more : (all xs : List ℕ) (i n : ℕ) → i < length xs → all ≡ take i xs ++ first_bits n (drop i xs)
    → all ≡ take (i + 1) (set xs i (high_bits n (get_or xs i 0))) ++ first_bits (n - 8) (drop (i + 1) (set xs i (high_bits n (get_or xs i 0))))
clear_more all xs i n lt e =
    let b = high_bits n (get_or xs i 0) in
    let front : take (i + 1) (set xs i b) ≡ take i xs ++ b ∷ [] = take_more_set xs i b lt in
    let back : drop (i + 1) (set xs i b) ≡ drop (i + 1) xs = drop-set-lt (i + 1) xs i b (omega arith) in
    let first : first_bits n (drop i xs) ≡ b ∷ first_bits (n - 8) (drop (i + 1) xs) = ap (λ (l : List ℕ). first_bits n l) (drop_more xs i 0 lt) in
    e ∙ ap (λ (l : List ℕ). take i xs ++ l) first ∙ rw (front, back, append_assoc) refl
