-- Numbers in the front of four places give the four back.
use Rattle.std.proofs.Common.{◌≡◌, ℕ, ◌≤◌, ◌-◌, List, ◌++◌, length, take, drop, replicate, sym, ap, ◌∙◌, arith, take-append-drop, length-take-le}

pub some_filled : (count : ℕ) (numbers : List ℕ) → count ≤ 4 → length numbers ≡ 4 → length (take count numbers) ≡ count
some_filled count numbers few four = length-take-le count numbers (omega (arith, few, four))

pub filled : (count : ℕ) (numbers : List ℕ) → count ≤ 4 → length numbers ≡ 4 → drop count numbers ≡ replicate (4 - count) 0 → take count numbers ++ replicate (4 - length (take count numbers)) 0 ≡ numbers
filled count numbers few four zero =
    ap (λ (n : ℕ). take count numbers ++ replicate (4 - n) 0) (some_filled count numbers few four) ∙ ap (λ (l : List ℕ). take count numbers ++ l) (sym zero) ∙ take-append-drop count numbers
