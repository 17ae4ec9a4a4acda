-- A number that stands in the first bytes is the same whatever follows them.
use Rattle.std.proofs.Common.{◌≡◌, ℕ, ◌+◌, ◌≤◌, List, ◌++◌, length, drop, ap, ◌∙◌, arith, length-drop}
use Rattle.std.proofs.lemmas.List.{drop-append-le}
use Rattle.byteorder.specs.Endian.{big_number}
use Rattle.byteorder.specs.Numbers.{big_from-append}

pub big_number-drop-append : (n at : ℕ) (a x : List ℕ) → at + n ≤ length a → big_number n (drop at (a ++ x)) ≡ big_number n (drop at a)
big_number-drop-append n at a x long =
    let enough : n ≤ length (drop at a) = omega (arith, length-drop at a) in
    ap (λ (l : List ℕ). big_number n l) (drop-append-le at a x (omega arith)) ∙ big_from-append n (drop at a) x enough
