-- The first bits of bytes, in the order of bytes.
use Rattle.std.proofs.Common.{◌≡◌, ℕ, suc, ◌+◌, ◌-◌, ◌*◌, ◌/◌, ◌%◌, ◌^◌, ◌<◌, ◌≤◌, ◌⊎◌, length, get_or, true, false, List, [], ◌∷◌, refl, ap, sym, ◌∙◌, subst, inl, inr, arith}
use Rattle.std.specs.declared.cmp.Ordering.TheVariants.{Less, Equal, Greater}
use Rattle.std.specs.Ordering.{nat_cmp, ordering_then, is_lt, is_gt}
use Rattle.std.specs.Cmp.Lexicographic.{slice_cmp}
use Rattle.std.proofs.lemmas.Bool.{cases_lt}
use Rattle.std.proofs.lemmas.Bool.Decides.{nat_tests}
use Rattle.std.proofs.lemmas.Nat.{div-add-mod', le-div, pow_pos, shr-shr, shl-shr}
use Rattle.std.proofs.Math.Nat.{mul-le-mul_right, div-mul-le_self}
use Rattle.bmp_specs.specs.Prefix.{high_bits, first_bits}

-- each byte is one
abbrev pub AreBytes : List ℕ → Type 0
AreBytes xs = (k : ℕ) → get_or xs k 0 < 256

-- of two lists of one length, the first is no later
abbrev pub IsAtMost : List ℕ → List ℕ → Type 0
IsAtMost [] [] = Unit {0}
IsAtMost [] (y ∷ ys) = ⊥
IsAtMost (x ∷ xs) [] = ⊥
IsAtMost (x ∷ xs) (y ∷ ys) = (x < y) ⊎ ((x ≡ y) × IsAtMost xs ys)

-- a number without its rest is a multiple
pub whole_part : (x m : ℕ) → x - x % m ≡ x / m * m
whole_part x m = omega (arith, div-add-mod' x m)

pub all_high : (n x : ℕ) → 8 ≤ n → high_bits n x ≡ x
all_high n x h = ap (λ (k : ℕ). x - x % 2 ^ k) {x = 8 - n} {y = 0} (omega arith) ∙ omega arith

pub no_high : (x : ℕ) → x < 256 → high_bits 0 x ≡ 0
no_high x h = omega arith

high_up : (n x y : ℕ) → x ≤ y → high_bits n x ≤ high_bits n y
high_up n x y h =
    let m = 2 ^ (8 - n) in
    let more : x / m ≤ y / m = le-div (x / m) y m (pow_pos (8 - n)) (omega (arith, h, div-mul-le_self x m)) in
    omega (arith, whole_part x m, whole_part y m, mul-le-mul_right m more)

-- the first m of the first n bits
high_few : (m n x : ℕ) → m ≤ n → high_bits m (high_bits n x) ≡ high_bits m x
high_few m n x h =
    let j = 8 - n in
    let d = 8 - m - (8 - n) in
    let front : x - x % 2 ^ j ≡ x / 2 ^ j * 2 ^ j = whole_part x (2 ^ j) in
    let sum : j + d ≡ 8 - m = omega arith in
    let top : (x - x % 2 ^ j) / 2 ^ (8 - m) ≡ x / 2 ^ (8 - m) =
    ap (λ (t : ℕ). t / 2 ^ (8 - m)) front ∙ ap (λ (k : ℕ). x / 2 ^ j * 2 ^ j / 2 ^ k) (sym sum) ∙ sym (shr-shr (x / 2 ^ j * 2 ^ j) j d)
    ∙ ap (λ (t : ℕ). t / 2 ^ d) (shl-shr (x / 2 ^ j) j) ∙ shr-shr x j d ∙ ap (λ (k : ℕ). x / 2 ^ k) sum in
    whole_part (x - x % 2 ^ j) (2 ^ (8 - m)) ∙ ap (λ (t : ℕ). t * 2 ^ (8 - m)) top ∙ sym (whole_part x (2 ^ (8 - m)))

pub no_first : (xs ys : List ℕ) → length xs ≡ length ys → AreBytes xs → AreBytes ys → first_bits 0 xs ≡ first_bits 0 ys
no_first [] [] len p q = refl
no_first [] (y ∷ ys) len p q = absurd (omega arith)
no_first (x ∷ xs) [] len p q = absurd (omega arith)
no_first (x ∷ xs) (y ∷ ys) len p q =
    ap (λ (b : ℕ). b ∷ first_bits 0 xs) (no_high x (p 0) ∙ sym (no_high y (q 0))) ∙ ap (λ (l : List ℕ). high_bits 0 y ∷ l) (no_first xs ys (omega arith) (λ k. p (suc k)) (λ k. q (suc k)))

-- the first m of the first n bits
pub first_few : (m n : ℕ) (xs : List ℕ) → m ≤ n → first_bits m (first_bits n xs) ≡ first_bits m xs
first_few m n [] h = refl
first_few m n (x ∷ xs) h = ap (λ (b : ℕ). b ∷ first_bits (m - 8) (first_bits (n - 8) xs)) (high_few m n x h) ∙ ap (λ (l : List ℕ). high_bits m x ∷ l) (first_few (m - 8) (n - 8) xs (omega arith))

pub at_most_self : (xs : List ℕ) → IsAtMost xs xs
at_most_self [] = tt
at_most_self (x ∷ xs) = inr (refl, at_most_self xs)

pub at_most_both : (xs ys : List ℕ) → IsAtMost xs ys → IsAtMost ys xs → xs ≡ ys
at_most_both [] [] a b = refl
at_most_both [] (y ∷ ys) a b = absurd a
at_most_both (x ∷ xs) [] a b = absurd a
at_most_both (x ∷ xs) (y ∷ ys) (inl l) (inl m) = absurd (omega arith)
at_most_both (x ∷ xs) (y ∷ ys) (inl l) (inr m) = absurd (omega (arith, m.0))
at_most_both (x ∷ xs) (y ∷ ys) (inr e) (inl m) = absurd (omega (arith, e.0))
at_most_both (x ∷ xs) (y ∷ ys) (inr e) (inr f) = ap (λ (b : ℕ). b ∷ xs) e.0 ∙ ap (λ (l : List ℕ). y ∷ l) (at_most_both xs ys e.1 f.1)

-- what is no later has first bits that are no later
pub first_up : (n : ℕ) (xs ys : List ℕ) → length xs ≡ length ys → AreBytes xs → AreBytes ys → IsAtMost xs ys → IsAtMost (first_bits n xs) (first_bits n ys)
first_up n [] [] len p q a = tt
first_up n [] (y ∷ ys) len p q a = absurd a
first_up n (x ∷ xs) [] len p q a = absurd a
first_up n (x ∷ xs) (y ∷ ys) len p q (inr e) = inr (ap (high_bits n) e.0, first_up (n - 8) xs ys (omega arith) (λ k. p (suc k)) (λ k. q (suc k)) e.1)
first_up n (x ∷ xs) (y ∷ ys) len p q (inl l) = elim (cases_lt (high_bits n x) (high_bits n y)) [
  | inl less ↦ inl less
  | inr more ↦
      let same : high_bits n x ≡ high_bits n y = let up = high_up n x y (omega arith) in omega arith in
      elim (cases_lt n 8) [
        | inl few ↦
            let none : n - 8 ≡ 0 = omega arith in
            let rest : first_bits (n - 8) xs ≡ first_bits (n - 8) ys =
            ap (λ (k : ℕ). first_bits k xs) none ∙ no_first xs ys (omega arith) (λ k. p (suc k)) (λ k. q (suc k)) ∙ ap (λ (k : ℕ). first_bits k ys) (sym none) in
            inr (same, subst (λ (l : List ℕ). IsAtMost (first_bits (n - 8) xs) l) rest (at_most_self (first_bits (n - 8) xs)))
        | inr many ↦ absurd (let a = all_high n x many in let b = all_high n y many in omega arith)
      ]
]

-- the first bits are no later than the whole
pub first_below : (n : ℕ) (xs : List ℕ) → IsAtMost (first_bits n xs) xs
first_below n [] = tt
first_below n (x ∷ xs) = elim (cases_lt (high_bits n x) x) [
  | inl less ↦ inl less
  | inr more ↦ inr (omega arith, first_below (n - 8) xs)
]

-- fewer first bits are no later than more
pub first_fewer : (m n : ℕ) (xs : List ℕ) → m ≤ n → IsAtMost (first_bits m xs) (first_bits n xs)
first_fewer m n xs h = subst (λ (l : List ℕ). IsAtMost l (first_bits n xs)) (first_few m n xs h) (first_below m (first_bits n xs))

-- ---- and by the comparison
pub at_most_from : (xs ys : List ℕ) → length xs ≡ length ys → is_gt (slice_cmp nat_cmp xs ys) ≡ false → IsAtMost xs ys
at_most_from [] [] len e = tt
at_most_from [] (y ∷ ys) len e = absurd (omega arith)
at_most_from (x ∷ xs) [] len e = absurd (omega arith)
at_most_from (x ∷ xs) (y ∷ ys) len e = elim (cases_lt x y) [
  | inl less ↦ inl less
  | inr more ↦ elim (cases_lt y x) [
    | inl greater ↦
        let is : nat_cmp x y ≡ Greater = grind (arith, nat_tests) in
        let clash : true ≡ false = ap (λ o. is_gt (ordering_then o (slice_cmp nat_cmp xs ys))) (sym is) ∙ e in
        absurd cc
    | inr equal ↦
        let is : nat_cmp x y ≡ Equal = grind (arith, nat_tests) in
        inr (omega arith, at_most_from xs ys (omega arith) (ap (λ o. is_gt (ordering_then o (slice_cmp nat_cmp xs ys))) (sym is) ∙ e))
  ]
]

pub at_most_back : (xs ys : List ℕ) → length xs ≡ length ys → is_lt (slice_cmp nat_cmp xs ys) ≡ false → IsAtMost ys xs
at_most_back [] [] len e = tt
at_most_back [] (y ∷ ys) len e = absurd (omega arith)
at_most_back (x ∷ xs) [] len e = absurd (omega arith)
at_most_back (x ∷ xs) (y ∷ ys) len e = elim (cases_lt y x) [
  | inl less ↦ inl less
  | inr more ↦ elim (cases_lt x y) [
    | inl greater ↦
        let is : nat_cmp x y ≡ Less = grind (arith, nat_tests) in
        let clash : true ≡ false = ap (λ o. is_lt (ordering_then o (slice_cmp nat_cmp xs ys))) (sym is) ∙ e in
        absurd cc
    | inr equal ↦
        let is : nat_cmp x y ≡ Equal = grind (arith, nat_tests) in
        inr (omega arith, at_most_back xs ys (omega arith) (ap (λ o. is_lt (ordering_then o (slice_cmp nat_cmp xs ys))) (sym is) ∙ e))
  ]
]

pub at_most_cases : (xs ys : List ℕ) → IsAtMost xs ys → (slice_cmp nat_cmp xs ys ≡ Less) ⊎ ((slice_cmp nat_cmp xs ys ≡ Equal) × (xs ≡ ys))
at_most_cases [] [] a = inr (refl, refl)
at_most_cases [] (y ∷ ys) a = absurd a
at_most_cases (x ∷ xs) [] a = absurd a
at_most_cases (x ∷ xs) (y ∷ ys) (inl l) = let is : nat_cmp x y ≡ Less = grind (arith, nat_tests) in inl (ap (λ o. ordering_then o (slice_cmp nat_cmp xs ys)) is)
at_most_cases (x ∷ xs) (y ∷ ys) (inr e) =
    let same = e.0 in
    let is : nat_cmp x y ≡ Equal = grind (arith, nat_tests) in
    let step : slice_cmp nat_cmp (x ∷ xs) (y ∷ ys) ≡ slice_cmp nat_cmp xs ys = ap (λ o. ordering_then o (slice_cmp nat_cmp xs ys)) is in
    elim (at_most_cases xs ys e.1) [
      | inl less ↦ inl (step ∙ less)
      | inr tie ↦ inr (step ∙ tie.0, ap (λ (b : ℕ). b ∷ xs) same ∙ ap (λ (l : List ℕ). y ∷ l) tie.1)
    ]
