-- How many first bits two lists of bytes share, byte by byte.
use Rattle.std.proofs.Common.{◌≡◌, ◌≢◌, ℕ, suc, ◌+◌, ◌-◌, ◌*◌, ◌/◌, ◌^◌, ◌<◌, ◌≤◌, length, get_or, drop, List, ◌∷◌, ap, sym, ◌∙◌, subst, inl, inr, arith, length-drop}
use Rattle.std.specs.Int.Bits.{bit_xor, xor_add_and, xor_self}
use Rattle.std.specs.Int.Count.{count_leading_zeros, leading_of_zero}
use Rattle.std.proofs.lemmas.Bool.{cases_lt}
use Rattle.std.proofs.lemmas.Nat.{le-div, pow_pos, shr-shr, shl-shr, xor_shr, xor_lt, leading_top, leading_le, and_le_l, and_le_r}
use Rattle.std.proofs.Math.Nat.{div-eq_of_lt}
use Rattle.std.proofs.lemmas.List.{drop_more, get_or-drop}
use Rattle.bmp_specs.specs.Prefix.{high_bits, first_bits}
use Rattle.prefix_trie.specs.Agreement.{AgreesFor}
use Rattle.bmp_specs.proofs.FirstBits.{AreBytes, whole_part, no_first}

heads : (x y : ℕ) (xs ys : List ℕ) → x ∷ xs ≡ y ∷ ys → x ≡ y
heads x y xs ys e = ap (λ (l : List ℕ). get_or l 0 0) e

tails : (x y : ℕ) (xs ys : List ℕ) → x ∷ xs ≡ y ∷ ys → xs ≡ ys
tails x y xs ys e = ap (λ (l : List ℕ). drop 1 l) e

-- past a byte that both have
pub agrees_more : (x y : ℕ) (xs ys : List ℕ) (n : ℕ) → x ≡ y → AgreesFor xs ys n → AgreesFor (x ∷ xs) (y ∷ ys) (8 + n)
agrees_more x y xs ys n same a = record {
  within = omega (arith, a.within);
  agree =
      let back : 8 + n - 8 ≡ n = omega arith in
      ap (λ (b : ℕ). high_bits (8 + n) b ∷ first_bits (8 + n - 8) xs) same ∙ ap (λ (k : ℕ). high_bits (8 + n) y ∷ first_bits k xs) back
      ∙ ap (λ (l : List ℕ). high_bits (8 + n) y ∷ l) a.agree ∙ ap (λ (k : ℕ). high_bits (8 + n) y ∷ first_bits k ys) (sym back);
  most = λ m h e. let rest = a.most (m - 8) (omega (arith, h)) (tails _ _ _ _ e) in omega (arith, rest);
}

-- a number whose exclusive or is nothing
same_from_xor : (a b : ℕ) → bit_xor a b ≡ 0 → a ≡ b
same_from_xor a b e = omega (arith, e, xor_add_and a b, and_le_l a b, and_le_r a b)

-- bytes that differ share the bits above the first that differs
shared_high : (x y n j : ℕ) → n + suc j ≡ 8 → bit_xor x y < 2 ^ suc j → high_bits n x ≡ high_bits n y
shared_high x y n j sum less =
    let k : 8 - n ≡ suc j = omega arith in
    let small : bit_xor x y < 2 ^ (8 - n) = subst (λ (i : ℕ). bit_xor x y < 2 ^ i) (sym k) less in
    let top : x / 2 ^ (8 - n) ≡ y / 2 ^ (8 - n) = same_from_xor _ _ (sym (xor_shr x y (8 - n)) ∙ div-eq_of_lt small) in
    whole_part x (2 ^ (8 - n)) ∙ ap (λ (t : ℕ). t * 2 ^ (8 - n)) top ∙ sym (whole_part y (2 ^ (8 - n)))

same_high : (x y m : ℕ) → high_bits m x ≡ high_bits m y → x / 2 ^ (8 - m) ≡ y / 2 ^ (8 - m)
same_high x y m e =
    let both : x / 2 ^ (8 - m) * 2 ^ (8 - m) ≡ y / 2 ^ (8 - m) * 2 ^ (8 - m) = sym (whole_part x (2 ^ (8 - m))) ∙ e ∙ whole_part y (2 ^ (8 - m)) in
    sym (shl-shr (x / 2 ^ (8 - m)) (8 - m)) ∙ ap (λ (t : ℕ). t / 2 ^ (8 - m)) both ∙ shl-shr (y / 2 ^ (8 - m)) (8 - m)

no_more : (x y n j m : ℕ) → n + suc j ≡ 8 → 2 ^ j ≤ bit_xor x y → high_bits m x ≡ high_bits m y → m ≤ n
no_more x y n j m sum more e = elim (cases_lt n m) [
  | inl less ↦
      let d = j - (8 - m) in
      let split : 8 - m + d ≡ j = omega arith in
      let top : x / 2 ^ j ≡ y / 2 ^ j =
      ap (λ (k : ℕ). x / 2 ^ k) (sym split) ∙ sym (shr-shr x (8 - m) d) ∙ ap (λ (t : ℕ). t / 2 ^ d) (same_high x y m e) ∙ shr-shr y (8 - m) d ∙ ap (λ (k : ℕ). y / 2 ^ k) split in
      let none : bit_xor x y / 2 ^ j ≡ 0 = xor_shr x y j ∙ ap (λ (t : ℕ). bit_xor t (y / 2 ^ j)) top ∙ xor_self (y / 2 ^ j) in
      absurd (omega (arith, none, le-div 1 (bit_xor x y) (2 ^ j) (pow_pos j) (omega (arith, more))))
  | inr most ↦ most
]

-- at bytes that differ
pub agrees_apart : (x y : ℕ) (xs ys : List ℕ) (n : ℕ) → length xs ≡ length ys → AreBytes (x ∷ xs) → AreBytes (y ∷ ys) → x ≢ y → n ≡ count_leading_zeros 8 (bit_xor x y) → AgreesFor (x ∷ xs) (y ∷ ys) n
agrees_apart x y xs ys n len p q apart is =
    let some : 0 < bit_xor x y = elim (cases_lt 0 (bit_xor x y)) [ inl l ↦ l | inr m ↦ absurd (apart (same_from_xor x y (omega arith))) ] in
    let (j, sum, more, less) = leading_top 8 (bit_xor x y) some (xor_lt 8 x y (p 0) (q 0)) in
    let at : n + suc j ≡ 8 = ap (λ (k : ℕ). k + suc j) is ∙ sum in
    let none : n - 8 ≡ 0 = omega arith in
    record {
      within = omega arith;
      agree = ap (λ (b : ℕ). b ∷ first_bits (n - 8) xs) (shared_high x y n j at less)
          ∙ ap (λ (l : List ℕ). high_bits n y ∷ l) (ap (λ (k : ℕ). first_bits k xs) none ∙ no_first xs ys len (λ k. p (suc k)) (λ k. q (suc k)) ∙ ap (λ (k : ℕ). first_bits k ys) (sym none));
      most = λ m h e. no_more x y n j m at more (heads _ _ _ _ e);
    }

bytes_from : (i : ℕ) (xs : List ℕ) → AreBytes xs → AreBytes (drop i xs)
bytes_from i xs p k = subst (λ (b : ℕ). b < 256) (sym (get_or-drop i xs k 0)) (p (i + k))

equal_bytes : (x y n : ℕ) → x < 256 → y < 256 → n ≡ count_leading_zeros 8 (bit_xor x y) → 8 ≤ n → x ≡ y
equal_bytes x y n p q is all = elim (cases_lt 0 (bit_xor x y)) [
  | inl some ↦ let (j, sum, more, less) = leading_top 8 (bit_xor x y) some (xor_lt 8 x y p q) in absurd (omega (arith, is, sum))
  | inr none ↦ same_from_xor x y (omega arith)
]

other_bytes : (x y n : ℕ) → n ≡ count_leading_zeros 8 (bit_xor x y) → n < 8 → x ≢ y
other_bytes x y n is less same =
    let none : bit_xor x y ≡ 0 = ap (λ (b : ℕ). bit_xor b y) same ∙ xor_self y in
    let all : n ≡ 8 = is ∙ ap (count_leading_zeros 8) none ∙ leading_of_zero 8 in
    omega arith

-- where the bytes before i are the same in both
module _ (xs ys : List ℕ) (i b n : ℕ) (p : AreBytes xs) (q : AreBytes ys) (here : i < length xs) (there : i < length ys) (len : length xs ≡ length ys)
    (is : n ≡ count_leading_zeros 8 (bit_xor (get_or xs i 0) (get_or ys i 0))) (so_far : (k : ℕ) → AgreesFor (drop i xs) (drop i ys) k → AgreesFor xs ys (b + k)) where
  pub agrees_here : n < 8 → AgreesFor xs ys (b + n)
  agrees_here less =
      let at : AgreesFor (get_or xs i 0 ∷ drop (i + 1) xs) (get_or ys i 0 ∷ drop (i + 1) ys) n =
      agrees_apart _ _ _ _ n (omega (arith, length-drop (i + 1) xs, length-drop (i + 1) ys, len))
      (subst AreBytes (drop_more xs i 0 here) (bytes_from i xs p)) (subst AreBytes (drop_more ys i 0 there) (bytes_from i ys q)) (other_bytes _ _ n is less) is in
      so_far n (rw (drop_more xs i 0 here, drop_more ys i 0 there) at)

  pub agrees_on : 8 ≤ n → (k : ℕ) → AgreesFor (drop (i + 1) xs) (drop (i + 1) ys) k → AgreesFor xs ys (b + 8 + k)
  agrees_on all k a =
      let at : AgreesFor (get_or xs i 0 ∷ drop (i + 1) xs) (get_or ys i 0 ∷ drop (i + 1) ys) (8 + k) = agrees_more _ _ _ _ k (equal_bytes _ _ n (p i) (q i) is all) a in
      subst (AgreesFor xs ys) {x = b + (8 + k)} {y = b + 8 + k} (omega arith) (so_far (8 + k) (rw (drop_more xs i 0 here, drop_more ys i 0 there) at))

pub all_eight : (x : ℕ) → 8 ≤ count_leading_zeros 8 x → count_leading_zeros 8 x ≡ 8
all_eight x h = let most = leading_le 8 x in omega arith
