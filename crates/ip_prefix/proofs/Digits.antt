-- The texts of numbers and groups, digit by digit.
use Rattle.std.proofs.Common.{◌≡◌, ℕ, zero, suc, ◌+◌, ◌<◌, ◌≤◌, ◌-◌, ◌/◌, ◌%◌, ◌^◌, List, [], ◌∷◌, ◌++◌, length, Bool, true, false, cond, refl, sym, ap, ◌∙◌, arith, append_assoc, length-append, eq-eqb, ne_eqb, inl, inr, ◌⊎◌, lt-ltb, le-ltb}
use Rattle.std.proofs.lemmas.Bool.{cases_lt}
use Rattle.std.proofs.lemmas.Fmt.{hex_one_digit}
use Rattle.std.proofs.lemmas.Nat.{div_below}
use Rattle.std.proofs.Math.Nat.{pow-suc}
use Rattle.std.specs.Fmt.{digits_onto, digits, digit_glyph}
use Rattle.std.specs.Prelude.{◌==◌}
use Rattle.bmp_specs.specs.AddressText.{group_text}

onto-append : (k n : ℕ) (acc : List ℕ) → digits_onto k 16 false n acc ≡ digits_onto k 16 false n [] ++ acc
onto-append zero n acc = refl
onto-append (suc k) n acc =
    by (n / 16 == 0) (onto-append k (n / 16) (digit_glyph false (n % 16) ∷ acc)) (onto-append k (n / 16) (digit_glyph false (n % 16) ∷ []))
  where
    by : (t : Bool) → digits_onto k 16 false (n / 16) (digit_glyph false (n % 16) ∷ acc) ≡ digits_onto k 16 false (n / 16) [] ++ (digit_glyph false (n % 16) ∷ acc) → digits_onto k 16 false (n / 16) (digit_glyph false (n % 16) ∷ []) ≡ digits_onto k 16 false (n / 16) [] ++ (digit_glyph false (n % 16) ∷ []) → cond t (digit_glyph false (n % 16) ∷ acc) (digits_onto k 16 false (n / 16) (digit_glyph false (n % 16) ∷ acc)) ≡ cond t (digit_glyph false (n % 16) ∷ []) (digits_onto k 16 false (n / 16) (digit_glyph false (n % 16) ∷ [])) ++ acc
    by true p q = refl
    by false p q = p ∙ sym (append_assoc (digits_onto k 16 false (n / 16) []) (digit_glyph false (n % 16) ∷ []) acc) ∙ ap (λ (l : List ℕ). l ++ acc) (sym q)

-- more room than the digits need changes nothing
onto_room : (k n : ℕ) (acc : List ℕ) → n < 16 ^ suc k → digits_onto (suc k) 16 false n acc ≡ digits_onto (suc (suc k)) 16 false n acc
onto_room zero n acc less =
    let last : (n / 16 == 0) ≡ true = eq-eqb (n / 16) 0 (omega arith) in
    let glyph = digit_glyph false (n % 16) in
    ap (λ (t : Bool). cond t (glyph ∷ acc) (digits_onto zero 16 false (n / 16) (glyph ∷ acc))) last ∙ sym (ap (λ (t : Bool). cond t (glyph ∷ acc) (digits_onto (suc zero) 16 false (n / 16) (glyph ∷ acc))) last)
onto_room (suc k) n acc less =
    let glyph = digit_glyph false (n % 16) in
    ap (λ (l : List ℕ). cond (n / 16 == 0) (glyph ∷ acc) l) (onto_room k (n / 16) (glyph ∷ acc) (div_below n 16 (16 ^ suc k) (omega arith) (omega (arith, less, pow-suc 16 (suc k)))))

-- the last digit comes after those of the sixteenth part
onto_step : (k n : ℕ) → 16 ≤ n → n < 16 ^ suc (suc k) → digits_onto (suc (suc k)) 16 false n [] ≡ digits_onto (suc (suc k)) 16 false (n / 16) [] ++ (digit_glyph false (n % 16) ∷ [])
onto_step k n more less =
    let glyph = digit_glyph false (n % 16) in
    let others : (n / 16 == 0) ≡ false = ne_eqb (n / 16) 0 (omega arith) in
    let room : digits_onto (suc k) 16 false (n / 16) [] ≡ digits_onto (suc (suc k)) 16 false (n / 16) [] = onto_room k (n / 16) [] (div_below n 16 (16 ^ suc k) (omega arith) (omega (arith, less, pow-suc 16 (suc k)))) in
    ap (λ (t : Bool). cond t (glyph ∷ []) (digits_onto (suc k) 16 false (n / 16) (glyph ∷ []))) others ∙ onto-append (suc k) (n / 16) (glyph ∷ []) ∙ ap (λ (l : List ℕ). l ++ (glyph ∷ [])) room

pub group_step : (n : ℕ) → 16 ≤ n → n < 2 ^ 16 → group_text n ≡ group_text (n / 16) ++ group_text (n % 16)
unfolding digits
group_step n more less = onto_step 62 n more (omega arith) ∙ ap (λ (l : List ℕ). group_text (n / 16) ++ l) (sym (hex_one_digit false (n % 16) (omega arith)))

-- a group has four digits at most
group_length : (k n : ℕ) → n < 16 ^ suc k → n < 2 ^ 16 → length (group_text n) ≤ suc k
group_length zero n less fits = omega (arith, ap length (hex_one_digit false n (omega arith)))
group_length (suc k) n less fits = by (cases_lt n 16) (group_length k (n / 16) (div_below n 16 (16 ^ suc k) (omega arith) (omega (arith, less, pow-suc 16 (suc k)))) (omega arith))
  where
    by : (n < 16) ⊎ (16 ≤ n) → length (group_text (n / 16)) ≤ suc k → length (group_text n) ≤ suc (suc k)
    by (inl one) ih = omega (arith, ap length (hex_one_digit false n one))
    by (inr more) ih = omega (arith, ih, ap length (group_step n more fits), length-append (group_text (n / 16)) (group_text (n % 16)), ap length (hex_one_digit false (n % 16) (omega arith)))

pub group_within : (n : ℕ) → n < 2 ^ 16 → length (group_text n) ≤ 4
group_within n fits = group_length 3 n fits fits

pub hex_small : (n : ℕ) → n < 10 → (48 + n) ∷ [] ≡ group_text n
hex_small n less = ap (λ (t : Bool). cond t (48 + n) (87 + n) ∷ []) (sym (lt-ltb n 10 less)) ∙ sym (hex_one_digit false n (omega arith))

pub hex_large : (n : ℕ) → 10 ≤ n → n < 16 → (97 + (n - 10)) ∷ [] ≡ group_text n
hex_large n more less = ap (λ (m : ℕ). m ∷ []) {x = 97 + (n - 10)} {y = 87 + n} (omega arith) ∙ ap (λ (t : Bool). cond t (48 + n) (87 + n) ∷ []) (sym (le-ltb n 10 more)) ∙ sym (hex_one_digit false n less)

pub group_digit : (n : ℕ) → n < 16 → length (group_text n) ≡ 1
group_digit n less = ap length (hex_one_digit false n less)
