-- Digits that are put one after another.
use Rattle.std.proofs.Common.{◌≡◌, ℕ, ◌+◌, ◌<◌, ◌≤◌, ◌/◌, ◌%◌, ◌^◌, List, [], ◌∷◌, ◌++◌, sym, ap, ◌∙◌, arith, append_assoc, refl, length, take, get_or}
use Rattle.std.proofs.lemmas.Fmt.{decimal_digit, decimal_step}
use Rattle.bmp_specs.specs.AddressText.{dotted}
use Rattle.bmp_specs.specs.NumberText.{number_text}

-- two parts, put one after another
pub put_two : (old one two x y text : List ℕ) → one ≡ old ++ x → two ≡ one ++ y → text ≡ x ++ y → two ≡ old ++ text
put_two old one two x y text p q e = q ∙ ap (λ (l : List ℕ). l ++ y) p ∙ append_assoc old x y ∙ ap (λ (l : List ℕ). old ++ l) (sym e)

-- three parts
pub put_three : (old one two three x y z text : List ℕ) → one ≡ old ++ x → two ≡ one ++ y → three ≡ two ++ z → text ≡ x ++ (y ++ z) → three ≡ old ++ text
put_three old one two three x y z text p q r e = put_two old two three (x ++ y) z text (put_two old one two x y (x ++ y) p q refl) r (e ∙ sym (append_assoc x y z))

-- the two digits of a number below 100
abbrev pub pair : ℕ → List ℕ
pair n = (48 + n / 10) ∷ (48 + n % 10) ∷ []

pub two_digits : (n : ℕ) → 10 ≤ n → n < 100 → number_text n ≡ pair n
two_digits n more less = decimal_step n more (omega arith) ∙ ap (λ (l : List ℕ). l ++ (48 + n % 10) ∷ []) (decimal_digit (n / 10) (omega arith))

-- two digits more
pub two_more : (n : ℕ) → 100 ≤ n → n < 2 ^ 64 → number_text n ≡ number_text (n / 100) ++ pair (n % 100)
two_more n more fits =
    let tens = n / 10 in
    let front : tens / 10 ≡ n / 100 = omega arith in
    let high : tens % 10 ≡ n % 100 / 10 = omega arith in
    let low : n % 10 ≡ n % 100 % 10 = omega arith in
    decimal_step n (omega arith) fits
    ∙ ap (λ (l : List ℕ). l ++ (48 + n % 10) ∷ []) (decimal_step tens (omega arith) (omega arith))
    ∙ append_assoc (number_text (tens / 10)) ((48 + tens % 10) ∷ []) ((48 + n % 10) ∷ [])
    ∙ (λ i. number_text (front i) ++ ((48 + high i) ∷ (48 + low i) ∷ []))

-- the four digits of a number below 10,000
abbrev pub quad : ℕ → List ℕ
quad n = (48 + n / 100 / 10) ∷ (48 + n / 100 % 10) ∷ (48 + n % 100 / 10) ∷ (48 + n % 100 % 10) ∷ []

-- four digits more
pub four_more : (n : ℕ) → 10000 ≤ n → n < 2 ^ 64 → number_text n ≡ number_text (n / 10000) ++ quad (n % 10000)
four_more n more fits =
    let hundreds = n / 100 in
    let front : hundreds / 100 ≡ n / 10000 = omega arith in
    let high : hundreds % 100 ≡ n % 10000 / 100 = omega arith in
    let low : n % 100 ≡ n % 10000 % 100 = omega arith in
    two_more n (omega arith) fits
    ∙ ap (λ (l : List ℕ). l ++ pair (n % 100)) (two_more hundreds (omega arith) (omega arith))
    ∙ append_assoc (number_text (hundreds / 100)) (pair (hundreds % 100)) (pair (n % 100))
    ∙ (λ i. number_text (front i) ++ (pair (high i) ++ pair (low i)))

-- eight digits more
pub eight_more : (n : ℕ) → 100000000 ≤ n → n < 2 ^ 64 → number_text n ≡ number_text (n / 100000000) ++ (quad (n / 10000 % 10000) ++ quad (n % 10000))
eight_more n more fits =
    let front : n / 10000 / 10000 ≡ n / 100000000 = omega arith in
    four_more n (omega arith) fits
    ∙ ap (λ (l : List ℕ). l ++ quad (n % 10000)) (four_more (n / 10000) (omega arith) (omega arith))
    ∙ append_assoc (number_text (n / 10000 / 10000)) (quad (n / 10000 % 10000)) (quad (n % 10000))
    ∙ ap (λ (k : ℕ). number_text k ++ (quad (n / 10000 % 10000) ++ quad (n % 10000))) front

-- three digits
pub three_digits : (n : ℕ) → 100 ≤ n → n < 1000 → number_text n ≡ ((48 + n / 100) ∷ []) ++ pair (n % 100)
three_digits n more less = two_more n more (omega arith) ∙ ap (λ (l : List ℕ). l ++ pair (n % 100)) (decimal_digit (n / 100) (omega arith))

-- four numbers joined by dots
pub dots_are : (octets : List ℕ) → 4 ≤ length octets → dotted (take 4 octets) ≡ number_text (get_or octets 0 0) ++ (46 ∷ (number_text (get_or octets 1 0) ++ (46 ∷ (number_text (get_or octets 2 0) ++ (46 ∷ number_text (get_or octets 3 0))))))
unfolding dotted
dots_are [] h = absurd (omega arith)
dots_are (a ∷ []) h = absurd (omega arith)
dots_are (a ∷ b ∷ []) h = absurd (omega arith)
dots_are (a ∷ b ∷ c ∷ []) h = absurd (omega arith)
dots_are (a ∷ b ∷ c ∷ d ∷ rest) h = refl
