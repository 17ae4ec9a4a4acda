use Rattle.std.proofs.Common.{◌≡◌, ◌+◌, ◌<◌, ◌≤◌, ◌/◌, ◌%◌, ◌^◌, [], ◌∷◌, ◌++◌, List, length, ℕ, arith, sym, ap, ◌∙◌, append_assoc, length-append}
use Rattle.std.proofs.lemmas.Fmt.{decimal_digit, decimal_step}
use Rattle.bmp_specs.specs.NumberText.{number_text}
use Rattle.ip_prefix.proofs.short.ShortText.+put_number.Goals as goal

-- the two digits of a number below 100
abbrev pair : ℕ → List ℕ
pair n = (48 + n / 10) ∷ (48 + n % 10) ∷ []

pair_is : (n : ℕ) → 10 ≤ n → n < 100 → number_text n ≡ pair n
pair_is n more less = decimal_step n more (omega arith) ∙ ap (λ (l : List ℕ). l ++ (48 + n % 10) ∷ []) (decimal_digit (n / 10) (omega arith))

-- the three digits of a number below 1000
abbrev three : ℕ → List ℕ
three n = (48 + n / 100) ∷ pair (n % 100)

-- two digits more
pair_step : (n : ℕ) → 100 ≤ n → n < 2 ^ 64 → number_text n ≡ number_text (n / 100) ++ pair (n % 100)
pair_step n more fits =
    let tens = n / 10 in
    let front : tens / 10 ≡ n / 100 = omega arith in
    let high : tens % 10 ≡ n % 100 / 10 = omega arith in
    let low : n % 10 ≡ n % 100 % 10 = omega arith in
    decimal_step n (omega arith) fits
    ∙ ap (λ (l : List ℕ). l ++ (48 + n % 10) ∷ []) (decimal_step tens (omega arith) (omega arith))
    ∙ append_assoc (number_text (tens / 10)) ((48 + tens % 10) ∷ []) ((48 + n % 10) ∷ [])
    ∙ (λ i. number_text (front i) ++ ((48 + high i) ∷ (48 + low i) ∷ []))

three_is : (n : ℕ) → 100 ≤ n → n < 1000 → number_text n ≡ three n
three_is n more less = pair_step n more (omega arith) ∙ ap (λ (l : List ℕ). l ++ pair (n % 100)) (decimal_digit (n / 100) (omega arith))

-- three digits more
three_step : (n : ℕ) → 1000 ≤ n → n < 2 ^ 64 → number_text n ≡ number_text (n / 1000) ++ three (n % 1000)
three_step n more fits =
    let hundreds = n / 100 in
    let front : hundreds / 10 ≡ n / 1000 = omega arith in
    let high : hundreds % 10 ≡ n % 1000 / 100 = omega arith in
    let low : n % 100 ≡ n % 1000 % 100 = omega arith in
    pair_step n (omega arith) fits
    ∙ ap (λ (l : List ℕ). l ++ pair (n % 100)) (decimal_step hundreds (omega arith) (omega arith))
    ∙ append_assoc (number_text (hundreds / 10)) ((48 + hundreds % 10) ∷ []) (pair (n % 100))
    ∙ (λ i. number_text (front i) ++ ((48 + high i) ∷ pair (low i)))

step_length : (n : ℕ) → 1000 ≤ n → n < 2 ^ 64 → length (number_text n) ≡ length (number_text (n / 1000)) + 3
step_length n more fits = ap length (three_step n more fits) ∙ length-append (number_text (n / 1000)) (three (n % 1000))

pub push-requires : goal.push-requires
push-requires t c = omega (arith, c.requires, ap length (decimal_digit c.args.number c.if-number-lt10.true))

pub put_pair-requires-clause-room : goal.put_pair-requires-clause-room
put_pair-requires-clause-room t c = omega (arith, c.requires, ap length (pair_is c.args.number c.if-number-lt10.false c.if-number-lt100.true))

pub put_number-requires : goal.put_number-requires
put_number-requires t c =
    (omega (arith, c.decreases, c.if-number-lt1000.false), omega (arith, c.requires, step_length c.args.number c.if-number-lt1000.false c.ranges.number.fits))

pub put_three-requires-clause-room : goal.put_three-requires-clause-room
put_three-requires-clause-room t c = omega (arith, c.requires, ap length (three_is c.args.number c.if-number-lt100.false c.if-number-lt1000.true))

pub put_three-requires-else-number-lt1000-clause-room : goal.put_three-requires-else-number-lt1000-clause-room
put_three-requires-else-number-lt1000-clause-room t c =
    omega (arith, c.requires, ap length c.put_number.ensures, length-append c.args.self.now (number_text (c.args.number / 1000)), step_length c.args.number c.if-number-lt1000.false c.ranges.number.fits)

pub returns-then-number-lt10 : goal.returns-then-number-lt10
returns-then-number-lt10 t c = c.push.ensures ∙ ap (λ (l : List ℕ). c.args.self.now ++ l) (sym (decimal_digit c.args.number c.if-number-lt10.true))

pub returns-then-number-lt100 : goal.returns-then-number-lt100
returns-then-number-lt100 t c = c.put_pair.ensures ∙ ap (λ (l : List ℕ). c.args.self.now ++ l) (sym (pair_is c.args.number c.if-number-lt10.false c.if-number-lt100.true))

pub returns-then-number-lt1000 : goal.returns-then-number-lt1000
returns-then-number-lt1000 t c = c.put_three.ensures ∙ ap (λ (l : List ℕ). c.args.self.now ++ l) (sym (three_is c.args.number c.if-number-lt100.false c.if-number-lt1000.true))

pub returns-else-number-lt1000 : goal.returns-else-number-lt1000
returns-else-number-lt1000 t c =
    c.put_three-else-number-lt1000.ensures ∙ ap (λ (l : List ℕ). l ++ three (c.args.number % 1000)) c.put_number.ensures ∙ append_assoc c.args.self.now (number_text (c.args.number / 1000)) (three (c.args.number % 1000))
    ∙ ap (λ (l : List ℕ). c.args.self.now ++ l) (sym (three_step c.args.number c.if-number-lt1000.false c.ranges.number.fits))
