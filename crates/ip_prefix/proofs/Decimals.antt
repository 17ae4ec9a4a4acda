-- Decimal digits, read one after another.
use Rattle.std.proofs.Common.{◌≡◌, ℕ, ◌+◌, ◌<◌, ◌≤◌, ◌-◌, ◌*◌, ◌^◌, ◌/◌, List, length, take, get_or, sym, ap, subst, ◌∙◌, arith, ◌⊎◌, inl, inr, eq-or-lt_of_le, take_all}
use Rattle.std.proofs.lemmas.Bool.Decides.{nat_tests}
use Rattle.std.proofs.lemmas.Fmt.{digits_decimal, digits_value-decimal, decimal-digits_value, decimal_nonempty, first_decimal, decimal_digit}
use Rattle.std.proofs.lemmas.Int.Digits.{digits_more, digits_value_more}
use Rattle.std.proofs.lemmas.Str.Parse.{IsNumeralModel, numerals_by_value, tells_digits, digit_at, digits_value-take-le}
use Rattle.std.specs.Char.{digit_value}
use Rattle.std.specs.Str.Parse.{AllDigits, digits_value}
use Rattle.bmp_specs.specs.NumberText.{number_text, IsNumberUpTo}

own : IsNumeralModel (AllDigits 10) (digits_value 10)
own = numerals_by_value (AllDigits 10) tells_digits

digit_is : (b : ℕ) → 48 ≤ b → b ≤ 57 → digit_value b ≡ b - 48
digit_is b low high = grind (arith, nat_tests)

pub digits_go : (text : List ℕ) (i : ℕ) → i < length text → AllDigits 10 (take i text) → 48 ≤ get_or text i 0 → get_or text i 0 ≤ 57 → AllDigits 10 (take (i + 1) text)
digits_go text i here digits low high = digits_more 10 text i here digits (omega (arith, digit_is (get_or text i 0) low high))

pub value_goes : (text : List ℕ) (i n : ℕ) → i < length text → n ≡ digits_value 10 (take i text) → 48 ≤ get_or text i 0 → get_or text i 0 ≤ 57 → n * 10 + (get_or text i 0 - 48) ≡ digits_value 10 (take (i + 1) text)
value_goes text i n here value low high =
    sym (digits_value_more 10 text i here ∙ omega (arith, value, digit_is (get_or text i 0) low high))

-- a number that the text is
module _ (most : ℕ) (text : List ℕ) (n : ℕ) (fits : most < 2 ^ 64) (is : IsNumberUpTo most text n) where
  small : n < 2 ^ 64
  small = omega (arith, is.within)

  digits_of_text : AllDigits 10 text
  digits_of_text = subst (AllDigits 10) (sym is.spelled) (digits_decimal own n small)

  value_of_text : digits_value 10 text ≡ n
  value_of_text = ap (digits_value 10) is.spelled ∙ digits_value-decimal own n small

  pub not_empty : length text ≡ 0 → ⊥
  not_empty none = omega (arith, none, ap length is.spelled, decimal_nonempty n small)

  pub no_leading_zero : get_or text 0 0 ≡ 48 → 1 < length text → ⊥
  no_leading_zero zero long = by (eq-or-lt_of_le {n = 0} {m = n} (omega arith))
    where
      by : (0 ≡ n) ⊎ (0 < n) → ⊥
      by (inl none) = omega (arith, long, ap length is.spelled, ap (λ (k : ℕ). length (number_text k)) none, ap length (decimal_digit 0 (omega arith)))
      by (inr some) = omega (arith, zero, ap (λ (l : List ℕ). get_or l 0 0) is.spelled, first_decimal n some small)

  pub all_digits : (i : ℕ) → i < length text → (48 ≤ get_or text i 0) × (get_or text i 0 ≤ 57)
  all_digits i here = let at = digit_at text i digits_of_text here in (at.0, at.1)

  pub stays_small : (i : ℕ) → digits_value 10 (take i text) ≤ n
  stays_small i = omega (arith, digits_value-take-le 10 text i (omega arith), value_of_text)

-- what was read is the number
pub number_is : (most : ℕ) (text : List ℕ) (i n : ℕ) → most < 2 ^ 64 → 0 < length text → (get_or text 0 0 ≡ 48 → length text ≡ 1) → length text ≤ i → AllDigits 10 (take i text) → n ≡ digits_value 10 (take i text) → n ≤ most
    → IsNumberUpTo most text n
number_is most text i n fits some single past digits value within =
    let whole : take i text ≡ text = take_all i text past in
    let is : n ≡ digits_value 10 text = value ∙ ap (digits_value 10) whole in
    record {
      within = within;
      spelled = sym (ap number_text is ∙ decimal-digits_value own text (subst (AllDigits 10) whole digits) some single (omega (arith, is, within, fits)));
    }

-- one digit more is past every number
pub too_large : (most : ℕ) (text : List ℕ) (i n m digit : ℕ) → most < 2 ^ 64 → IsNumberUpTo most text m → i < length text → n ≡ digits_value 10 (take i text) → 48 ≤ get_or text i 0 → get_or text i 0 ≤ 57 → digit ≡ get_or text i 0 - 48 → (18446744073709551615 - digit) / 10 < n → ⊥
too_large most text i n m digit fits is here value low high same over =
    omega (arith, fits, is.within, same, over, value_goes text i n here value low high, stays_small most text m fits is (i + 1))

pub too_great : (most : ℕ) (text : List ℕ) (i n m : ℕ) → most < 2 ^ 64 → IsNumberUpTo most text m → length text ≤ i → n ≡ digits_value 10 (take i text) → most < n → ⊥
too_great most text i n m fits is past value over =
    omega (arith, is.within, over, value ∙ ap (digits_value 10) (take_all i text past), value_of_text most text m fits is)
