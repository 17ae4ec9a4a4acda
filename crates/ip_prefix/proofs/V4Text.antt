-- Four numbers joined by dots, here and in std.
use Rattle.std.proofs.Common.{◌≡◌, ◌≢◌, ℕ, ◌<◌, ◌≤◌, List, [], ◌∷◌, ◌++◌, All, length, refl, sym, ap, subst, ◌∙◌, arith, append_assoc, Contains}
use Rattle.std.proofs.lemmas.List.Elements.{All-nil, All-cons, All-append, Contains-append_right}
use Rattle.std.proofs.lemmas.Fmt.{decimal_is_IsNumeral}
use Rattle.std.specs.Char.{digit_value}
use Rattle.std.specs.Str.Parse.{AllDigits}
use Rattle.std.specs.Net.Grammar.{IsDotted}
use Rattle.std.specs.Net.Text.{dotted_text}
use Rattle.bmp_specs.specs.AddressText.{dotted, IsV4Text}
use Rattle.bmp_specs.specs.NumberText.{number_text}

dotted_is : (a b c d : ℕ) → dotted_text a b c d ≡ dotted (a ∷ b ∷ c ∷ d ∷ [])
unfolding dotted
dotted_is a b c d = simp append_assoc

pub v4_from : (text octets : List ℕ) → IsDotted text octets → IsV4Text text octets
v4_from text octets is =
    let P : ℕ → Type 0 = λ n. n < 256 in
    let all : All P (is.a ∷ is.b ∷ is.c ∷ is.d ∷ []) = All-cons P is.a (is.b ∷ is.c ∷ is.d ∷ []) is.fit.0 (All-cons P is.b (is.c ∷ is.d ∷ []) is.fit.1 (All-cons P is.c (is.d ∷ []) is.fit.2 (All-cons P is.d [] is.fit.3 (All-nil P)))) in
    record {
      four = ap length is.value;
      within = subst (All P) (sym is.value) all;
      spelled = is.spelled ∙ dotted_is is.a is.b is.c is.d ∙ ap dotted (sym is.value);
    }

pub v4_to : (text numbers : List ℕ) → IsV4Text text numbers → IsDotted text numbers
v4_to text [] is = absurd (omega (arith, is.four))
v4_to text (a ∷ []) is = absurd (omega (arith, is.four))
v4_to text (a ∷ b ∷ []) is = absurd (omega (arith, is.four))
v4_to text (a ∷ b ∷ c ∷ []) is = absurd (omega (arith, is.four))
v4_to text (a ∷ b ∷ c ∷ d ∷ []) is = record {
  a = a;
  b = b;
  c = c;
  d = d;
  fit = (is.within 0 0 (omega arith), is.within 1 0 (omega arith), is.within 2 0 (omega arith), is.within 3 0 (omega arith));
  value = refl;
  spelled = is.spelled ∙ sym (dotted_is a b c d);
}
v4_to text (a ∷ b ∷ c ∷ d ∷ e ∷ rest) is = absurd (omega (arith, is.four))

pub v4_has_dot : (text numbers : List ℕ) → IsDotted text numbers → Contains text 46
unfolding dotted
v4_has_dot text numbers is =
    let rest = number_text is.b ++ (46 ∷ number_text is.c ++ (46 ∷ number_text is.d)) in
    let whole : text ≡ number_text is.a ++ (46 ∷ rest) = is.spelled ∙ dotted_is is.a is.b is.c is.d in
    subst (λ (l : List ℕ). Contains l 46) (sym whole) (Contains-append_right (number_text is.a) (46 ∷ rest) 46 (0, omega arith, refl))

-- no byte of the text is this one
abbrev pub Lacks : ℕ → List ℕ → Type 0
Lacks c xs = All (λ b. b ≢ c) xs

-- a byte that is no digit isn't among digits
pub digits_lack : (radix c : ℕ) → radix ≤ digit_value c → (ds : List ℕ) → AllDigits radix ds → Lacks c ds
digits_lack radix c none [] digits = All-nil (λ b. b ≢ c)
digits_lack radix c none (d ∷ ds) digits = All-cons (λ b. b ≢ c) d ds (λ e. omega (arith, none, digits.0, ap digit_value e)) (digits_lack radix c none ds digits.1)

number_lacks : (c n : ℕ) → 10 ≤ digit_value c → n < 256 → Lacks c (number_text n)
number_lacks c n none fits = digits_lack 10 c none (number_text n) (decimal_is_IsNumeral n (omega arith)).0.1

pub v4_lacks : (c : ℕ) → 10 ≤ digit_value c → c ≢ 46 → (text numbers : List ℕ) → IsDotted text numbers → Lacks c text
unfolding dotted
v4_lacks c none other text numbers is =
    let P : ℕ → Type 0 = λ b. b ≢ c in
    let here : 46 ≢ c = λ e. other (sym e) in
    let d = number_lacks c is.d none is.fit.3 in
    let cd = All-append P (number_text is.c) (46 ∷ number_text is.d) (number_lacks c is.c none is.fit.2) (All-cons P 46 (number_text is.d) here d) in
    let bcd = All-append P (number_text is.b) (46 ∷ number_text is.c ++ (46 ∷ number_text is.d)) (number_lacks c is.b none is.fit.1) (All-cons P 46 (number_text is.c ++ (46 ∷ number_text is.d)) here cd) in
    let all = All-append P (number_text is.a) (46 ∷ number_text is.b ++ (46 ∷ number_text is.c ++ (46 ∷ number_text is.d))) (number_lacks c is.a none is.fit.0) (All-cons P 46 (number_text is.b ++ (46 ∷ number_text is.c ++ (46 ∷ number_text is.d))) here bcd) in
    subst (Lacks c) (sym (is.spelled ∙ dotted_is is.a is.b is.c is.d)) all
