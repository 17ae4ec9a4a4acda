-- The text of a number or of a family has one value.
use Rattle.std.proofs.Common.{◌≡◌, ℕ, List, get_or, refl, sym, ap, ◌∙◌, arith}
use Rattle.std.proofs.lemmas.Fmt.{decimal_injective}
use Rattle.bmp_specs.specs.declared.wire.Family.{Family}
use Rattle.bmp_specs.specs.declared.wire.Family.TheVariants.{V4, V6}
use Rattle.bmp_specs.specs.NumberText.{IsNumberText, IsStepText}
use Rattle.bmp_specs.specs.Query.{IsFamilyText}

pub number_one : (text : List ℕ) (a b : ℕ) → IsNumberText text a → IsNumberText text b → a ≡ b
number_one text a b p q = decimal_injective a b (omega (arith, p.within)) (omega (arith, q.within)) (sym p.spelled ∙ q.spelled)

pub step_one : (text : List ℕ) (a b : ℕ) → IsStepText text a → IsStepText text b → a ≡ b
step_one text a b p q = decimal_injective a b (omega (arith, p.within)) (omega (arith, q.within)) (sym p.spelled ∙ q.spelled)

pub family_one : (text : List ℕ) (a b : Family) → IsFamilyText text a → IsFamilyText text b → a ≡ b
family_one text V4 V4 p q = refl
family_one text V6 V6 p q = refl
family_one text V4 V6 p q = absurd (omega (arith, ap (λ (l : List ℕ). get_or l 0 0) (sym p ∙ q)))
family_one text V6 V4 p q = absurd (omega (arith, ap (λ (l : List ℕ). get_or l 0 0) (sym p ∙ q)))
