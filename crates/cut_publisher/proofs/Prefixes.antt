-- Beginnings of lists.
use Rattle.std.proofs.Common.{◌≡◌, ◌≤◌, List, [], ◌∷◌, ◌++◌, length, take, drop, refl, ap, sym, ◌∙◌, subst, arith, append_assoc, length-append}
use mathlib.Core.List.{IsPrefix}
use Rattle.cut_publisher.specs.declared.history.Step.{Step}
use Rattle.cut_publisher.specs.declared.history.Step.TheVariants.{Batch, End}
use Rattle.cut_publisher.specs.declared.history.Event.TheVariants.{Finish}
use Rattle.std.proofs.lemmas.List.{append-nil, take-append-drop, take-append-le}
use Rattle.std.proofs.Math.Seq.{take-append_seam}
use Rattle.cut_publisher.specs.History.{Begins, batch, told}

pub begins_self : {A : Type 0} (xs : List A) → Begins xs xs
begins_self xs = record { rest = []; is = append-nil xs }

pub begins_trans : {A : Type 0} (xs ys zs : List A) → Begins xs ys → Begins ys zs → Begins xs zs
begins_trans xs ys zs p q = record { rest = p.rest ++ q.rest; is = sym (append_assoc xs p.rest q.rest) ∙ (ap (λ w. w ++ q.rest) p.is ∙ q.is) }

-- a beginning is what the whole has at its front
front_is : {A : Type 0} (xs zs : List A) → IsPrefix xs zs → take (length xs) zs ≡ xs
front_is xs zs p = ap (λ w. take (length xs) w) (sym p.1) ∙ take-append_seam xs p.0

-- of two beginnings of one list the shorter begins the longer
pub prefix_shorter : {A : Type 0} (xs ys zs : List A) → IsPrefix xs zs → IsPrefix ys zs → length xs ≤ length ys → IsPrefix xs ys
prefix_shorter xs ys zs p q le =
    let front : take (length xs) ys ≡ xs = sym (take-append-le (length xs) ys q.0 le) ∙ (ap (λ w. take (length xs) w) q.1 ∙ front_is xs zs p) in
    (drop (length xs) ys, ap (λ w. w ++ drop (length xs) ys) (sym front) ∙ take-append-drop (length xs) ys)

nothing_more : {A : Type 0} (xs ys : List A) → length (xs ++ ys) ≤ length xs → xs ++ ys ≡ xs
nothing_more xs [] le = append-nil xs
nothing_more xs (y ∷ ys) le = absurd (omega (arith, le, length-append xs (y ∷ ys)))

-- a beginning as long as the whole is the whole
pub prefix_whole : {A : Type 0} (xs ys : List A) → IsPrefix xs ys → length ys ≤ length xs → ys ≡ xs
prefix_whole xs ys p le = sym p.1 ∙ nothing_more xs p.0 (subst (λ w. length w ≤ length xs) (sym p.1) le)

module _ {E : Type 0} where
  pub told-append : (xs ys : List (Step E)) → told (xs ++ ys) ≡ told xs ++ told ys
  told-append [] ys = refl
  told-append (Batch k es ∷ xs) ys = ap (λ w. batch k es ++ w) (told-append xs ys) ∙ sym (append_assoc (batch k es) (told xs) (told ys))
  told-append (End ∷ xs) ys = ap (λ w. Finish ∷ w) (told-append xs ys)

  pub begins_told : (xs ys : List (Step E)) → IsPrefix xs ys → Begins (told xs) (told ys)
  begins_told xs ys p = record { rest = told p.0; is = sym (told-append xs p.0) ∙ ap told p.1 }

  -- of two beginnings of one log, the one with no more steps tells a beginning
  pub told_shorter : (xs ys zs : List (Step E)) → IsPrefix xs zs → IsPrefix ys zs → length xs ≤ length ys → Begins (told xs) (told ys)
  told_shorter xs ys zs p q le = begins_told xs ys (prefix_shorter xs ys zs p q le)
