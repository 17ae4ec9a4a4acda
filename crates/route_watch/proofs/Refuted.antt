-- What a wrong watch would answer, and that it isn't what the contract asks for.
use Rattle.std.proofs.Common.{◌≡◌, ◌≤◌, ◌-◌, ◌^◌, [], ◌∷◌, List, ℕ, length, Option, Some, None, refl, ap, arith}
use Rattle.std.proofs.lemmas.Bool.{eqb-false}
use Rattle.bmp_specs.specs.Changes.{ChangeValue, Concerns, oldest_kept}
use Rattle.bmp_specs.specs.Prefix.{prefix_of}
use Rattle.bmp_specs.specs.QueryReply.{most_told}
use Rattle.bmp_specs.specs.Values.{AttrsValue, KeyValue, PrefixValue, StepValue, announce_step, closed_step, opened_step}
use Rattle.bmp_specs.specs.declared.causes.Cause.TheVariants.{Ended}
use Rattle.bmp_specs.specs.declared.peers.View.{View}
use Rattle.bmp_specs.specs.declared.wire.Family.TheVariants.{V4}
use Rattle.route_watch.specs.Watch.{IsFirst, IsToldChange}

-- Of 1,030 steps the first six are no longer kept. Who asks from number 2 on has missed four, and not three.
four_of_six_are_missed : 3 ≡ oldest_kept 1030 - 2 → ⊥
four_of_six_are_missed is = omega arith

-- Where the total is the greatest number of 64 bits, how many of them aren't kept is no answer.
none_is_missed_at_the_greatest_total : (most_told ≤ 2 ^ 64 - 1 → 2 ^ 64 - 1 - 1024 ≡ 0) → ⊥
none_is_missed_at_the_greatest_total clause = let none : 2 ^ 64 - 1 - 1024 ≡ 0 = clause (omega arith) in omega arith

-- And no step is told there, whichever it is.
none_is_told_at_the_greatest_total : (steps : List StepValue) (from : ℕ) (prefix : Option PrefixValue) (change : ChangeValue) → length steps ≡ 2 ^ 64 - 1 → IsFirst (IsToldChange steps from prefix) (Some change) → ⊥
none_is_told_at_the_greatest_total steps from prefix change count first = omega (arith, count, first.0.told)

-- A route of 10.1.0.0/16 is no change of 10.0.0.0/8.
a_longer_prefix_is_another_one : (key : KeyValue) (view : View) (route : AttrsValue) → Concerns (prefix_of V4 8 (10 ∷ [])) (announce_step key view (record { prefix = prefix_of V4 16 (10 ∷ 1 ∷ []); id = None }) route) → ⊥
a_longer_prefix_is_another_one key view route same = eqb-false 16 8 refl (ap (λ (p : PrefixValue). p.bits) same)

-- a lane whose connection was opened and closed
abbrev opened_and_closed : List StepValue
opened_and_closed = opened_step ∷ closed_step Ended ∷ []

opening : IsToldChange opened_and_closed 0 None (record { number = 0; step = opened_step })
opening = record { told = omega arith; is = record { later = omega arith; stands = refl } }

-- Who asks for any step of it from number 0 on is told the opening, and not the closing, which comes later.
the_first_step_is_told : IsFirst (IsToldChange opened_and_closed 0 None) (Some (record { number = 1; step = closed_step Ended })) → ⊥
the_first_step_is_told first = omega (arith, first.1 (record { number = 0; step = opened_step }) opening)

-- Nor is the closing told under the number of the opening.
a_step_has_its_own_number : IsFirst (IsToldChange opened_and_closed 0 None) (Some (record { number = 0; step = closed_step Ended })) → ⊥
a_step_has_its_own_number first = let other : Some opened_step ≡ Some (closed_step Ended) = first.0.is.stands in cc

-- And that there is none is wrong: any step is asked for, one of no prefix too.
any_step_is_told : IsFirst (IsToldChange opened_and_closed 0 None) None → ⊥
any_step_is_told none = none (record { number = 0; step = opened_step }) opening

-- Who asks from number 1 on isn't told the opening.
no_earlier_step_is_told : IsFirst (IsToldChange opened_and_closed 1 None) (Some (record { number = 0; step = opened_step })) → ⊥
no_earlier_step_is_told first = omega (arith, first.0.is.later)
