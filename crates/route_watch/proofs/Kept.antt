-- Steps that are kept, by their numbers.
use Rattle.std.proofs.Common.{◌≡◌, ◌≢◌, inl, inr, ℕ, ◌+◌, ◌-◌, ◌<◌, ◌≤◌, max, List, length, map, Option, None, Some, sym, ap, ◌∙◌, subst, arith, unwrap_or, option_map, slice_get}
use Rattle.std.proofs.lemmas.List.{length-map}
use Rattle.std.proofs.lemmas.Option.{slice_get-map, slice_get_cases, slice_get_within}
use Rattle.ask_specs.specs.AskReply.{IsAskedStep}
use Rattle.bmp_specs.specs.Changes.{ChangeValue, oldest_kept}
use Rattle.bmp_specs.specs.QueryReply.{most_told}
use Rattle.bmp_specs.specs.Values.{PrefixValue, StepValue}
use Rattle.recent_ring.specs.Recent.{RecentValue}
use Rattle.recent_ring.proofs.TwoParts.{slice_get-drop}
use Rattle.rib_model.specs.declared.step.Step.{Step}
use Rattle.rib_model.specs.Steps.{step_value}
use Rattle.route_watch.specs.Watch.{AreSteps, IsAsked, IsFirst, IsKeptChange, IsToldChange}

-- a place without an item is past the last one
pub past_items : {T : Type 0} (items : List T) (place : ℕ) → slice_get items place ≡ None → length items ≤ place
past_items items place none = elim (slice_get_cases items place).1 [
  | inl there ↦ let some : slice_get items place ≡ Some there.0 = there.2 in absurd cc
  | inr past ↦ past.0
]

-- a step that is asked for, of all steps
pub asked_of : (named : Option PrefixValue) (steps : List StepValue) (first : ℕ) (change : ChangeValue) → first ≤ change.number → slice_get steps change.number ≡ Some change.step → IsAsked named change.step → IsAskedStep named steps first change
asked_of None steps first change later stands asked = record { later = later; stands = stands }
asked_of (Some p) steps first change later stands asked = record { later = later; stands = stands; concerns = asked }

pub of_asked : (named : Option PrefixValue) (steps : List StepValue) (first : ℕ) (change : ChangeValue) → IsAskedStep named steps first change → (first ≤ change.number) × (slice_get steps change.number ≡ Some change.step) × IsAsked named change.step
of_asked None steps first change is = (is.later, is.stands, tt)
of_asked (Some p) steps first change is = (is.later, is.stands, is.concerns)

module _ (recent : RecentValue Step) (from : ℕ) (prefix : Option PrefixValue) where
  -- each change that is kept stands at this place or a later one
  abbrev pub StandsFrom : ℕ → Type 0
  StandsFrom place = (change : ChangeValue) → IsKeptChange recent from prefix change → oldest_kept recent.total + place ≤ change.number

  -- the step of a change is the item at its place
  change_there : (place : ℕ) (step : Step) (change : ChangeValue) → slice_get recent.items place ≡ Some step → IsKeptChange recent from prefix change → change.number ≡ oldest_kept recent.total + place → change.step ≡ step_value step
  change_there place step change at is same =
      let there : change.number - oldest_kept recent.total ≡ place = omega (arith, same) in
      let value : slice_get (map step_value recent.items) place ≡ Some (step_value step) = slice_get-map step_value recent.items place ∙ ap (option_map step_value) at in
      let both : Some change.step ≡ Some (step_value step) = sym is.stands ∙ ap (slice_get (map step_value recent.items)) there ∙ value in
      ap (λ (o : Option StepValue). unwrap_or o change.step) both

  -- a step that isn't asked for is passed over
  pub stands_from_next : (place : ℕ) (step : Step) → slice_get recent.items place ≡ Some step → (IsAsked prefix (step_value step) → ⊥) → StandsFrom place → StandsFrom (place + 1)
  stands_from_next place step at none from_place change is =
      let other : change.number ≢ oldest_kept recent.total + place = λ same. none (subst (IsAsked prefix) (change_there place step change at is same) is.asked) in
      omega (arith, other, from_place change is)

  -- past the last item there is no change
  pub none_past : (place : ℕ) → length recent.items ≤ place → StandsFrom place → (change : ChangeValue) → IsKeptChange recent from prefix change → ⊥
  none_past place past from_place change is =
      let within : change.number - oldest_kept recent.total < length (map step_value recent.items) = slice_get_within (map step_value recent.items) (change.number - oldest_kept recent.total) change.step is.stands in
      omega (arith, within, length-map recent.items step_value, past, from_place change is, is.kept)

  -- a change that is kept, at its place
  pub kept_at : (place : ℕ) (step : Step) → slice_get recent.items place ≡ Some step → IsAsked prefix (step_value step) → from - oldest_kept recent.total ≤ place → IsKeptChange recent from prefix (record { number = oldest_kept recent.total + place; step = step_value step })
  kept_at place step at asked later =
      let there : oldest_kept recent.total + place - oldest_kept recent.total ≡ place = omega arith in
      record {
        later = omega (arith, later);
        kept = omega arith;
        stands = ap (slice_get (map step_value recent.items)) there ∙ slice_get-map step_value recent.items place ∙ ap (option_map step_value) at;
        asked = asked;
      }

  -- what is kept of all steps of a lane is what is asked of them
  module _ (steps : List StepValue) (all : AreSteps recent steps) (less : recent.total < most_told) where
    counted : recent.total ≡ length steps
    counted = omega (arith, all.total, less)

    at_number : (n : ℕ) → oldest_kept recent.total ≤ n → slice_get (map step_value recent.items) (n - oldest_kept recent.total) ≡ slice_get steps n
    at_number n kept =
        let cut : length steps - 1024 ≡ oldest_kept recent.total = ap (λ (k : ℕ). k - 1024) (sym counted) in
        let there : length steps - 1024 + (n - oldest_kept recent.total) ≡ n = omega (arith, cut, kept) in
        ap (λ (l : List StepValue). slice_get l (n - oldest_kept recent.total)) all.items ∙ slice_get-drop (length steps - 1024) steps (n - oldest_kept recent.total) ∙ ap (slice_get steps) there

    change_of_steps : (change : ChangeValue) → IsKeptChange recent from prefix change → IsToldChange steps from prefix change
    change_of_steps change is = record {
      told = omega (arith, counted, less);
      is = asked_of prefix steps (max from (oldest_kept (length steps))) change (omega (arith, is.later, is.kept, counted)) (sym (at_number change.number is.kept) ∙ is.stands) is.asked;
    }

    kept_of_steps : (change : ChangeValue) → IsToldChange steps from prefix change → IsKeptChange recent from prefix change
    kept_of_steps change t =
        let is = of_asked prefix steps (max from (oldest_kept (length steps))) change t.is in
        let kept : oldest_kept recent.total ≤ change.number = omega (arith, is.0, counted) in
        record {
          later = omega (arith, is.0);
          kept = kept;
          stands = at_number change.number kept ∙ is.1;
          asked = is.2;
        }

    pub first_of_steps : (found : Option ChangeValue) → IsFirst (IsKeptChange recent from prefix) found → IsFirst (IsToldChange steps from prefix) found
    first_of_steps None none = λ change is. none change (kept_of_steps change is)
    first_of_steps (Some first) f = (change_of_steps first f.0, λ change is. f.1 change (kept_of_steps change is))

  -- past the greatest number of 64 bits none is told
  pub none_told : (steps : List StepValue) → AreSteps recent steps → most_told ≤ recent.total → (change : ChangeValue) → IsToldChange steps from prefix change → ⊥
  none_told steps all most change is = omega (arith, all.total, most, is.told)
