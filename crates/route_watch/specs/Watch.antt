-- What is asked of the last steps of a lane, a notion of ours: all that they keep, or the changes of a prefix.
use Rattle.std.specs.Prelude.{◌≡◌, ℕ, ◌-◌, ◌<◌, ◌≤◌, List, Option, None, Some, length, map, max, min, slice_get}
use Rattle.std.specs.Borrow.{Bor}
use Rattle.ask_specs.specs.AskReply.{IsAskedStep}
use Rattle.bmp_specs.specs.Changes.{ChangeValue, Concerns, oldest_kept}
use Rattle.bmp_specs.specs.QueryReply.{most_told}
use Rattle.bmp_specs.specs.Values.{PrefixValue, StepValue}
use Rattle.recent_ring.specs.Recent.{RecentValue, last_items}
use Rattle.rib_model.specs.declared.step.Step.{Step}
use Rattle.rib_model.specs.Steps.{step_value}

-- these are all steps of the lane, of which at most 2^64 - 1 are counted, and the last of them are kept
pub record AreSteps (recent : RecentValue Step) (steps : List StepValue) : Type 0 where
  pub total : recent.total ≡ min (length steps) most_told
  pub items : map step_value recent.items ≡ last_items steps

-- the step concerns the prefix, where one is named
abbrev pub IsAsked : Option PrefixValue → StepValue → Type 0
IsAsked None step = Unit {0}
IsAsked (Some prefix) step = Concerns prefix step

-- a step that is kept, of this number or a later one, that concerns the prefix, where one is named
pub record IsKeptChange (recent : RecentValue Step) (from : ℕ) (prefix : Option PrefixValue) (change : ChangeValue) : Type 0 where
  pub later : from ≤ change.number
  pub kept : oldest_kept recent.total ≤ change.number
  pub stands : slice_get (map step_value recent.items) (change.number - oldest_kept recent.total) ≡ Some change.step
  pub asked : IsAsked prefix change.step

-- One of these steps, from the step of this number on, that is told: one that is kept and that is asked for, and none where
-- there are 2^64 - 1 steps or more. Any step is asked for, or where a prefix is named, one that concerns it.
pub record IsToldChange (steps : List StepValue) (from : ℕ) (prefix : Option PrefixValue) (change : ChangeValue) : Type 0 where
  pub told : length steps < most_told
  pub is : IsAskedStep prefix steps (max from (oldest_kept (length steps))) change

-- the first change that is so, or none where none is
abbrev pub IsFirst : (ChangeValue → Type 0) → Option ChangeValue → Type 0
IsFirst Is None = (change : ChangeValue) → Is change → ⊥
IsFirst Is (Some first) = Is first × ((change : ChangeValue) → Is change → first.number ≤ change.number)

-- a number and a step as a change
abbrev pub change_of : ℕ × Bor Step → ChangeValue
change_of found = record { number = found.0; step = step_value found.1.now }
