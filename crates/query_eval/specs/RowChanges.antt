-- The steps that a lane keeps, as a list, and their lines: all of them, or where a prefix is named, its changes.
use Rattle.std.specs.Prelude.{ℕ, suc, ◌-◌, max, Bool, true, nat_lt, if◌then◌else◌, List, [], ◌∷◌, ◌++◌, drop, map, Option, Some, None}
use Rattle.std.specs.Ordering.{is_eq}
use Rattle.ask_specs.specs.AskReply.{told_change}
use Rattle.bmp_specs.specs.Changes.{ChangeValue, oldest_kept}
use Rattle.bmp_specs.specs.ChangeLines.{steps_line, missed_lines}
use Rattle.bmp_specs.specs.Orders.{prefix_cmp}
use Rattle.bmp_specs.specs.QueryReply.{most_told}
use Rattle.bmp_specs.specs.Values.{PrefixValue, StepValue, opened_step, closed_step, up_step, down_step, announce_step, withdraw_step}
use Rattle.recent_ring.specs.Recent.{RecentValue}

-- whether the step concerns the prefix
abbrev pub concerns : PrefixValue → StepValue → Bool
concerns p opened_step = true
concerns p (closed_step cause) = true
concerns p (up_step key) = true
concerns p (down_step key) = true
concerns p (announce_step key view nlri route) = is_eq (prefix_cmp nlri.prefix p)
concerns p (withdraw_step key view nlri) = is_eq (prefix_cmp nlri.prefix p)

-- whether the step is asked for
abbrev pub is_asked : Option PrefixValue → StepValue → Bool
is_asked None step = true
is_asked (Some p) step = concerns p step

-- those that are asked for, among steps that are numbered on from a number
abbrev pub changes_in : List StepValue → Option PrefixValue → ℕ → List ChangeValue
changes_in [] p n = []
changes_in (step ∷ steps) p n = if is_asked p step then record { number = n; step = step } ∷ changes_in steps p (suc n) else changes_in steps p (suc n)

-- those that are kept, from the step of a number on
abbrev pub kept_changes : RecentValue StepValue → ℕ → Option PrefixValue → List ChangeValue
kept_changes recent from p = changes_in (drop (from - oldest_kept recent.total) recent.items) p (max from (oldest_kept recent.total))

-- the lines of how many steps are missed and of these changes; past the greatest number of 64 bits no step is told
abbrev pub further_changes : Bool → RecentValue StepValue → ℕ → ℕ → Option PrefixValue → List (List ℕ)
further_changes full recent lane from p = if nat_lt recent.total most_told then missed_lines from (oldest_kept recent.total) ++ map (told_change full lane) (kept_changes recent from p) else []

-- and of how many steps were made
abbrev pub told_changes : Bool → RecentValue StepValue → ℕ → ℕ → Option PrefixValue → List (List ℕ)
told_changes full recent lane from p = steps_line lane recent.total ∷ further_changes full recent lane from p
