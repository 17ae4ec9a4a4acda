-- The changes of a prefix on a lane, a notion of ours: those of its steps that speak of the prefix, or of all prefixes, by
-- their numbers. The last steps alone are kept.
use Rattle.std.specs.Prelude.{◌≡◌, ℕ, ◌+◌, ◌-◌, ◌≤◌, max, List, ◌++◌, length, Some, slice_get}
use Rattle.std.specs.Ordering.{nat_cmp}
use Rattle.bmp_specs.specs.Listed.{AreAll}
use Rattle.bmp_specs.specs.Steps.{steps_of}
use Rattle.bmp_specs.specs.Values.{EntryValue, PrefixValue, StepValue, opened_step, closed_step, up_step, down_step, announce_step, withdraw_step}

-- how many steps of a lane are kept
abbrev pub most_kept : ℕ
most_kept = 1024

-- a step and its number
pub record ChangeValue : Type 0 where
  pub number : ℕ
  pub step : StepValue

-- the step may change what is known of the prefix: a connection opens or closes, a peer comes up or goes down, or a route of
-- exactly this prefix is announced or withdrawn
abbrev pub Concerns : PrefixValue → StepValue → Type 0
Concerns prefix opened_step = Unit {0}
Concerns prefix (closed_step cause) = Unit {0}
Concerns prefix (up_step key) = Unit {0}
Concerns prefix (down_step key) = Unit {0}
Concerns prefix (announce_step key view nlri route) = nlri.prefix ≡ prefix
Concerns prefix (withdraw_step key view nlri) = nlri.prefix ≡ prefix

-- the number of the oldest step that is kept, where so many were made
abbrev pub oldest_kept : ℕ → ℕ
oldest_kept total = total - most_kept

-- one of these steps, of this number or a later one, that concerns the prefix
pub record IsChange (steps : List StepValue) (first : ℕ) (prefix : PrefixValue) (change : ChangeValue) : Type 0 where
  pub later : first ≤ change.number
  pub stands : slice_get steps change.number ≡ Some change.step
  pub concerns : Concerns prefix change.step

-- the changes of the prefix from the step of this number on that are kept of a lane with these entries, in their order
abbrev pub AreChanges : List EntryValue → ℕ → PrefixValue → List ChangeValue → Type 0
AreChanges entries from prefix changes =
    AreAll (λ change. change.number) nat_cmp (IsChange (steps_of entries) (max from (oldest_kept (length (steps_of entries)))) prefix) changes

-- One of these later steps, which are numbered on from a total, that concerns the prefix. The first of them, so many, are
-- missed.
pub record IsLaterChange (total missed : ℕ) (later : List StepValue) (prefix : PrefixValue) (change : ChangeValue) : Type 0 where
  pub index : ℕ
  pub number_is : change.number ≡ total + index
  pub kept : missed ≤ index
  pub stands : slice_get later index ≡ Some change.step
  pub concerns : Concerns prefix change.step

-- Who was told the changes up to some entries and asks again after more of them, from the number of steps that was told, gets
-- these: each later step that concerns the prefix, once and in order, but for as many of the first as are told to be missed.
abbrev pub AreLaterChanges : List EntryValue → List EntryValue → PrefixValue → List ChangeValue → Type 0
AreLaterChanges before after prefix changes =
    let total = length (steps_of before) in
    AreAll (λ change. change.number) nat_cmp (IsLaterChange total (oldest_kept (length (steps_of (before ++ after))) - total) (steps_of after) prefix) changes
