-- The present connection of a lane, taken piece by piece, and the entries that are due of the lane.
use Rattle.std.specs.Prelude.{◌≡◌, ℕ, ◌<◌, List, [], ◌∷◌, ◌++◌, length, Bool, if◌then◌else◌, Option, Some, None}
use Rattle.bmp_specs.specs.declared.causes.Cause.{Cause}
use Rattle.bmp_specs.specs.declared.causes.Cause.TheVariants.{ReadFault}
use Rattle.bmp_specs.specs.Life.{gave, most_taken, Given, cause_at_end}
use Rattle.bmp_specs.specs.Meaning.{Meaning}
use Rattle.bmp_specs.specs.Openings.{closing_for, nothing_told}
use Rattle.bmp_specs.specs.Values.{EntryValue, opened}
use Rattle.bmp_message.specs.StreamWalk.{WalkValue, HasReached, HasGiven, Gives}
use Rattle.rib_model.specs.declared.entry.Entry.{Entry}
use Rattle.rib_model.specs.declared.entry.Entry.TheVariants.{Closed}
use Rattle.rib_model.specs.Entries.{entry_values}
use Rattle.station_core.specs.declared.lane.Present.{Present}
use Rattle.station_core.specs.Machine.{AreDue, ComesTo, IsFree, with_piece}

-- all whole messages that the walk has are due now, after what was due
pub record Gathers {B : Type 0} (meaning : Meaning) (state : B → meaning.State) (old new : WalkValue B) (due due' : List Entry) (end : Option Cause) : Type 0 where
  pub made : List Entry
  pub grown : due' ≡ due ++ made
  pub gives : (fed : List ℕ) (given : List EntryValue) → HasReached meaning state fed given old → Gives meaning state fed (given ++ entry_values made) new end

-- the cause of a connection's end of which so many bytes were taken, so many of them after its messages, where a read
-- failed or none did
abbrev pub cause_of_close : Bool → ℕ → ℕ → ℕ → Cause
cause_of_close fault taken rest offset = if fault then ReadFault taken else cause_at_end rest offset

-- the last of the connections is taken, and what is due ends with what its walk gave
pub record IsTaken {B : Type 0} (meaning : Meaning) (state : B → meaning.State) (due : List Entry) (present : Present B) (connections : List Given) : Type 0 where
  pub earlier : List Given
  pub bytes : List ℕ
  pub split : connections ≡ earlier ++ record { bytes = bytes; last = gave } ∷ []
  pub before : List EntryValue
  pub are_due : AreDue meaning earlier before
  pub messages : List EntryValue
  pub due_is : entry_values due ≡ before ++ opened nothing_told ∷ messages
  pub given : HasGiven meaning state bytes messages present.walk
  pub taken : present.taken ≡ length bytes
  pub room : length bytes < most_taken

-- no connection is live
pub record IsIdle (meaning : Meaning) (due : List Entry) (connections : List Given) : Type 0 where
  pub are_due : AreDue meaning connections (entry_values due)
  pub free : IsFree meaning connections

-- what a lane keeps stands for its connections
abbrev pub Follows : {B : Type 0} (meaning : Meaning) (state : B → meaning.State) → List Entry → Option (Present B) → List Given → Type 0
Follows meaning state due None connections = IsIdle meaning due connections
Follows meaning state due (Some present) connections = IsTaken meaning state due present connections

-- where a lane's connections come to, and what is then kept stands for them
pub record Leads {B : Type 0} (meaning : Meaning) (state : B → meaning.State) (Does : List Given → List Given → Type 0) (due : List Entry) (present : Option (Present B)) (old : List Given) : Type 0 where
  pub new : List Given
  pub does : Does old new
  pub follows : Follows meaning state due present new

-- A lane does this: what is due only grows, and what it keeps stands for what its connections come to.
pub record Moves {B : Type 0} (meaning : Meaning) (state : B → meaning.State) (Does : List Given → List Given → Type 0) (due due' : List Entry) (present present' : Option (Present B)) : Type 0 where
  pub made : List Entry
  pub grown : due' ≡ due ++ made
  pub leads : (connections : List Given) → Follows meaning state due present connections → Leads meaning state Does due' present' connections

-- a lane stands for some connections
abbrev pub IsSound : {B : Type 0} (meaning : Meaning) (state : B → meaning.State) → List Entry → Option (Present B) → Type 0
IsSound meaning state due present = (connections : List Given) × Follows meaning state due present connections

-- A piece of a live connection is taken: the connection goes on, or a cause of its end is there, whose closing is still to become due.
abbrev pub Takes : {B : Type 0} (meaning : Meaning) (state : B → meaning.State) → List ℕ → List Entry → List Entry → Present B → Present B → Option Cause → Type 0
Takes meaning state piece due due' present present' None = Moves meaning state (ComesTo meaning (with_piece piece)) due due' (Some present) (Some present')
Takes meaning state piece due due' present present' (Some cause) = Moves meaning state (ComesTo meaning (with_piece piece)) due (due' ++ Closed (closing_for cause) ∷ []) (Some present) None
