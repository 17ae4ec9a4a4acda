-- Schedules: what the machine writes over a list of events, and what a call that runs it leaves.
use Rattle.std.specs.Prelude.{◌≡◌, ℕ, ◌==◌, Bool, false, List, [], ◌∷◌, ◌++◌, take, slice_get, count_by, replicate, Option, Some, Result, Ok, Err}
use Rattle.std.specs.Io.KnownBytes.{Appends}
use Rattle.bmp_specs.specs.Meaning.{Meaning}
use Rattle.bmp_specs.specs.Values.{EntryValue}
use Rattle.cut_publisher.specs.History.{part, revision}
use Rattle.wire_io.specs.Faults.{Rose}
use Rattle.wire_io.specs.Writes.{AppendsFront}
use Rattle.station_core.specs.declared.event.Event.{Event}
use Rattle.station_core.specs.declared.event.Event.TheVariants.{Begin, Take, End, Publish, Tell, Ask, Finish}
use Rattle.station_core.specs.declared.schedule.ScheduleFault.{ScheduleFault}
use Rattle.station_core.specs.declared.schedule.ScheduleFault.TheVariants.{Failed, NoMemory}
use Rattle.station_core.specs.Machine.{AreDue, LaneValue, MachineValue, Steps}

-- the most lanes of a schedule, and the most askers
abbrev pub most_lanes : ℕ
most_lanes = 64

-- the event begins a connection of this lane
abbrev pub begins_on : ℕ → Event → Bool
begins_on lane (Begin l) = l == lane
begins_on lane (Take l piece) = false
begins_on lane (End l fault) = false
begins_on lane (Publish l) = false
begins_on lane (Tell asker rev) = false
begins_on lane (Ask asker ask) = false
begins_on lane Finish = false

-- how many of the events begin a connection of this lane
abbrev pub begun_on : ℕ → List Event → ℕ
begun_on lane events = count_by (begins_on lane) events

-- a lane without connections
abbrev pub unused : LaneValue
unused = record { connections = []; published = 0 }

-- so many lanes without connections and so many askers that have seen nothing, and the empty history
abbrev pub start_of : ℕ → ℕ → MachineValue
start_of lanes askers = record { history = []; lanes = replicate lanes unused; askers = replicate askers 0 }

-- the first of some events: what it does, and what it writes
pub record BeginsBy (meaning : Meaning) (event : Event) (old : MachineValue) (replies : List ℕ) : Type 0 where
  pub next : MachineValue
  pub reply : List ℕ
  pub after : List ℕ
  pub steps : Steps meaning event old next reply
  pub split : replies ≡ reply ++ after

-- the events lead from one state to another, and these are the replies, one after another
abbrev pub Runs : Meaning → List Event → MachineValue → MachineValue → List ℕ → Type 0
Runs meaning [] old new replies = (new ≡ old) × (replies ≡ [])
Runs meaning (event ∷ events) old new replies = (first : BeginsBy meaning event old replies) × Runs meaning events first.next new first.after

-- these entries of a lane are published: the first of those that are due of it
pub record AreFirstDue (meaning : Meaning) (lane : LaneValue) (published : List EntryValue) : Type 0 where
  pub due : List EntryValue
  pub are_due : AreDue meaning lane.connections due
  pub is : published ≡ take lane.published due

-- The events were all run: the replies were written, and this is the last revision. Of each lane the history has the first
-- of the entries that are due.
pub record HasRun {O : Type 0} (told : O → Option (List ℕ)) (meaning : Meaning) (events : List Event) (start : MachineValue) (old new : O) (last : ℕ) : Type 0 where
  pub end : MachineValue
  pub replies : List ℕ
  pub runs : Runs meaning events start end replies
  pub written : Appends (told old) (told new) replies
  pub last_is : last ≡ revision end.history
  pub parts : (k : ℕ) (lane : LaneValue) → slice_get end.lanes k ≡ Some lane → AreFirstDue meaning lane (part k end.history)

-- The first of the events were run, and of their replies a front was written.
pub record HasRunSome {O : Type 0} (told : O → Option (List ℕ)) (meaning : Meaning) (events : List Event) (start : MachineValue) (old new : O) : Type 0 where
  pub done : List Event
  pub left : List Event
  pub split : events ≡ done ++ left
  pub end : MachineValue
  pub replies : List ℕ
  pub runs : Runs meaning done start end replies
  pub written : AppendsFront (told old) replies (told new)

-- What a call that runs a schedule leaves. It answers that a write failed only where the count of faults
-- rose by one: it ends at that write.
abbrev pub Leaves : {O : Type 0} → (O → ℕ) → (O → Option (List ℕ)) → Meaning → List Event → MachineValue → O → O → Result ℕ ScheduleFault → Type 0
Leaves faults told meaning events start old new (Ok last) = HasRun told meaning events start old new last × (faults new ≡ faults old)
Leaves faults told meaning events start old new (Err Failed) = HasRunSome told meaning events start old new × Rose (faults old) (faults new)
Leaves faults told meaning events start old new (Err NoMemory) = HasRunSome told meaning events start old new × (faults new ≡ faults old)
