-- What the machine keeps for a state of it: for each lane what it keeps, and the tables that are published of it.
use Rattle.std.specs.Prelude.{◌≡◌, ◌≢◌, ℕ, ◌+◌, ◌<◌, ◌≤◌, ◌⊎◌, min, max, Bool, MatchBool, List, [], ◌∷◌, ◌++◌, length, drop, slice_index, slice_index_or, slice_set, Option, Result, Ok, Err}
use Rattle.ask_specs.specs.Asking.{AskValue, plain}
use Rattle.bmp_specs.specs.Life.{Given}
use Rattle.bmp_specs.specs.Meaning.{Meaning}
use Rattle.bmp_specs.specs.Query.{quit}
use Rattle.bmp_specs.specs.Values.{EntryValue}
use Rattle.cut_publisher.specs.Cuts.{AreLanes, total}
use Rattle.cut_publisher.specs.declared.history.Event.{Event as Joined}
use Rattle.cut_publisher.specs.declared.history.Event.TheVariants.{Of, Finish as Mark}
use Rattle.cut_publisher.specs.History.{part, IsWithin, IsUnmarked}
use Rattle.query_eval.specs.Replies.{IsAskReplyOn, PutsReply}
use Rattle.rib_model.specs.declared.entry.Entry.{Entry}
use Rattle.rib_model.specs.Entries.{entry_value, entry_values}
use Rattle.router_tables.specs.Tables.{TablesValue, StandsFor}
use Rattle.wire_io.specs.declared.bytes.NoMemory.{NoMemory as OutOfMemory}
use Rattle.wire_io.specs.Aside.{Aside}
use Rattle.wire_io.specs.Writes.{Writes}
use Rattle.wire_io.specs.declared.sink.Failed.{Failed as WriteFailed}
use Rattle.station_core.specs.declared.event.Event.{Event}
use Rattle.station_core.specs.declared.lane.Lane.{Lane}
use Rattle.station_core.specs.declared.schedule.ScheduleFault.{ScheduleFault}
use Rattle.station_core.specs.declared.schedule.ScheduleFault.TheVariants.{Failed, NoMemory}
use Rattle.station_core.specs.Machine.{History, LaneValue, MachineValue, Steps, next_of}
use Rattle.station_core.specs.Schedule.{most_lanes}
use Rattle.station_core.specs.Taking.{Follows, Moves}

-- a history, its entries as values
abbrev pub valued : List (Joined Entry) → History
valued [] = []
valued (Of lane entry ∷ h) = Of lane (entry_value entry) ∷ valued h
valued (Mark ∷ h) = Mark ∷ valued h

-- the tables and the number of entries that are published of a lane, of which these are the published ones
pub record Shows {B : Type 0} (lane : Lane B) (shown : TablesValue × ℕ) (v : LaneValue) (published : List Entry) : Type 0 where
  pub number : v.published ≡ shown.1
  pub count : shown.1 ≡ length published
  pub tables : StandsFor shown.0 (entry_values published)
  pub rest : List Entry
  pub split : lane.due ≡ published ++ rest

-- what is kept of all lanes and askers
pub record Stands {B : Type 0} (meaning : Meaning) (state : B → meaning.State) (lanes : List (Lane B)) (shown : List (TablesValue × ℕ)) (seen : List ℕ) (finished : Bool) (v : MachineValue) : Type 0 where
  pub entries : List (Joined Entry)
  pub history : v.history ≡ valued entries
  pub within : IsWithin (length lanes) entries
  pub lane_count : length v.lanes ≡ length lanes
  pub shown_count : length shown ≡ length lanes
  pub some : 0 < length lanes
  pub few : length lanes ≤ most_lanes
  pub kept : (k : ℕ) (d : Lane B) (f : LaneValue) → k < length lanes → Follows meaning state (slice_index_or lanes k d).due (slice_index_or lanes k d).present (slice_index_or v.lanes k f).connections
  pub shows : (k : ℕ) (d : Lane B) (e : TablesValue × ℕ) (f : LaneValue) → k < length lanes → Shows (slice_index_or lanes k d) (slice_index_or shown k e) (slice_index_or v.lanes k f) (part k entries)
  pub askers : v.askers ≡ seen
  pub mark : MatchBool finished (IsUnmarked v.history → ⊥) (IsUnmarked v.history)

-- each lane had few connections
abbrev pub AreFew : MachineValue → Type 0
AreFew v = (k : ℕ) (f : LaneValue) → k < length v.lanes → length (slice_index_or v.lanes k f).connections ≤ 4096

-- some state, in which each lane had few connections
abbrev pub HasRoom : {B : Type 0} (meaning : Meaning) (state : B → meaning.State) (lanes : List (Lane B)) (shown : List (TablesValue × ℕ)) (seen : List ℕ) (finished : Bool) → Type 0
HasRoom meaning state lanes shown seen finished = (v : MachineValue) × Stands meaning state lanes shown seen finished v × AreFew v

-- the lane of this number does this, where there is one
pub record MovesAt {B : Type 0} (meaning : Meaning) (state : B → meaning.State) (Does : List Given → List Given → Type 0) (number : ℕ) (old new : List (Lane B)) : Type 0 where
  pub lane : Lane B
  pub is : new ≡ slice_set old number lane
  pub moves : (d : Lane B) → Moves meaning state Does (slice_index_or old number d).due lane.due (slice_index_or old number d).present lane.present

abbrev pub MovesLane : {B : Type 0} (meaning : Meaning) (state : B → meaning.State) → (List Given → List Given → Type 0) → ℕ → List (Lane B) → List (Lane B) → Type 0
MovesLane meaning state Does number old new = ((number < length old) × MovesAt meaning state Does number old new) ⊎ ((length old ≤ number) × (new ≡ old))

-- the next pending entries are published: the tables have taken them too
pub record ShowsNext (due : List Entry) (old new : TablesValue × ℕ) : Type 0 where
  pub made : List Entry
  pub is_next : entry_values made ≡ next_of (entry_values (drop old.1 due))
  pub rest : List Entry
  pub split : drop old.1 due ≡ made ++ rest
  pub count : new.1 ≡ old.1 + length made
  pub tables : (so_far : List EntryValue) → StandsFor old.0 so_far → StandsFor new.0 (so_far ++ entry_values made)

-- the same on the lane of this number
pub record ShowsAt {B : Type 0} (lanes : List (Lane B)) (number : ℕ) (old new : List (TablesValue × ℕ)) : Type 0 where
  pub next : TablesValue × ℕ
  pub is : new ≡ slice_set old number next
  pub shows : (d : Lane B) (e : TablesValue × ℕ) → ShowsNext (slice_index_or lanes number d).due (slice_index_or old number e) next

abbrev pub ShowsLane : {B : Type 0} → List (Lane B) → ℕ → List (TablesValue × ℕ) → List (TablesValue × ℕ) → Type 0
ShowsLane lanes number old new = ((number < length lanes) × ShowsAt lanes number old new) ⊎ ((length lanes ≤ number) × (new ≡ old))

-- an asker is told of this revision
abbrev pub TellsOn : List (TablesValue × ℕ) → ℕ → ℕ → List ℕ → List ℕ → Type 0
TellsOn shown asker rev old new = ((asker < length old) × (new ≡ slice_set old asker (min (max (slice_index old asker) rev) (total shown)))) ⊎ ((length old ≤ asker) × (new ≡ old))

-- what was written is the reply to what is asked, on each history whose lanes these tables stand for, or a front of it
abbrev pub PutsOn : {O : Type 0} → (O → ℕ) → (O → Option (List ℕ)) → (O → Aside) → List (TablesValue × ℕ) → AskValue → O → Result (Unit {0}) WriteFailed → O → Type 0
PutsOn faults told aside shown ask old result new = (history : List (Joined Entry)) → IsWithin (length shown) history → AreLanes (λ tables entries. StandsFor tables (entry_values entries)) shown history
    → PutsReply faults told aside (IsAskReplyOn ask (length shown) history) old result new

-- an asker asks this
abbrev pub AsksOn : {O : Type 0} → (O → ℕ) → (O → Option (List ℕ)) → (O → Aside) → List (TablesValue × ℕ) → ℕ → AskValue → List ℕ → List ℕ → O → O → Result (Unit {0}) ScheduleFault → Type 0
AsksOn faults told aside shown asker ask seen seen' old new (Ok done) =
    ((asker < length seen) × (ask ≢ plain quit) × PutsOn faults told aside shown ask old (Ok tt) new × (seen' ≡ slice_set seen asker (total shown)))
    ⊎ (((length seen ≤ asker) ⊎ (ask ≡ plain quit)) × (new ≡ old) × (seen' ≡ seen))
AsksOn faults told aside shown asker ask seen seen' old new (Err Failed) = (asker < length seen) × (ask ≢ plain quit) × (failed : WriteFailed) × PutsOn faults told aside shown ask old (Err failed) new
AsksOn faults told aside shown asker ask seen seen' old new (Err NoMemory) = new ≡ old

-- what running out of memory is in a schedule
abbrev pub as_fault : Result (Unit {0}) OutOfMemory → Result (Unit {0}) ScheduleFault
as_fault (Ok done) = Ok tt
as_fault (Err want) = Err NoMemory

-- a state that an event leads to from this one, with this reply
pub record Goes {B : Type 0} (meaning : Meaning) (state : B → meaning.State) (event : Event) (v : MachineValue) (reply : List ℕ) (lanes : List (Lane B)) (shown : List (TablesValue × ℕ)) (seen : List ℕ) (finished : Bool) : Type 0 where
  pub next : MachineValue
  pub steps : Steps meaning event v next reply
  pub stands : Stands meaning state lanes shown seen finished next

-- What one event does to what is kept and to a sink, from this state on: it is done, and its reply was written; a write of
-- its reply failed; or memory ran out, and nothing was written.
abbrev pub HasStepped : {B O : Type 0} → (O → ℕ) → (O → Option (List ℕ)) → (O → Aside) → (meaning : Meaning) (state : B → meaning.State) → Event → MachineValue → O → O → List (Lane B) → List (TablesValue × ℕ) → List ℕ → Bool → Result (Unit {0}) ScheduleFault → Type 0
HasStepped faults told aside meaning state event v old new lanes shown seen finished (Ok done) = (reply : List ℕ) × Goes meaning state event v reply lanes shown seen finished × Writes faults told aside old reply (Ok tt) new
HasStepped faults told aside meaning state event v old new lanes shown seen finished (Err Failed) = (reply : List ℕ) × (next : MachineValue) × Steps meaning event v next reply × (failed : WriteFailed) × Writes faults told aside old reply (Err failed) new
HasStepped faults told aside meaning state event v old new lanes shown seen finished (Err NoMemory) = new ≡ old
