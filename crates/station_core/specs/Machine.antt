-- The machine of lanes and askers: what one event does. A lane serves one connection of its router after another, and
-- what is due of them joins the one history of all lanes, in steps; an asker is answered on the whole history.
use Rattle.std.specs.Prelude.{◌≡◌, ◌≢◌, ℕ, zero, suc, ◌+◌, ◌<◌, ◌≤◌, min, max, ◌⊎◌, Bool, true, false, if◌then◌else◌, List, [], ◌∷◌, ◌++◌, length, take, drop, slice_get, slice_set, None, Some}
use Rattle.std.specs.List.{position_or_len}
use Rattle.ask_specs.specs.AskReply.{IsAskReply}
use Rattle.ask_specs.specs.Asking.{AskValue, plain}
use Rattle.bmp_specs.specs.declared.causes.Cause.{Cause}
use Rattle.bmp_specs.specs.Life.{gave, gave_none, failed, most_taken, Fits, IsLife, IsOpenLife, Given}
use Rattle.bmp_specs.specs.Meaning.{Meaning, WalksBy}
use Rattle.bmp_specs.specs.Openings.{nothing_told}
use Rattle.bmp_specs.specs.Query.{quit}
use Rattle.bmp_specs.specs.Values.{EntryValue, opened, message, closed}
use Rattle.bmp_specs.specs.Walk.{Verdict}
use Rattle.cut_publisher.specs.declared.history.Event.{Event as Joined}
use Rattle.cut_publisher.specs.declared.history.Event.TheVariants.{Finish as Mark}
use Rattle.cut_publisher.specs.History.{part, revision, batch, IsUnmarked}
use Rattle.query_lang.specs.Asks.{ask_value}
use Rattle.wire_io.specs.Aside.{fresh}
use Rattle.station_core.specs.declared.event.Event.{Event}
use Rattle.station_core.specs.declared.event.Event.TheVariants.{Begin, Take, End, Publish, Tell, Ask, Finish}

-- entries, each of a lane, in one list; the mark may stand at its end
abbrev pub History : Type 0
History = List (Joined EntryValue)

-- a lane: what was taken of each of its connections, the present one last, and how many of its entries are published
pub record LaneValue : Type 0 where
  pub connections : List Given
  pub published : ℕ

-- the history, the lanes, and for each asker the length of the history that it was shown or told of
pub record MachineValue : Type 0 where
  pub history : History
  pub lanes : List LaneValue
  pub askers : List ℕ

-- a cause of the connection's end is there
abbrev pub HasEnded : Meaning → Given → Type 0
HasEnded meaning c = (life : List EntryValue) × IsLife meaning c.bytes c.last life

-- it is live: no cause of its end fits its walk
pub record IsLive (meaning : Meaning) (c : Given) : Type 0 where
  pub messages : List EntryValue
  pub offset : ℕ
  pub verdict : Verdict
  pub walk : WalksBy meaning c.bytes messages offset verdict
  pub none : (cause : Cause) → Fits (length c.bytes) c.last verdict offset cause → ⊥

-- the entries are the life of a connection that was closed, of which neither is told from where it came nor when
pub record IsUntoldLife (meaning : Meaning) (c : Given) (entries : List EntryValue) : Type 0 where
  pub life : IsLife meaning c.bytes c.last entries
  pub nothing : life.came ≡ nothing_told
  pub never : life.until ≡ None

-- the same of a connection that is live
pub record IsUntoldOpenLife (meaning : Meaning) (c : Given) (entries : List EntryValue) : Type 0 where
  pub live : IsLive meaning c
  pub life : IsOpenLife meaning c.bytes entries
  pub nothing : life.came ≡ nothing_told

-- the entries are the life of a connection, as far as it came
abbrev pub IsLifeSoFar : Meaning → Given → List EntryValue → Type 0
IsLifeSoFar meaning c entries = IsUntoldLife meaning c entries ⊎ IsUntoldOpenLife meaning c entries

-- the entries begin with the life of a connection, and these are those after it
pub record BeginsWithLife (meaning : Meaning) (c : Given) (entries : List EntryValue) : Type 0 where
  pub life : List EntryValue
  pub after : List EntryValue
  pub split : entries ≡ life ++ after
  pub is_life : IsLifeSoFar meaning c life

-- what is due of a lane with these connections: their lives, one after another
abbrev pub AreDue : Meaning → List Given → List EntryValue → Type 0
AreDue meaning [] due = due ≡ []
AreDue meaning (c ∷ cs) due = (begins : BeginsWithLife meaning c due) × AreDue meaning cs begins.after

-- the last of the connections is live
pub record HasLive (meaning : Meaning) (connections : List Given) : Type 0 where
  pub earlier : List Given
  pub present : Given
  pub split : connections ≡ earlier ++ present ∷ []
  pub is_live : IsLive meaning present

-- the last of the connections has ended
pub record HasOver (meaning : Meaning) (connections : List Given) : Type 0 where
  pub earlier : List Given
  pub last : Given
  pub split : connections ≡ earlier ++ last ∷ []
  pub ended : HasEnded meaning last

-- no connection is live: there was none, or the last has ended
abbrev pub IsFree : Meaning → List Given → Type 0
IsFree meaning connections = (connections ≡ []) ⊎ HasOver meaning connections

-- a connection begins, of which no byte was taken; where one is live, nothing changes
abbrev pub Begins : Meaning → List Given → List Given → Type 0
Begins meaning old new = (IsFree meaning old × (new ≡ old ++ fresh ∷ [])) ⊎ (HasLive meaning old × (new ≡ old))

-- the live connection comes to this; where none is live, nothing changes
abbrev pub ComesTo : Meaning → (Given → Given) → List Given → List Given → Type 0
ComesTo meaning after old new = ((live : HasLive meaning old) × (new ≡ live.earlier ++ after live.present ∷ [])) ⊎ (IsFree meaning old × (new ≡ old))

-- a connection of which this piece was taken, as far as to the most bytes in all
abbrev pub with_piece : List ℕ → Given → Given
with_piece piece c = record { bytes = take most_taken (c.bytes ++ piece); last = gave }

-- a connection whose last read failed, or gave no byte
abbrev pub with_end : Bool → Given → Given
with_end fault c = record { bytes = c.bytes; last = if fault then failed else gave_none }

abbrev pub is_closing : EntryValue → Bool
is_closing (opened came) = false
is_closing (message head effects) = false
is_closing (closed closing) = true

-- what is published next of pending entries: those before the next closing, or a closing alone where it is the next one
abbrev pub next_of : List EntryValue → List EntryValue
next_of pending = take (max 1 (position_or_len is_closing pending)) pending

-- the connections of the lane of this number change so; where there is no such lane, nothing changes
pub record ChangesLane (number : ℕ) (Does : List Given → List Given → Type 0) (old new : MachineValue) : Type 0 where
  pub lane : LaneValue
  pub at : slice_get old.lanes number ≡ Some lane
  pub connections : List Given
  pub does : Does lane.connections connections
  pub is : new ≡ record { history = old.history; lanes = slice_set old.lanes number (record { connections = connections; published = lane.published }); askers = old.askers }

-- the pending entries of the lane of this number that are next join the history as the lane's
pub record Publishes (meaning : Meaning) (number : ℕ) (old new : MachineValue) : Type 0 where
  pub lane : LaneValue
  pub at : slice_get old.lanes number ≡ Some lane
  pub due : List EntryValue
  pub are_due : AreDue meaning lane.connections due
  pub is : let entries = next_of (drop lane.published due) in
      new ≡ record { history = old.history ++ batch number entries; lanes = slice_set old.lanes number (record { connections = lane.connections; published = lane.published + length entries }); askers = old.askers }

-- it is done where the number names one of so many, and else nothing changes
abbrev pub WhereNamed : {A : Type 0} → ℕ → List A → (MachineValue → MachineValue → Type 0) → MachineValue → MachineValue → Type 0
WhereNamed number names Does old new = ((number < length names) × Does old new) ⊎ ((length names ≤ number) × (new ≡ old))

-- the entries of so many lanes, from this one on
abbrev pub parts_from : ℕ → ℕ → History → List (List EntryValue)
parts_from first zero history = []
parts_from first (suc lanes) history = part first history ∷ parts_from (suc first) lanes history

-- an asker has seen so much of the history
abbrev pub with_seen : MachineValue → ℕ → ℕ → MachineValue
with_seen m asker seen = record { history = m.history; lanes = m.lanes; askers = slice_set m.askers asker seen }

-- an asker is told of this revision: it has then seen as much, or more where it had, and at most the whole history
pub record IsTold (asker rev : ℕ) (old new : MachineValue) : Type 0 where
  pub seen : ℕ
  pub at : slice_get old.askers asker ≡ Some seen
  pub is : new ≡ with_seen old asker (min (max seen rev) (revision old.history))

-- what an asker asks is answered on the whole history, which it has then seen
pub record IsAnswered (asker : ℕ) (ask : AskValue) (old new : MachineValue) (reply : List ℕ) : Type 0 where
  pub asker_is : asker < length old.askers
  pub asks : ask ≢ plain quit
  pub is_reply : IsAskReply ask (parts_from 0 (length old.lanes) old.history) reply
  pub is : new ≡ with_seen old asker (revision old.history)

-- nothing changes, and nothing is written
pub record IsStill (old new : MachineValue) (reply : List ℕ) : Type 0 where
  pub same : new ≡ old
  pub none : reply ≡ []

-- what an event does where the machine isn't finished, and what it writes
abbrev pub Acts : Meaning → Event → MachineValue → MachineValue → List ℕ → Type 0
Acts meaning (Begin lane) old new reply = WhereNamed lane old.lanes (ChangesLane lane (Begins meaning)) old new × (reply ≡ [])
Acts meaning (Take lane piece) old new reply = WhereNamed lane old.lanes (ChangesLane lane (ComesTo meaning (with_piece piece))) old new × (reply ≡ [])
Acts meaning (End lane fault) old new reply = WhereNamed lane old.lanes (ChangesLane lane (ComesTo meaning (with_end fault))) old new × (reply ≡ [])
Acts meaning (Publish lane) old new reply = WhereNamed lane old.lanes (Publishes meaning lane) old new × (reply ≡ [])
Acts meaning (Tell asker rev) old new reply = WhereNamed asker old.askers (IsTold asker rev) old new × (reply ≡ [])
Acts meaning (Ask asker ask) old new reply = IsAnswered asker (ask_value ask) old new reply
    ⊎ (((length old.askers ≤ asker) ⊎ (ask_value ask ≡ plain quit)) × IsStill old new reply)
Acts meaning Finish old new reply = (new ≡ record { history = old.history ++ Mark ∷ []; lanes = old.lanes; askers = old.askers }) × (reply ≡ [])

-- what an event does, and what it writes: nothing once the mark is there
abbrev pub Steps : Meaning → Event → MachineValue → MachineValue → List ℕ → Type 0
Steps meaning event old new reply = (IsUnmarked old.history × Acts meaning event old new reply) ⊎ ((IsUnmarked old.history → ⊥) × IsStill old new reply)
