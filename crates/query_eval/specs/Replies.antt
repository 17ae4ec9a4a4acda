-- What a call leaves that writes a reply, and the replies on the histories that a cut stands for.
use Rattle.std.specs.Prelude.{◌≡◌, ◌⊎◌, ℕ, zero, suc, false, List, [], ◌∷◌, length, flat_map, sum_by, Option, Result}
use Rattle.std.specs.Io.KnownBytes.{append_known}
use Rattle.cut_publisher.specs.declared.history.Event.{Event}
use Rattle.cut_publisher.specs.Cuts.{Stands}
use Rattle.cut_publisher.specs.History.{part}
use Rattle.rib_model.specs.declared.entry.Entry.{Entry}
use Rattle.rib_model.specs.Entries.{entry_values}
use Rattle.ask_specs.specs.Asking.{AskValue, TellsRows, plain, rows, steps, full_marks, full_routers}
use Rattle.ask_specs.specs.AskReply.{AreAskedLaneLines, AreFurtherLines, IsAskReply}
use Rattle.ask_specs.specs.Traits.{TraitsValue, no_traits}
use Rattle.bmp_specs.specs.Listed.{AreParallel}
use Rattle.bmp_specs.specs.Query.{QueryValue, count, quit}
use Rattle.bmp_specs.specs.QueryReply.{AreLaneLines, AreReplyLines}
use Rattle.bmp_specs.specs.Reply.{told_count}
use Rattle.bmp_specs.specs.Rows.{RowValue}
use Rattle.bmp_specs.specs.Selection.{SelectValue}
use Rattle.bmp_specs.specs.Values.{EntryValue}
use Rattle.router_tables.specs.Tables.{TablesValue, StandsFor}
use Rattle.wire_io.specs.declared.sink.Failed.{Failed}
use Rattle.wire_io.specs.Aside.{Aside, laid_over}
use Rattle.wire_io.specs.Buffer.{BufferValue}
use Rattle.wire_io.specs.Faults.{HasCause}
use Rattle.wire_io.specs.Writes.{Writes}
use Rattle.query_eval.specs.Puts.{AreKeptRows}

-- For whichever entries, this text of them was written, or a front of it where a write failed.
pub record PutsText {O E : Type 0} (faults : O → ℕ) (told : O → Option (List ℕ)) (aside : O → Aside) (Of : E → Type 0) (IsText : E → List ℕ → Type 0) (old : O) (result : Result (Unit {0}) Failed) (new : O) : Type 0 where
  pub puts : (entries : E) (text : List ℕ) → Of entries → IsText entries text → Writes faults told aside old text result new
  pub kept : aside new ≡ aside old
  pub cause : HasCause (faults old) (faults new) result

-- The same of a buffer over a sink: what it holds counts as written.
abbrev pub PutsBuffered : {O E : Type 0} → (O → ℕ) → (O → Option (List ℕ)) → (O → Aside) → (E → Type 0) → (E → List ℕ → Type 0) → BufferValue O → Result (Unit {0}) Failed → BufferValue O → Type 0
PutsBuffered {O = O} faults told aside Of IsText old result new = PutsText (λ (p : BufferValue O). faults p.below) (λ (p : BufferValue O). append_known (told p.below) p.held) (λ (p : BufferValue O). laid_over (told p.first) (aside p.below)) Of IsText old result new

-- The reply was written and no write failed, or a write failed in this call and a front of the reply was written.
pub record PutsReply {O : Type 0} (faults : O → ℕ) (told : O → Option (List ℕ)) (aside : O → Aside) (IsReply : List ℕ → Type 0) (old : O) (result : Result (Unit {0}) Failed) (new : O) : Type 0 where
  pub text : List ℕ
  pub is_reply : IsReply text
  pub written : Writes faults told aside old text result new

-- the tables of a lane stand for these entries, and their number is the lane's count
pub record StandsForLane (lane : TablesValue × ℕ) (entries : List EntryValue) : Type 0 where
  pub tables : StandsFor lane.0 entries
  pub count : lane.1 ≡ length entries

-- each lane of a cut stands for its entries
abbrev pub StandForLanes : List (TablesValue × ℕ) → List (List EntryValue) → Type 0
StandForLanes lanes entries = AreParallel (λ number lane es. StandsForLane lane es) lanes entries

-- the entries of so many lanes of a history, from this lane on
abbrev pub lanes_from : ℕ → ℕ → List (Event Entry) → List (List EntryValue)
lanes_from first zero history = []
lanes_from first (suc lanes) history = entry_values (part first history) ∷ lanes_from (suc first) lanes history

abbrev pub lanes_of : ℕ → List (Event Entry) → List (List EntryValue)
lanes_of lanes history = lanes_from 0 lanes history

-- the cut stands for the history
abbrev pub StandsForHistory : List (TablesValue × ℕ) → List (Event Entry) → Type 0
StandsForHistory lanes history = Stands (λ tables entries. StandsFor tables (entry_values entries)) lanes history

-- the text is the reply to what is asked, on the history, which has so many lanes
abbrev pub IsAskReplyOn : AskValue → ℕ → List (Event Entry) → List ℕ → Type 0
IsAskReplyOn ask lanes history text = IsAskReply ask (lanes_of lanes history) text

-- the lines of a lane in the reply to what is asked, and all lines between the first and the last of it
abbrev pub AreAskLaneLines : AskValue → ℕ → List EntryValue → List (List ℕ) → Type 0
AreAskLaneLines (plain query) lane entries lines = AreLaneLines query lane entries lines
AreAskLaneLines ask lane entries lines = AreAskedLaneLines ask lane entries lines

abbrev pub AreAskLines : AskValue → List (List EntryValue) → List (List ℕ) → Type 0
AreAskLines (plain query) lanes lines = AreReplyLines query lanes lines
AreAskLines ask lanes lines = AreFurtherLines ask lanes lines

-- lanes with these entries have these lines in all, lane after lane, where a lane has lines that fit
pub record AreLanes (Fit : ℕ → List EntryValue → List (List ℕ) → Type 0) (lanes : List (List EntryValue)) (lines : List (List ℕ)) : Type 0 where
  pub parts : List (List (List ℕ))
  pub each : AreParallel Fit lanes parts
  pub all : lines ≡ flat_map (λ part. part) parts

-- For whichever entries of each lane, it is the number of all rows that are asked for and whose routes have what is asked, at
-- most the greatest of 64 bits.
pub record CountsAllRows (Of : List (List EntryValue) → Type 0) (query : QueryValue) (traits : TraitsValue) (number : ℕ) : Type 0 where
  pub counts : (lanes : List (List EntryValue)) (parts : List (List RowValue)) → Of lanes → AreParallel (AreKeptRows query traits) lanes parts → number ≡ told_count (sum_by length parts)

-- what is asked is the number of rows of all lanes, by these selectors
abbrev pub AsksCount : AskValue → SelectValue → TraitsValue → Type 0
AsksCount ask select traits = ((ask ≡ plain (count select)) × (traits ≡ no_traits)) ⊎ (ask ≡ rows false false (count select) traits)

-- The reply of the query tells of each lane apart: it isn't the number of rows of all lanes, and the query isn't the end
-- of the session.
abbrev pub TellsByLane : QueryValue → Type 0
TellsByLane (count select) = ⊥
TellsByLane quit = ⊥
TellsByLane _ = Unit {0}

-- the same of what is asked
abbrev pub AsksByLane : AskValue → Type 0
AsksByLane (plain query) = TellsByLane query
AsksByLane (rows with_steps full query traits) = TellsRows query
AsksByLane (steps full lane from prefix) = Unit {0}
AsksByLane (full_marks select) = Unit {0}
AsksByLane full_routers = Unit {0}
