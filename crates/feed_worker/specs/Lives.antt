-- What can be seen of a lane: lives of connections, one after another, of which the last may be open.
use Rattle.std.specs.Prelude.{◌≡◌, ℕ, ◌-◌, ◌<◌, ◌≤◌, ◌^◌, List, [], length, Option}
use Rattle.ask_specs.specs.Lives.{IsLaneOf}
use Rattle.ask_specs.specs.Mirror.{CopyValue, ToldValue, IsExactOrNone, Keeps, Tells}
use Rattle.ask_specs.specs.StepRows.{AnnouncesOfUp}
use Rattle.bmp_specs.specs.Meaning.{Meaning}
use Rattle.bmp_specs.specs.Steps.{steps_of}
use Rattle.bmp_specs.specs.Values.{EntryValue}
use Rattle.cut_publisher.specs.declared.history.Event.{Event}
use Rattle.cut_publisher.specs.History.{Begins, Fed, part, revision}
use Rattle.rib_model.specs.declared.entry.Entry.{Entry}
use Rattle.rib_model.specs.Entries.{entry_values}
use Rattle.wire_io.specs.Aside.{Aside}
use Rattle.feed_worker.specs.Feed.{EndsFeed}
use Rattle.feed_worker.specs.declared.feed.LaneEnd.{LaneEnd}

-- A lane served the connections of its port from nothing on, and its part of the history is what it published, however its
-- work ended.
pub record IsServedLane (meaning : Meaning) (lane : ℕ) (history : List (Event Entry)) : Type 0 where
  pub began : Option ℕ
  pub rounds : ℕ
  pub old : Aside
  pub new : Aside
  pub before : Fed Entry
  pub after : Fed Entry
  pub end : LaneEnd
  pub nothing : before.entries ≡ []
  pub serves : EndsFeed meaning began rounds old new before after end
  pub published : part lane history ≡ after.entries

-- what is seen of a lane, where this was seen of the history
abbrev pub seen_of : ℕ → List (Event Entry) → List EntryValue
seen_of lane seen = entry_values (part lane seen)

-- Whatever front of the history was seen, what is seen of the lane are lives, of which the last may be open. A front may end
-- within a connection, also where no publication ended: the messages up to there are those of fewer bytes.
abbrev pub SeenAreLives : Meaning → Type 0
SeenAreLives meaning = (lane : ℕ) (history seen : List (Event Entry)) → IsServedLane meaning lane history → Begins seen history → IsLaneOf meaning (seen_of lane seen)

-- each announcement that is seen of the lane is of a peer that is up
abbrev pub SeenAnnounceOfUp : Meaning → Type 0
SeenAnnounceOfUp meaning = (lane : ℕ) (history seen : List (Event Entry)) → IsServedLane meaning lane history → Begins seen history → AnnouncesOfUp (seen_of lane seen)

-- A client asks of the lane on one front of the history, and then on another, whose revision is no less. Its copy of the
-- lane's rows, which was exact on the first, is exact on the second, or known to be none.
abbrev pub KeepsCopyOfLane : Meaning → Type 0
KeepsCopyOfLane meaning = (lane : ℕ) (history earlier later : List (Event Entry)) (copy kept : Option CopyValue) (told : ToldValue) → IsServedLane meaning lane history
    → Begins earlier history → Begins later history → revision earlier ≤ revision later → length (steps_of (seen_of lane later)) < 2 ^ 64 - 1
    → IsExactOrNone (seen_of lane earlier) copy → Tells (seen_of lane later) copy told → Keeps copy told kept → IsExactOrNone (seen_of lane later) kept
