-- The messages of a connection, read by read.
use Rattle.std.specs.Prelude.{ℕ, ◌+◌, ◌^◌, ◌≤◌, List, ◌∷◌, ◌++◌, length, Option}
use Rattle.bmp_specs.specs.declared.causes.Cause.{Cause}
use Rattle.bmp_specs.specs.Life.{most_taken, Given}
use Rattle.bmp_specs.specs.Meaning.{Meaning}
use Rattle.bmp_specs.specs.Values.{EntryValue, OpeningValue, opened}
use Rattle.bmp_message.specs.StreamWalk.{WalkValue, HasGiven, Gives}
use Rattle.cut_publisher.specs.History.{Fed}
use Rattle.rib_model.specs.declared.entry.Entry.{Entry}
use Rattle.feed_worker.specs.FeedPort.{IsPresent}
use Rattle.feed_worker.specs.Front.{IsFront}
use Rattle.feed_worker.specs.Publishing.{Grows}

-- the pass published this opening and then the messages of these bytes, all that the walk gave
pub record HasPublished {B : Type 0} (meaning : Meaning) (state : B → meaning.State) (came : OpeningValue) (first now : Fed Entry) (fed : List ℕ) (walk : WalkValue B) : Type 0 where
  pub messages : List EntryValue
  pub given : HasGiven meaning state fed messages walk
  pub grows : Grows first now (opened came ∷ messages)

-- the same, where the walk goes on or ends for a cause
pub record Publishes {B : Type 0} (meaning : Meaning) (state : B → meaning.State) (came : OpeningValue) (first now : Fed Entry) (fed : List ℕ) (walk : WalkValue B) (end : Option Cause) : Type 0 where
  pub messages : List EntryValue
  pub gives : Gives meaning state fed messages walk end
  pub grows : Grows first now (opened came ∷ messages)

-- A piece more of a connection may be published. A pass that has room for the entries of one connection published those of
-- the bytes before it; the port gave these and the piece, where it tells what it gave; and these are the first octets beyond
-- the messages.
pub record HasRoom {B : Type 0} (meaning : Meaning) (state : B → meaning.State) (now : Fed Entry) (walk : WalkValue B) (given : Option (List Given)) (octets piece : List ℕ) : Type 0 where
  pub came : OpeningValue
  pub first : Fed Entry
  pub room : length first.entries + 2 ^ 44 ≤ 2 ^ 57
  pub fed : List ℕ
  pub within : length fed + length piece ≤ most_taken
  pub published : HasPublished meaning state came first now fed walk
  pub present : IsPresent given (fed ++ piece)
  pub front : IsFront fed walk.offset octets
