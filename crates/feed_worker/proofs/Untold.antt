-- What is said of a lane's end where nothing tells where the last read began.
use Rattle.std.proofs.Common.{ℕ, List, Option, None, inl, inr}
use Rattle.bmp_specs.specs.Meaning.{Meaning}
use Rattle.bmp_specs.specs.Values.{EntryValue}
use Rattle.cut_publisher.specs.History.{Fed}
use Rattle.rib_model.specs.declared.entry.Entry.{Entry}
use Rattle.wire_io.specs.Aside.{Aside}
use Rattle.feed_worker.specs.Connection.{IsBegun}
use Rattle.feed_worker.specs.Feed.{EndsFeed, ServesFeed}
use Rattle.feed_worker.specs.declared.feed.LaneEnd.{LaneEnd}
use Rattle.feed_worker.specs.declared.feed.LaneEnd.TheVariants.{Over, NoMemory}

begun_untold : (meaning : Meaning) (began : Option ℕ) (bytes : List ℕ) (entries : List EntryValue) → IsBegun meaning began bytes entries → IsBegun meaning None bytes entries
begun_untold meaning began bytes entries (inl none) = inl none
begun_untold meaning began bytes entries (inr l) = inr (record { front = l.front; piece = l.piece; split = l.split; short = l.short; edge = inr tt; life = l.life })

pub ends_untold : (meaning : Meaning) (began : Option ℕ) (rounds : ℕ) (old new : Aside) (pass pass' : Fed Entry) (end : LaneEnd) → EndsFeed meaning began rounds old new pass pass' end → ServesFeed meaning rounds old new pass pass' end
ends_untold meaning began rounds old new pass pass' Over s = s
ends_untold meaning began rounds old new pass pass' NoMemory s = record {
  connections = s.connections;
  after = s.after;
  serves = s.serves;
  few = s.few;
  last = s.last;
  room = s.room;
  visits = s.visits;
  begun = begun_untold meaning began s.last.input.bytes s.last.life s.begun;
  closed = s.closed;
  grows = s.grows;
}
