-- The last connection of a lane, open or closed: from where it came and when, which parts of its messages were passed over, and
-- where it is closed, what its session left.
use Rattle.std.specs.Prelude.{◌≡◌, ℕ, List, Option, Some, None}
use Rattle.bmp_specs.specs.Counts.{CountsValue}
use Rattle.bmp_specs.specs.Session.{LaneStateValue, idle, live, shut, state_of, name_of, description_of}
use Rattle.bmp_specs.specs.Values.{EntryValue, OpeningValue}
use Rattle.ask_specs.specs.Connection.{PassedValue, came_of, last_counts, last_effects, last_messages, passed_of, until_of}
use Rattle.peer_book.specs.Standing.{AreUp}

-- what a session leaves: how many peers were up, what it counted, and its router's name and description
pub record LeftValue : Type 0 where
  pub peers : ℕ
  pub counts : CountsValue
  pub name : List ℕ
  pub description : List ℕ

-- it is what the last connection of these entries left
pub record StandsForLeft (left : LeftValue) (entries : List EntryValue) : Type 0 where
  pub peers : AreUp left.peers (last_effects entries)
  pub counts : left.counts ≡ last_counts entries
  pub name : left.name ≡ name_of (last_effects entries)
  pub description : left.description ≡ description_of (last_effects entries)

-- it is there exactly where the last connection is closed
abbrev pub IsLeft : LaneStateValue → Option LeftValue → List EntryValue → Type 0
IsLeft idle left entries = left ≡ None
IsLeft live left entries = left ≡ None
IsLeft (shut cause) left entries = (there : LeftValue) × (left ≡ Some there) × StandsForLeft there entries

pub record LastValue : Type 0 where
  pub came : OpeningValue
  pub until : Option ℕ
  pub passed : PassedValue
  pub left : Option LeftValue

-- it is the last connection of these entries
pub record StandsForLast (last : LastValue) (entries : List EntryValue) : Type 0 where
  pub came : last.came ≡ came_of entries
  pub until : last.until ≡ until_of entries
  pub passed : last.passed ≡ passed_of (last_messages entries)
  pub left : IsLeft (state_of entries) last.left entries
