-- A lane's present session without its routes: the state of the lane, what the session counts, and what it told. With it stands
-- the lane's last connection, which is of the present session or closed.
use Rattle.std.specs.Prelude.{◌≡◌, List}
use Rattle.bmp_specs.specs.Counts.{CountsValue, counts_of}
use Rattle.bmp_specs.specs.Session.{LaneStateValue, state_of, session_effects}
use Rattle.bmp_specs.specs.Values.{EntryValue}
use Rattle.router_tables.specs.Books.{BooksValue, StandsForBooks}
use Rattle.router_tables.specs.Last.{LastValue, StandsForLast}

pub record SessionValue : Type 0 where
  pub state : LaneStateValue
  pub counts : CountsValue
  pub books : BooksValue
  pub last : LastValue

-- it is the session that these entries leave
pub record StandsForSession (session : SessionValue) (entries : List EntryValue) : Type 0 where
  pub state : session.state ≡ state_of entries
  pub counts : session.counts ≡ counts_of entries
  pub books : StandsForBooks session.books (session_effects entries)
  pub last : StandsForLast session.last entries
