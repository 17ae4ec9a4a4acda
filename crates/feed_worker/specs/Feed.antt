-- The connections of a lane, one after another.
use Rattle.std.specs.Prelude.{◌≡◌, ◌⊎◌, ℕ, ◌+◌, ◌<◌, ◌≤◌, ◌^◌, Bool, List, [], ◌∷◌, ◌++◌, length, map, MatchBool, nat_lt, Option, Some, None, IfSome, OnErr, Result}
use Rattle.bmp_specs.specs.Life.{IsLife, Given}
use Rattle.bmp_specs.specs.Meaning.{Meaning}
use Rattle.bmp_specs.specs.Values.{EntryValue}
use Rattle.cut_publisher.specs.History.{Fed}
use Rattle.rib_model.specs.declared.entry.Entry.{Entry}
use Rattle.station_doors.specs.Doors.{Opens, Closes, opened_one, IsRefusal}
use Rattle.wire_io.specs.Aside.{Aside}
use Rattle.wire_io.specs.declared.sink.Failed.{Failed}
use Rattle.feed_worker.specs.Connection.{TakesBytes, IsBegun}
use Rattle.feed_worker.specs.Publishing.{Grows}
use Rattle.feed_worker.specs.declared.feed.LaneEnd.{LaneEnd}
use Rattle.feed_worker.specs.declared.feed.LaneEnd.TheVariants.{Over, NoMemory}

-- one connection: what the port told when it was opened, taken and closed; what it gave; and what was published of it
pub record Connection : Type 0 where
  pub opened : Aside
  pub taken : Aside
  pub closed : Aside
  pub input : Given
  pub life : List EntryValue

abbrev pub input_of : Connection → Given
input_of c = c.input

-- what was published of these connections, in order
abbrev pub lives_of : List Connection → List EntryValue
lives_of [] = []
lives_of (c ∷ cs) = c.life ++ lives_of cs

-- the port opened a connection, gave bytes of it, and closed it
pub record Visits (meaning : Meaning) (old : Aside) (c : Connection) : Type 0 where
  pub opens : Opens old c.opened opened_one
  pub takes : TakesBytes meaning c.opened c.taken c.input
  pub closes : Closes c.taken c.closed

-- one connection after another, each with its whole life
abbrev pub Serves : Meaning → Aside → Aside → List Connection → Type 0
Serves meaning old new [] = new ≡ old
Serves meaning old new (c ∷ cs) = Visits meaning old c × IsLife meaning c.input.bytes c.input.last c.life × Serves meaning c.closed new cs

-- A call of `next_connection` gave no connection. It failed only where the plan has a call that fails.
pub record Refuses (old new : Aside) : Type 0 where
  pub result : Result Bool Failed
  pub refused : IsRefusal result
  pub opens : Opens old new result
  pub planned : IfSome old.plan (λ plan. OnErr result (plan.fails ≡ [] → ⊥))

-- The present connection, of which nothing was read yet, was read, and then closed. Of the entries that the pass
-- published of it this holds.
pub record Concludes (meaning : Meaning) (IsOf : Given → List EntryValue → Type 0) (old new : Aside) (pass pass' : Fed Entry) : Type 0 where
  pub taken : Aside
  pub input : Given
  pub entries : List EntryValue
  pub takes : TakesBytes meaning old taken input
  pub closes : Closes taken new
  pub is_of : IsOf input entries
  pub grows : Grows pass pass' entries

-- the entries are the life of the connection that gave this, or a beginning of it, where the last read began there
abbrev pub IsLifeOf : Meaning → Given → List EntryValue → Type 0
IsLifeOf meaning input entries = IsLife meaning input.bytes input.last entries

abbrev pub IsBegunOf : Meaning → Option ℕ → Given → List EntryValue → Type 0
IsBegunOf meaning began input entries = IsBegun meaning began input.bytes entries

-- the most entries of a pass with which a lane begins a round
abbrev pub most_entries : ℕ
most_entries = 2 ^ 56

-- each of these was opened by a pass with no more entries than that
abbrev pub HaveRoom : ℕ → List Connection → Type 0
HaveRoom count [] = Unit {0}
HaveRoom count (c ∷ cs) = (count ≤ most_entries) × HaveRoom (count + length c.life) cs

-- No further connection was opened: `next_connection` gave none, or it wasn't called, since the pass has too many entries
-- for a further round.
abbrev pub Stops : Aside → Aside → Fed Entry → Type 0
Stops after new pass = Refuses after new ⊎ ((most_entries < length pass.entries) × (new ≡ after))

-- Up to so many connections were served, each with its whole life: as many, or fewer, where no further one was then
-- opened.
pub record ServesAll (meaning : Meaning) (rounds : ℕ) (old new : Aside) (pass pass' : Fed Entry) : Type 0 where
  pub connections : List Connection
  pub after : Aside
  pub serves : Serves meaning old after connections
  pub room : HaveRoom (length pass.entries) connections
  pub grows : Grows pass pass' (lives_of connections)
  pub stop : MatchBool (nat_lt (length connections) rounds) (Stops after new pass') ((length connections ≡ rounds) × (new ≡ after))

-- Memory ran out in the last of the connections, of whose life a beginning was published. The last read began after so
-- many bytes, where that is told. The connection was closed, and no further one was opened.
pub record ServesSome (meaning : Meaning) (began : Option ℕ) (rounds : ℕ) (old new : Aside) (pass pass' : Fed Entry) : Type 0 where
  pub connections : List Connection
  pub after : Aside
  pub serves : Serves meaning old after connections
  pub few : length connections < rounds
  pub last : Connection
  pub room : HaveRoom (length pass.entries) (connections ++ last ∷ [])
  pub visits : Visits meaning after last
  pub begun : IsBegun meaning began last.input.bytes last.life
  pub closed : new ≡ last.closed
  pub grows : Grows pass pass' (lives_of connections ++ last.life)

-- how the work of a lane ended, where the last read began after so many bytes
abbrev pub EndsFeed : Meaning → Option ℕ → ℕ → Aside → Aside → Fed Entry → Fed Entry → LaneEnd → Type 0
EndsFeed meaning began rounds old new pass pass' Over = ServesAll meaning rounds old new pass pass'
EndsFeed meaning began rounds old new pass pass' NoMemory = ServesSome meaning began rounds old new pass pass'

-- the same where that isn't told
abbrev pub ServesFeed : Meaning → ℕ → Aside → Aside → Fed Entry → Fed Entry → LaneEnd → Type 0
ServesFeed meaning rounds old new pass pass' end = EndsFeed meaning None rounds old new pass pass' end

-- A port that tells the connections that it gave tells what was read of each that was served.
abbrev pub PortsTellConnections : Meaning → Type 0
PortsTellConnections meaning = (connections : List Connection) (old new : Aside) (given : List Given)
    → Serves meaning old new connections → old.given ≡ Some given → new.given ≡ Some (given ++ map input_of connections)

-- A pass that had no entry never has too many for a further round while it serves up to 4,096: a lane of so many rounds
-- stops early only where `next_connection` gave no connection.
abbrev pub FewRoundsFit : Meaning → Type 0
FewRoundsFit meaning = (rounds : ℕ) (old new : Aside) (pass pass' : Fed Entry) → rounds ≤ 4096 → pass.entries ≡ [] → (s : ServesAll meaning rounds old new pass pass')
    → MatchBool (nat_lt (length s.connections) rounds) (Refuses s.after new) ((length s.connections ≡ rounds) × (new ≡ s.after))
