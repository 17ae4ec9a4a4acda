-- How many entries a run of a station publishes in all.
use Rattle.std.specs.Prelude.{◌≡◌, ℕ, ◌+◌, List, [], ◌∷◌, length, take, Some}
use Rattle.std.specs.List.{AllByRecursion}
use Rattle.bmp_specs.specs.Life.{IsLife}
use Rattle.bmp_specs.specs.Meaning.{Meaning}
use Rattle.bmp_specs.specs.Values.{EntryValue}
use Rattle.cut_publisher.specs.History.{Asker, Fed}
use Rattle.rib_model.specs.declared.entry.Entry.{Entry}
use Rattle.rib_model.specs.Entries.{entry_values}
use Rattle.router_tables.specs.Tables.{TablesValue}
use Rattle.wire_io.specs.Aside.{Plan}
use Rattle.station_doors.specs.Doors.{YardSeen, YardValue}
use Rattle.station_doors.specs.declared.listening.Listening.{Listening}
use Rattle.feed_worker.specs.Feed.{Connection, lives_of}
use Rattle.feed_worker.specs.Planned.{AreWholeLives, LivesFit}
use Rattle.station_run.specs.Handed.{call_after}
use Rattle.station_run.specs.Serve.{Ends}
use Rattle.station_run.specs.Served.{LaneRun}
use Rattle.station_run.specs.declared.outcome.Outcome.{Outcome}
use Rattle.station_run.specs.declared.outcome.Outcome.TheVariants.{Done}

-- no call of a port with one of these plans fails
abbrev pub FailNone : List Plan → Type 0
FailNone plans = AllByRecursion (λ (p : Plan). p.fails ≡ []) plans

-- the lives of as many connections as are asked for of each of these plans have at most 2^56 entries
abbrev pub AllLivesFit : Meaning → ℕ → List Plan → Type 0
AllLivesFit meaning rounds plans = AllByRecursion (λ (p : Plan). LivesFit meaning rounds p) plans

-- the number of entries in the lives of the first connections of each of these plans, of so many or of all
abbrev pub CountLives : Meaning → ℕ → List Plan → ℕ → Type 0
CountLives meaning rounds [] count = count ≡ 0
CountLives meaning rounds (plan ∷ plans) count = (entries : List EntryValue) × (others : ℕ) × AreWholeLives meaning (take rounds plan.connections) entries × CountLives meaning rounds plans others × (count ≡ length entries + others)

-- Where a yard tells its plans, no port's plan fails a call, the lives of its connections have at most 2^56 entries, and no
-- memory is wanting, a run ends with the revision that these plans alone give.
abbrev pub DoneCountsLives : {E : Type 0} (Shows : E → List (TablesValue × ℕ) → List (Fed Entry) → List (Asker Entry) → Type 0) (meaning : Meaning) → Type 0
DoneCountsLives {E} Shows meaning = (at : Listening) (rounds : ℕ) (old new : YardSeen E) (yard : YardValue) (rev : ℕ) → AllLivesFit meaning rounds (take at.feeds yard.ports) → old.told ≡ Some yard → FailNone (take at.feeds yard.ports)
    → Ends Shows meaning at rounds old new Done rev → CountLives meaning rounds (take at.feeds yard.ports) rev

-- the number of entries that the lanes of these runs published
abbrev pub published_by : List LaneRun → ℕ
published_by [] = 0
published_by (r ∷ runs) = length r.pass.entries + published_by runs

-- What a lane published are the whole lives of some connections: of as many as its port counts more of, given and closed,
-- than when it was handed out.
pub record CountsConnections (meaning : Meaning) (r : LaneRun) : Type 0 where
  pub connections : List Connection
  pub whole : AllByRecursion (λ (c : Connection). IsLife meaning c.input.bytes c.input.last c.life) connections
  pub lives : entry_values r.pass.entries ≡ lives_of connections
  pub opened : r.last.opened ≡ call_after r.first.opened (length connections)
  pub closed : r.last.closed ≡ call_after r.first.closed (length connections)

-- Whatever the yard tells: a run ends with the revision that is the number of entries which its lanes published, and where
-- no memory was wanting, each published the lives of as many connections as its port counts.
abbrev pub EndCountsConnections : {E : Type 0} (Shows : E → List (TablesValue × ℕ) → List (Fed Entry) → List (Asker Entry) → Type 0) (meaning : Meaning) → Type 0
EndCountsConnections {E} Shows meaning = (at : Listening) (rounds : ℕ) (old new : YardSeen E) (outcome : Outcome) (rev : ℕ) → (e : Ends Shows meaning at rounds old new outcome rev)
    → (rev ≡ published_by e.runs) × (outcome ≡ Done → AllByRecursion (λ (r : LaneRun). CountsConnections meaning r) e.runs)
