-- What a lane publishes of a port that tells its plan, where the plan fails no call.
use Rattle.std.specs.Prelude.{◌≡◌, ℕ, ◌≤◌, List, [], ◌∷◌, ◌++◌, length, take}
use Rattle.bmp_specs.specs.Life.{IsLife, gave_none, most_taken}
use Rattle.bmp_specs.specs.Meaning.{Meaning}
use Rattle.bmp_specs.specs.Values.{EntryValue}
use Rattle.cut_publisher.specs.History.{Fed}
use Rattle.rib_model.specs.declared.entry.Entry.{Entry}
use Rattle.rib_model.specs.Entries.{entry_values}
use Rattle.station_doors.specs.Doors.{untouched}
use Rattle.wire_io.specs.Aside.{Aside, Plan}
use Rattle.feed_worker.specs.Feed.{ServesAll, most_entries}

-- the life of a connection that has these bytes and then its end: that of its first 2^46 bytes
abbrev pub IsWholeLife : Meaning → List ℕ → List EntryValue → Type 0
IsWholeLife meaning bytes life = IsLife meaning (take most_taken bytes) gave_none life

-- the entries are the lives of these connections, one after another
abbrev pub AreWholeLives : Meaning → List (List ℕ) → List EntryValue → Type 0
AreWholeLives meaning [] entries = entries ≡ []
AreWholeLives meaning (bytes ∷ connections) entries = (life : List EntryValue) × (rest : List EntryValue) × IsWholeLife meaning bytes life × AreWholeLives meaning connections rest × (entries ≡ life ++ rest)

-- Whatever the lives of a plan's first connections are, as many as are asked for or fewer, they have no more entries than a
-- lane may have that begins a round.
abbrev pub LivesFit : Meaning → ℕ → Plan → Type 0
LivesFit meaning rounds plan = (n : ℕ) (entries : List EntryValue) → n ≤ rounds → AreWholeLives meaning (take n plan.connections) entries → length entries ≤ most_entries

-- So it is with up to 4,096 connections.
abbrev pub FewLivesFit : Meaning → Type 0
FewLivesFit meaning = (rounds : ℕ) (plan : Plan) → length (take rounds plan.connections) ≤ 4096 → LivesFit meaning rounds plan

-- A lane that had published nothing and served connections of a port that had answered no call, and whose plan fails none,
-- published the lives of the plan's first connections: of as many as were asked for, or of all.
abbrev pub PublishesPlan : Meaning → Type 0
PublishesPlan meaning = (rounds : ℕ) (plan : Plan) (new : Aside) (pass pass' : Fed Entry) → LivesFit meaning rounds plan → plan.fails ≡ [] → pass.entries ≡ []
    → ServesAll meaning rounds (untouched plan) new pass pass' → AreWholeLives meaning (take rounds plan.connections) (entry_values pass'.entries)
