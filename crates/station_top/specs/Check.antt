-- The counts of `check`.
use Rattle.std.specs.Prelude.{◌≡◌, ℕ, List, [], ◌∷◌, ◌==◌, ◌<◌, ◌^◌, nat_lt, Bool, if◌then◌else◌, ◌+◌, codes, length, map, flat_map, sum_by}
use Rattle.std.specs.Borrow.{Bor}
use Rattle.bmp_specs.specs.Check.{check_counts, length_of}
use Rattle.bmp_specs.specs.Lines.{number_line}
use Rattle.bmp_specs.specs.Reply.{told_count}
use Rattle.bmp_specs.specs.Values.{EntryValue}
use Rattle.station_top.specs.declared.counts.Counts.{Counts}

-- a count, and one more where it counts
abbrev pub counted : ℕ → Bool → ℕ
counted count here = told_count (count + (if here then 1 else 0))

-- one message more, of this type and length
abbrev pub counts_more : Counts → ℕ → ℕ → Counts
counts_more c kind len = record {
  messages = told_count (c.messages + 1);
  bytes = told_count (c.bytes + len);
  route_monitoring = counted c.route_monitoring (kind == 0);
  statistics_report = counted c.statistics_report (kind == 1);
  peer_down = counted c.peer_down (kind == 2);
  peer_up = counted c.peer_up (kind == 3);
  initiation = counted c.initiation (kind == 4);
  termination = counted c.termination (kind == 5);
  route_mirroring = counted c.route_mirroring (kind == 6);
  other = counted c.other (nat_lt 6 kind);
}

-- the names and the numbers, in the order of the lines
abbrev pub count_lines : Counts → List (List ℕ × ℕ)
count_lines c =
    (codes "messages", c.messages)
    ∷ (codes "bytes", c.bytes)
    ∷ (codes "route-monitoring", c.route_monitoring)
    ∷ (codes "statistics-report", c.statistics_report)
    ∷ (codes "peer-down", c.peer_down)
    ∷ (codes "peer-up", c.peer_up)
    ∷ (codes "initiation", c.initiation)
    ∷ (codes "termination", c.termination)
    ∷ (codes "route-mirroring", c.route_mirroring)
    ∷ (codes "other", c.other)
    ∷ []

-- they are the counts of these entries, each at most the greatest number of 64 bits
pub record AreCounts (c : Counts) (entries : List EntryValue) : Type 0 where
  pub counts : count_lines c ≡ map (λ line. (line.0, told_count line.1)) (check_counts entries)

-- they are the counts of these entries, which are few enough that each is told as it is
pub record TellCounts (c : Counts) (entries : List EntryValue) : Type 0 where
  pub are : AreCounts c entries
  pub few : length entries < 2 ^ 64
  pub short : sum_by length_of entries < 2 ^ 64

-- the ten lines
abbrev pub lines_of : Counts → List ℕ
lines_of c = flat_map (λ line. number_line line.0 line.1) (count_lines c)

-- a line for each word and number
abbrev pub number_lines : List (Bor (List ℕ) × ℕ) → List ℕ
number_lines lines = flat_map (λ line. number_line line.0.now line.1) lines
