-- Connections in memory.
use Rattle.std.specs.Prelude.{◌≡◌, ℕ, List, [], ◌∷◌, ◌++◌, Option, None, Some, Bool, map, take, drop, unwrap_or}
use Rattle.bmp_specs.specs.Life.{Given}
use Rattle.wire_io.specs.Aside.{Aside, Plan}
use Rattle.station_doors.specs.LastRead.{last_of}
use Rattle.station_doors.specs.Doors.{read_of}
use Rattle.station_doors.specs.declared.connections.Session.{Session}

abbrev pub bytes_of : Session → List ℕ
bytes_of s = s.bytes

abbrev pub given_of : Session → Given
given_of s = record { bytes = take s.count s.bytes; last = last_of s.last }

abbrev pub writes_of : Session → ℕ
writes_of s = s.writes

-- what the last of the connections has left
abbrev pub rest_of : List Session → List ℕ
rest_of [] = []
rest_of (s ∷ []) = drop s.count s.bytes
rest_of (s ∷ t ∷ ts) = rest_of (t ∷ ts)

-- what is shown of these connections, of which so many were opened and so many closed, where no call fails
abbrev pub shows_of : List Session → ℕ → ℕ → Bool → ℕ → Bool → ℕ → Aside
shows_of sessions opened closed is_open taken refused faults = record {
  plan = Some (record { connections = map bytes_of sessions; fails = [] });
  coming = Some (map bytes_of (drop opened sessions));
  rest = Some (rest_of (take opened sessions));
  given = Some (map given_of (take opened sessions));
  opened = opened;
  closed = closed;
  is_open = is_open;
  taken = taken;
  refused = refused;
  open_faults = 0;
  read_faults = faults;
  write_faults = Some (map writes_of (take opened sessions));
  laid = [];
}

abbrev pub no_plan : Plan
no_plan = record { connections = []; fails = [] }

-- a plan with the same connections, of which these calls fail
abbrev pub plan_with : List ℕ → Option Plan → Plan
plan_with fails plan = record { connections = (unwrap_or plan no_plan).connections; fails = fails }

-- what a link over these connections shows of whose calls these fail, and a port
abbrev pub link_shows : List ℕ → Aside → Aside
link_shows fails a = record a { plan = Some (plan_with fails a.plan) }

abbrev pub port_shows : List ℕ → Aside → Aside
port_shows fails a = record a { plan = Some (plan_with fails a.plan); write_faults = None }

-- so many bytes were given of a connection, which are the buffer's first; none only at its end
pub record IsGiven (old new : Session) (n : ℕ) (buf : List ℕ) : Type 0 where
  pub bytes : new.bytes ≡ old.bytes
  pub given : take new.count old.bytes ≡ take old.count old.bytes ++ take n buf
  pub rest : drop old.count old.bytes ≡ take n buf ++ drop new.count old.bytes
  pub end : n ≡ 0 → drop new.count old.bytes ≡ []
  pub last : last_of new.last ≡ read_of n
  pub writes : new.writes ≡ old.writes
