-- A disk in memory.
use Rattle.std.specs.Prelude.{◌≡◌, ℕ, ◌≤◌, List, [], ◌∷◌, length}
use Rattle.disk_doors.specs.Images.{settled}
use Rattle.disk_doors.specs.Disk.{DiskValue}
use Rattle.disk_doors.specs.Note.{Event, moments_of, present, before}

-- what it shows, and its count of faults
pub record MemDiskValue : Type 0 where
  pub shows : DiskValue
  pub faults : ℕ

-- what it shows after these calls
abbrev pub shows_of : List Event → List ℕ → ℕ → ℕ → DiskValue
shows_of events fails room calls = record { now = present (moments_of events); past = before (moments_of events); fails = fails; room = room; calls = calls }

-- a disk with this file, all of it kept, of which no call was made
abbrev pub fresh : List ℕ → ℕ → List ℕ → DiskValue
fresh file room fails = record { now = settled file; past = []; fails = fails; room = room; calls = 0 }

-- its bytes are the file, for which it has room
pub record HoldsFile (events : List Event) (bytes : List ℕ) (room capacity : ℕ) : Type 0 where
  pub some : (e : Event) × (es : List Event) × (events ≡ e ∷ es)
  pub file : bytes ≡ (present (moments_of events)).file
  pub within : length bytes ≤ room
  pub kept : room ≤ capacity
