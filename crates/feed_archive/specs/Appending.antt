-- What an archive that is appended to shows, and what an append leaves.
use Rattle.std.specs.Prelude.{◌≡◌, ℕ, ◌+◌, ◌<◌, ◌≤◌, ◌⊎◌, Bool, true, false, List, ◌++◌, Some, slice_get, Result, Ok, Err}
use Rattle.wire_io.specs.Faults.{Rose}
use Rattle.disk_doors.specs.Images.{Moment, settled}
use Rattle.disk_doors.specs.Disk.{DiskValue, moments, Passes, Lasts, Rests, IsSound}
use Rattle.feed_archive.specs.Archive.{IsArchive, most_archive}
use Rattle.feed_archive.specs.Recovering.{Holds, HasOnly}
use Rattle.feed_archive.specs.declared.fault.AppendFault.{AppendFault}
use Rattle.feed_archive.specs.declared.fault.AppendFault.TheVariants.{Failed, Full, Stopped}
use Rattle.feed_archive.specs.declared.fault.RecoverFault.{RecoverFault}
use Rattle.feed_archive.specs.declared.fault.RecoverFault.TheVariants.{Failed as DiskFailed, Damaged, TooLong, NoMemory}

-- the disk, the place of the byte that closes the archive, and whether an append has failed
pub record ArchiveValue (D : Type 0) : Type 0 where
  pub disk : D
  pub place : ℕ
  pub stopped : Bool

-- all of the file is kept, and it is an archive that is closed at this place
pub record IsClosedAt (m : Moment) (place : ℕ) : Type 0 where
  pub kept : m ≡ settled m.file
  pub pieces : List (List ℕ)
  pub is : IsArchive m.file pieces place

-- The byte at this place is 0. An append closes the archive with this one, though any byte but 1 closes one that is read.
abbrev pub IsZeroAt : Moment → ℕ → Type 0
IsZeroAt m place = slice_get m.file place ≡ Some 0

-- the content with one more piece, or without it
abbrev pub IsBeforeOrAfter : List ℕ → List ℕ → List ℕ → Type 0
IsBeforeOrAfter content piece file = Holds file content ⊎ Holds file (content ++ piece)

-- When which answer comes. The record of a piece of so many bytes takes five more.
abbrev pub AppendAnswers : {D : Type 0} → ArchiveValue D → ArchiveValue D → ℕ → Result (Unit {0}) AppendFault → Type 0
AppendAnswers old new size (Ok u) = (old.stopped ≡ false) × (old.place + 6 + size ≤ most_archive) × (new.stopped ≡ false) × (new.place ≡ old.place + 5 + size)
AppendAnswers old new size (Err Failed) = (old.stopped ≡ false) × (old.place + 6 + size ≤ most_archive) × (new.stopped ≡ true)
AppendAnswers old new size (Err Full) = (old.stopped ≡ false) × (most_archive < old.place + 6 + size) × (new ≡ old)
AppendAnswers old new size (Err Stopped) = (old.stopped ≡ true) × (new ≡ old)

-- `Failed` comes only where the count of faults rose by one; every other answer leaves it as it was.
abbrev pub AppendCause : ℕ → ℕ → Result (Unit {0}) AppendFault → Type 0
AppendCause before now (Ok u) = now ≡ before
AppendCause before now (Err Failed) = (before ≤ now) × Rose before now
AppendCause before now (Err Full) = now ≡ before
AppendCause before now (Err Stopped) = now ≡ before

-- Where each image has a content at the start, each image at each moment has it.
pub record Keeps (old new : DiskValue) : Type 0 where
  pub keeps : (content : List ℕ) → HasOnly old.now content → Passes (λ c. Holds c content) old new

-- What a call that began an archive did to its disk: it synced it, and nothing else. Each image then has the content that
-- the file has, whatever other images there were before.
pub record Began (old new : DiskValue) : Type 0 where
  pub now : new.now ≡ settled old.now.file
  pub past : new.past ≡ moments old
  pub lasts : Lasts old new
  pub content : List ℕ
  pub had : Holds old.now.file content
  pub only : HasOnly new.now content
  pub keeps : Keeps old new

-- a sync failed, and nothing else was done
pub record Repeats (old new : DiskValue) : Type 0 where
  pub now : new.now ≡ old.now
  pub past : new.past ≡ moments old
  pub lasts : Lasts old new

-- What a call did to its disk that began no archive: nothing, or its sync failed.
abbrev pub Refuses : DiskValue → DiskValue → RecoverFault → Type 0
Refuses old new DiskFailed = Rests old new ⊎ Repeats old new
Refuses old new (Damaged offset) = Rests old new
Refuses old new TooLong = Rests old new
Refuses old new NoMemory = Rests old new

-- `Failed` comes only where the plan fails a call or there is no room for a file of so many bytes.
abbrev pub AppendPlanned : DiskValue → ℕ → Result (Unit {0}) AppendFault → Type 0
AppendPlanned d size (Ok u) = Unit {0}
AppendPlanned d size (Err Failed) = IsSound d size → ⊥
AppendPlanned d size (Err Full) = Unit {0}
AppendPlanned d size (Err Stopped) = Unit {0}
