-- What is read of an archive: the content of the first 2^31 bytes of a file.
use Rattle.std.specs.Prelude.{◌≡◌, ℕ, ◌<◌, ◌≤◌, List, length, take, Result, Ok, Err}
use Rattle.wire_io.specs.Faults.{Rose}
use Rattle.disk_doors.specs.Images.{IsImage, Moment}
use Rattle.disk_doors.specs.Disk.{DiskValue, IsSound}
use Rattle.feed_archive.specs.Archive.{HasContent, IsDamagedAt, most_archive}
use Rattle.feed_archive.specs.declared.fault.RecoverFault.{RecoverFault}
use Rattle.feed_archive.specs.declared.fault.RecoverFault.TheVariants.{Failed, Damaged, TooLong, NoMemory}

-- the part of a file that is looked at
unfoldable pub seen : List ℕ → List ℕ
seen file = take most_archive file

-- the file, as far as it is looked at, is an archive with this content
abbrev pub Holds : List ℕ → List ℕ → Type 0
Holds file content = HasContent (seen file) content

-- the file is no archive
abbrev pub IsNone : List ℕ → Type 0
IsNone file = (content : List ℕ) → HasContent file content → ⊥

-- Why a file has no content. Out of memory, or where the disk failed, nothing is said of the file.
abbrev pub FaultFits : List ℕ → RecoverFault → Type 0
FaultFits file Failed = Unit {0}
FaultFits file (Damaged offset) = (length file ≤ most_archive) × IsDamagedAt (seen file) offset × IsNone (seen file)
FaultFits file TooLong = (most_archive < length file) × IsNone (seen file)
FaultFits file NoMemory = Unit {0}

-- Recovering answers the content of the part that is looked at, or why it has none.
abbrev pub Recovers : List ℕ → Result (List ℕ) RecoverFault → Type 0
Recovers file (Ok content) = Holds file content
Recovers file (Err fault) = FaultFits file fault

-- `Failed` comes only where the count of faults rose by one; every other answer leaves it as it was.
abbrev pub FaultCause : ℕ → ℕ → RecoverFault → Type 0
FaultCause before now Failed = (before ≤ now) × Rose before now
FaultCause before now (Damaged offset) = now ≡ before
FaultCause before now TooLong = now ≡ before
FaultCause before now NoMemory = now ≡ before

abbrev pub RecoverCause : {T : Type 0} → ℕ → ℕ → Result T RecoverFault → Type 0
RecoverCause before now (Ok x) = now ≡ before
RecoverCause before now (Err fault) = FaultCause before now fault

-- each file that a crash may leave at this moment has this content
abbrev pub HasOnly : Moment → List ℕ → Type 0
HasOnly m content = (c : List ℕ) → IsImage m c → Holds c content

-- `Failed` comes only where the plan fails a call.
abbrev pub FaultPlanned : DiskValue → RecoverFault → Type 0
FaultPlanned d Failed = IsSound d 0 → ⊥
FaultPlanned d (Damaged offset) = Unit {0}
FaultPlanned d TooLong = Unit {0}
FaultPlanned d NoMemory = Unit {0}

-- Recovering answers this content, or that the disk failed or memory ran out: never that the file is no archive.
abbrev pub RecoversOnly : List ℕ → Result (List ℕ) RecoverFault → Type 0
RecoversOnly content (Ok found) = found ≡ content
RecoversOnly content (Err Failed) = Unit {0}
RecoversOnly content (Err (Damaged offset)) = ⊥
RecoversOnly content (Err TooLong) = ⊥
RecoversOnly content (Err NoMemory) = Unit {0}
