-- Reading an archive, record by record.
use Rattle.std.specs.Prelude.{◌≡◌, ◌≢◌, ℕ, ◌+◌, ◌<◌, ◌≤◌, List, ◌++◌, length, take, drop, slice_index, Result, Ok, Err}
use Rattle.bmp_specs.specs.Frame.{stated}
use Rattle.bmp_specs.specs.Parts.{AreParts}
use Rattle.bmp_specs.specs.Sequence.{HasFront}
use Rattle.feed_archive.specs.Archive.{IsRecord, IsArchive, BreaksRecord, joined, most_record, most_archive}
use Rattle.feed_archive.specs.Recovering.{FaultFits, seen}
use Rattle.feed_archive.specs.declared.fault.RecoverFault.{RecoverFault}
use Rattle.feed_archive.specs.declared.fault.RecoverFault.TheVariants.{Failed as DiskFailed, Damaged, TooLong, NoMemory}
use Rattle.feed_archive.specs.declared.scanning.Found.{Found}
use Rattle.feed_archive.specs.declared.scanning.Found.TheVariants.{Record, Closed, Broken}
use Rattle.feed_archive.specs.declared.scanning.Scanned.{Scanned}

-- bytes that stand at a place
pub record WindowValue : Type 0 where
  pub place : ℕ
  pub bytes : List ℕ

-- they are the file's
abbrev pub IsPart : List ℕ → WindowValue → Type 0
IsPart file w = w.bytes ≡ take (length w.bytes) (drop w.place file)

-- so many bytes from this place on are among them
abbrev pub Covers : WindowValue → ℕ → ℕ → Type 0
Covers w place count = (w.place ≤ place) × (place + count ≤ w.place + length w.bytes)

-- what stands from a place on, before the end
abbrev pub rest_of : List ℕ → ℕ → ℕ → List ℕ
rest_of file end place = drop place (take end file)

-- what stands at the front of these bytes
abbrev pub Finds : List ℕ → Found → Type 0
Finds bytes (Record n) = (slice_index bytes 0 ≡ 1) × (stated bytes ≡ n) × (n ≤ most_record) × (5 + n ≤ length bytes)
Finds bytes Closed = (0 < length bytes) × (slice_index bytes 0 ≢ 1)
Finds bytes Broken = BreaksRecord bytes

-- a record that was found ends before the end
abbrev pub FitsEnd : ℕ → ℕ → Found → Type 0
FitsEnd end place (Record n) = (place + 5 + n ≤ end) × (n ≤ most_record)
FitsEnd end place Closed = Unit {0}
FitsEnd end place Broken = Unit {0}

-- what was found at the front, and how the content grew
abbrev pub Takes : List ℕ → List ℕ → List ℕ → Found → Type 0
Takes bytes old new (Record n) = (piece : List ℕ) × HasFront IsRecord bytes piece (drop (5 + n) bytes) × (new ≡ old ++ piece)
Takes bytes old new Closed = (0 < length bytes) × (slice_index bytes 0 ≢ 1) × (new ≡ old)
Takes bytes old new Broken = BreaksRecord bytes

-- the disk failed, or memory ran out
abbrev pub IsPlain : RecoverFault → Type 0
IsPlain DiskFailed = Unit {0}
IsPlain (Damaged offset) = ⊥
IsPlain TooLong = ⊥
IsPlain NoMemory = Unit {0}

-- the content of the part that is looked at, and where it is closed, or why it has none
abbrev pub Scans : List ℕ → Result Scanned RecoverFault → Type 0
Scans file (Ok s) = (pieces : List (List ℕ)) × IsArchive (seen file) pieces s.place × (s.content ≡ joined pieces)
Scans file (Err fault) = FaultFits file fault

-- the fault of a file of so many bytes that is no archive, whose records end here
abbrev pub IsDamage : ℕ → ℕ → RecoverFault → Type 0
IsDamage size place DiskFailed = ⊥
IsDamage size place (Damaged offset) = (size ≤ most_archive) × (offset ≡ place)
IsDamage size place TooLong = most_archive < size
IsDamage size place NoMemory = ⊥

-- the records before this place were read, and they have this content
pub record HasScanned (file : List ℕ) (place : ℕ) (content : List ℕ) : Type 0 where
  pub pieces : List (List ℕ)
  pub records : AreParts IsRecord (take place (seen file)) pieces
  pub content_is : content ≡ joined pieces
  pub within : place ≤ length (seen file)
