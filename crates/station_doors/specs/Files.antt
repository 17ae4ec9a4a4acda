-- What a yard gives of its files.
use Rattle.std.specs.Prelude.{◌≡◌, ℕ, ◌^◌, ◌<◌, ◌≤◌, ◌⊎◌, if◌then◌else◌, List, [], ◌∷◌, length, Option, Some, None, IfSome, Result, Ok, Err, Contains}
use Rattle.wire_io.specs.Faults.{Rose}
use Rattle.station_doors.specs.Doors.{FileValue, YardValue}
use Rattle.station_doors.specs.Paths.{same_path}
use Rattle.station_doors.specs.declared.files.FileFault.{FileFault}
use Rattle.station_doors.specs.declared.files.FileFault.TheVariants as fault

-- the most bytes of a file that is given
abbrev pub most_file : ℕ
most_file = 2 ^ 26

-- the bytes of the first file of a path
abbrev pub file_at : List ℕ → List FileValue → Option (List ℕ)
file_at path [] = None
file_at path (f ∷ fs) = if same_path f.path path then Some f.bytes else file_at path fs

-- A call of this number gives the whole file. It fails exactly where the plan says so, or there is no file of the path;
-- the file is too long exactly where it has more bytes than are given. Out of memory, nothing is said of the file.
abbrev pub GivesFile : List ℕ → ℕ → Option YardValue → Option YardValue → Result (List ℕ) FileFault → Type 0
GivesFile path number None new result = new ≡ None
GivesFile path number (Some old) new (Ok bytes) = (Contains old.fails number → ⊥) × (file_at path old.files ≡ Some bytes) × (length bytes ≤ most_file) × (new ≡ Some old)
GivesFile path number (Some old) new (Err fault.Failed) = (Contains old.fails number ⊎ (file_at path old.files ≡ None)) × (new ≡ Some old)
GivesFile path number (Some old) new (Err fault.TooLong) = (Contains old.fails number → ⊥) × (bytes : List ℕ) × (file_at path old.files ≡ Some bytes) × (most_file < length bytes) × (new ≡ Some old)
GivesFile path number (Some old) new (Err fault.NoMemory) = new ≡ Some old

-- the count rose exactly where the call failed
abbrev pub HasFileCause : {A : Type 0} → ℕ → ℕ → Result A FileFault → Type 0
HasFileCause before now (Ok bytes) = now ≡ before
HasFileCause before now (Err fault.Failed) = Rose before now
HasFileCause before now (Err fault.TooLong) = now ≡ before
HasFileCause before now (Err fault.NoMemory) = now ≡ before

-- What comes of reading an input to its end, as far as it tells what it has left: all of that, or that it is more than
-- is given. Where a read failed, or out of memory, nothing is said of it.
abbrev pub ReadsWhole : Option (List ℕ) → Result (List ℕ) FileFault → Type 0
ReadsWhole left (Ok bytes) = (length bytes ≤ most_file) × IfSome left (λ all. bytes ≡ all)
ReadsWhole left (Err fault.Failed) = Unit {0}
ReadsWhole left (Err fault.TooLong) = IfSome left (λ all. most_file < length all)
ReadsWhole left (Err fault.NoMemory) = Unit {0}
