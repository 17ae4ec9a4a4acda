-- What a yard does with its disks.
use Rattle.std.specs.Prelude.{◌≡◌, ℕ, ◌⊎◌, if◌then◌else◌, List, [], ◌∷◌, Option, Some, None, Result, Ok, Err, Contains}
use Rattle.wire_io.specs.declared.sink.Failed.{Failed}
use Rattle.disk_doors.specs.Disk.{DiskValue}
use Rattle.station_doors.specs.Doors.{DiskAt, DiskShown, YardValue}
use Rattle.station_doors.specs.Paths.{same_path}

-- what stands under a path: nothing, or what the disk there shows; none where it was handed out and not given back since
abbrev pub disk_at : List ℕ → List DiskAt → Option (Option DiskShown)
disk_at path [] = None
disk_at path (d ∷ ds) = if same_path d.path path then Some d.shows else disk_at path ds

-- the same disks, of which the one under this path shows this
abbrev pub with_disk : List ℕ → Option DiskShown → List DiskAt → List DiskAt
with_disk path shows [] = []
with_disk path shows (d ∷ ds) = if same_path d.path path then record { path = d.path; shows = shows } ∷ ds else d ∷ with_disk path shows ds

-- the disks with this one under the path, in the place of what stood there
abbrev pub put_at : List ℕ → DiskShown → List DiskAt → List DiskAt
put_at path shown [] = record { path = path; shows = Some shown } ∷ []
put_at path shown (d ∷ ds) = if same_path d.path path then record { path = d.path; shows = Some shown } ∷ ds else d ∷ put_at path shown ds

-- the file as the disk reads it that stands under a path, empty where none stands there
abbrev pub file_of : Option (Option DiskShown) → List ℕ
file_of None = []
file_of (Some None) = []
file_of (Some (Some shown)) = shown.value.now.file

-- A call of this number hands out the disk of this path, which tells what it does and is as it is shown, or fails:
-- exactly where the plan says so, or no disk stands under the path.
abbrev pub HandsOutDisk : {D : Type 0} → Type 0 → (D → DiskValue) → (D → ℕ) → List ℕ → ℕ → Option YardValue → Option YardValue → Result D Failed → Type 0
HandsOutDisk tells shows faults path number None new result = new ≡ None
HandsOutDisk tells shows faults path number (Some old) new (Ok disk) = (Contains old.fails number → ⊥) × tells × (disk_at path old.disks ≡ Some (Some (record { value = shows disk; faults = faults disk })))
    × (new ≡ Some (record old { disks = with_disk path None old.disks }))
HandsOutDisk tells shows faults path number (Some old) new (Err e) = (Contains old.fails number ⊎ ((shown : DiskShown) → disk_at path old.disks ≡ Some (Some shown) → ⊥)) × (new ≡ Some old)

-- A disk is given back under this path: it is shown as it is where one was handed out under it and not given back
-- since, else it is dropped.
pub record TakesDiskBackTold (path : List ℕ) (shown : DiskShown) (old : YardValue) (new : Option YardValue) : Type 0 where
  pub lent : disk_at path old.disks ≡ Some None → new ≡ Some (record old { disks = with_disk path (Some shown) old.disks })
  pub dropped : (disk_at path old.disks ≡ Some None → ⊥) → new ≡ Some old

abbrev pub TakesDiskBack : List ℕ → DiskShown → Option YardValue → Option YardValue → Type 0
TakesDiskBack path shown None new = new ≡ None
TakesDiskBack path shown (Some old) new = TakesDiskBackTold path shown old new
