-- What it is to create an archive.
use Rattle.std.specs.Prelude.{◌≡◌, ◌≢◌, ℕ, ◌+◌, ◌≤◌, ◌⊎◌, List, [], ◌∷◌, ◌++◌, length, Result, Ok, Err}
use Rattle.wire_io.specs.Faults.{Rose}
use Rattle.wire_io.specs.declared.sink.Failed.{Failed as DiskFailed}
use Rattle.disk_doors.specs.Disk.{DiskValue, moments, Rests, IsSound}
use Rattle.disk_doors.specs.Images.{AfterWrite, Moment, after_sync, settled}
use Rattle.feed_archive.specs.Recovering.{HasOnly}
use Rattle.feed_archive.specs.declared.fault.CreateFault.{CreateFault}
use Rattle.feed_archive.specs.declared.fault.CreateFault.TheVariants.{Failed, NotEmpty}

-- After Ok the file was empty, it is the closing byte alone, 0, all of it kept, and each image has no content. `NotEmpty`
-- comes exactly where it wasn't empty. A disk that wasn't empty is left as it was, also where a call failed.
abbrev pub Creates : DiskValue → DiskValue → Result (Unit {0}) CreateFault → Type 0
Creates old new (Ok u) = (length old.now.file ≡ 0) × HasOnly new.now [] × (new.now ≡ settled (0 ∷ []))
Creates old new (Err Failed) = length old.now.file ≢ 0 → Rests old new
Creates old new (Err NotEmpty) = (length old.now.file ≢ 0) × Rests old new

abbrev pub CreateCause : ℕ → ℕ → Result (Unit {0}) CreateFault → Type 0
CreateCause before now (Ok u) = now ≡ before
CreateCause before now (Err Failed) = (before ≤ now) × Rose before now
CreateCause before now (Err NotEmpty) = now ≡ before

-- `Failed` comes only where the plan fails a call or there is no room for a byte.
abbrev pub CreatePlanned : DiskValue → Result (Unit {0}) CreateFault → Type 0
CreatePlanned d (Ok u) = Unit {0}
CreatePlanned d (Err Failed) = IsSound d 1 → ⊥
CreatePlanned d (Err NotEmpty) = Unit {0}

-- These moments were made since, the last first, and no other. At most three calls were made.
pub record Makes (old new : DiskValue) (made : List Moment) : Type 0 where
  pub since : moments new ≡ made ++ moments old
  pub few : new.calls ≤ old.calls + 3

-- One write was made, of the byte 0 at the place 0, and it failed.
pub record WriteFails (old new : DiskValue) : Type 0 where
  pub why : DiskFailed
  pub torn : Moment
  pub write : AfterWrite old.now 0 (0 ∷ []) (Err why) torn
  pub made : Makes old new (torn ∷ [])

-- That write was done, and then one sync was made, which came to this.
pub record WritesAndSyncs (old new : DiskValue) (result : Result (Unit {0}) DiskFailed) : Type 0 where
  pub written : Moment
  pub write : AfterWrite old.now 0 (0 ∷ []) (Ok tt) written
  pub made : Makes old new (after_sync written result ∷ written ∷ [])

-- Which moments were made: those of the write and of the sync. Where a call failed it was the last one, and on a file that
-- wasn't empty nothing was written.
abbrev pub CreateCalls : DiskValue → DiskValue → Result (Unit {0}) CreateFault → Type 0
CreateCalls old new (Ok u) = WritesAndSyncs old new (Ok u)
CreateCalls old new (Err Failed) = Makes old new [] ⊎ ((length old.now.file ≡ 0) × (WriteFails old new ⊎ ((why : DiskFailed) × WritesAndSyncs old new (Err why))))
CreateCalls old new (Err NotEmpty) = Makes old new []
