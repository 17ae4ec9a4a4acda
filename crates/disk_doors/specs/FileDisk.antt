-- A disk over a file.
use Rattle.std.specs.Prelude.{◌≡◌, ℕ, zero, suc, Bool, true, false, List, [], ◌∷◌}
use Rattle.std.specs.declared.fs.options.OpenOptions.{OpenOptions}
use Rattle.disk_doors.specs.Images.{unread}
use Rattle.disk_doors.specs.Disk.{DiskValue, asked, goes_to}
use Rattle.disk_doors.specs.Note.{Event}
use Rattle.disk_doors.specs.RawFile.{FailsOn}

-- its file, how that was opened, its count of faults, whether a sync failed, and the calls that were refused since
pub record FileDiskValue (F : Type 0) : Type 0 where
  pub file : F
  pub opened : OpenOptions
  pub faults : ℕ
  pub broken : Bool
  pub refused : List Event

-- What a call leaves that was refused. The first number says which it was: for the size or bytes (0), a write (1), a sync
-- (any other). The file wasn't asked, so it reads as before, and each counts as a call that failed.
abbrev pub after_refusal : ℕ → ℕ → List ℕ → DiskValue → DiskValue
after_refusal zero place bytes d = asked d
after_refusal (suc zero) place bytes d = goes_to (unread d.now place bytes) d
after_refusal (suc (suc other)) place bytes d = goes_to d.now d

-- what these leave, the last first
abbrev pub after_refusals : List Event → DiskValue → DiskValue
after_refusals [] d = d
after_refusals (e ∷ es) d = after_refusal e.0 e.1 e.2 (after_refusals es d)

-- What it shows: what its file shows, and then the calls that were refused.
abbrev pub shown : {F : Type 0} → (F → DiskValue) → FileDiskValue F → DiskValue
shown shows d = after_refusals d.refused (shows d.file)

-- No call is refused before a sync failed. A file that tells is planned, since then, to fail each call to come.
pub record RefusesAfterSync (tells : Type 0) (shows : DiskValue) (broken : Bool) (refused : List Event) : Type 0 where
  pub none : broken ≡ false → refused ≡ []
  pub all : broken ≡ true → tells → FailsOn shows
