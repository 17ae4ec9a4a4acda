-- What the calls do of a file that tells.
use Rattle.std.specs.Prelude.{◌≡◌, ℕ, ◌-◌, ◌^◌, ◌<◌, ◌≤◌, ◌⊎◌, List, length, take, drop, Contains, Result, Ok, Err}
use Rattle.wire_io.specs.declared.sink.Failed.{Failed}
use Rattle.disk_doors.specs.Disk.{DiskValue, asked, IsPlanned}

-- the answer, without why it failed
abbrev pub answer_of : {T E : Type 0} → Result T E → Result T Failed
answer_of (Ok x) = Ok x
answer_of (Err e) = Err (record {})

-- a read that gave so many bytes filled the buffer, or gave none
abbrev pub IsLast : ℕ → List ℕ → Type 0
IsLast n buf = (n ≡ 0) ⊎ (n ≡ length buf)

-- What a read does that gives so many bytes. It may give fewer than the file has there, but none only where the file ends
-- there or the buffer has no room. A disk goes on where such a read ended, until one fills the buffer, gives none or fails:
-- this row is one of its calls, and the last read of it is counted.
pub record GivesPart (old new : DiskValue) (place n : ℕ) (buf : List ℕ) : Type 0 where
  pub within : n ≤ length old.now.file - place
  pub bytes : take n buf ≡ take n (drop place old.now.file)
  pub none : n ≡ 0 → (length old.now.file ≤ place) ⊎ (length buf ≡ 0)
  pub last : IsLast n buf → (new ≡ asked old) × (IsPlanned old → ⊥)
  pub more : (IsLast n buf → ⊥) → new ≡ old
  -- places have 64 bits
  pub fits : length old.now.file < 2 ^ 64

-- what one read does
abbrev pub ReadsPart : DiskValue → DiskValue → ℕ → Result ℕ Failed → List ℕ → Type 0
ReadsPart old new place (Ok n) buf = GivesPart old new place n buf
ReadsPart old new place (Err e) buf = (new ≡ asked old) × IsPlanned old

-- each call to come is among those that fail
pub record FailsOn (d : DiskValue) : Type 0 where
  pub within : d.calls < 2 ^ 64
  pub each : (n : ℕ) → d.calls ≤ n → n < 2 ^ 64 → Contains d.fails n
