-- What a disk tells, and what its calls do to it.
use Rattle.std.specs.Prelude.{◌≡◌, ℕ, ◌+◌, ◌-◌, ◌^◌, ◌<◌, ◌≤◌, ◌⊎◌, min, List, [], ◌∷◌, ◌++◌, length, take, drop, Contains, Result, Ok, Err, IfOk}
use Rattle.wire_io.specs.declared.sink.Failed.{Failed}
use Rattle.disk_doors.specs.Images.{Moment, IsImage, AfterWrite, after_sync}

-- what a disk tells
pub record DiskValue : Type 0 where
  -- the present moment
  pub now : Moment
  -- the moments before it, the last first
  pub past : List Moment
  -- the numbers of its calls that fail
  pub fails : List ℕ
  -- how many bytes the file may have
  pub room : ℕ
  -- how many calls were made
  pub calls : ℕ

-- all its moments, the present one first
abbrev pub moments : DiskValue → List Moment
moments d = d.now ∷ d.past

-- one more, at most what 64 bits hold
abbrev pub one_more : ℕ → ℕ
one_more n = min (n + 1) (2 ^ 64 - 1)

-- after one more call that changes nothing
abbrev pub asked : DiskValue → DiskValue
asked d = record { now = d.now; past = d.past; fails = d.fails; room = d.room; calls = one_more d.calls }

-- after one more call, which made this the present moment
abbrev pub goes_to : Moment → DiskValue → DiskValue
goes_to m d = record { now = m; past = d.now ∷ d.past; fails = d.fails; room = d.room; calls = one_more d.calls }

-- a call fails exactly where this holds
abbrev pub FailsWhere : {T : Type 0} → Type 0 → Result T Failed → Type 0
FailsWhere P (Ok x) = P → ⊥
FailsWhere P (Err e) = P

-- the next call is among those that fail
abbrev pub IsPlanned : DiskValue → Type 0
IsPlanned d = Contains d.fails d.calls

-- what a call does that asks for the size
pub record Sizes (old new : DiskValue) (result : Result ℕ Failed) : Type 0 where
  pub next : new ≡ asked old
  pub size : IfOk result (λ n. n ≡ length old.now.file)
  pub planned : FailsWhere (IsPlanned old) result

-- what a read does: it gives as many bytes as the file has there and the buffer holds
pub record ReadsAt (old new : DiskValue) (place : ℕ) (result : Result ℕ Failed) (buf : List ℕ) : Type 0 where
  pub next : new ≡ asked old
  pub count : IfOk result (λ n. n ≡ min (length buf) (length old.now.file - place))
  pub bytes : IfOk result (λ n. take n buf ≡ take n (drop place old.now.file))
  pub planned : FailsWhere (IsPlanned old) result

-- what a write does, which made a moment
pub record WritesAt (old new : DiskValue) (place : ℕ) (piece : List ℕ) (result : Result (Unit {0}) Failed) : Type 0 where
  pub made : Moment
  pub next : new ≡ goes_to made old
  pub moment : AfterWrite old.now place piece result made
  pub planned : FailsWhere (IsPlanned old ⊎ (old.room < place + length piece)) result

-- what a sync does
pub record Syncs (old new : DiskValue) (result : Result (Unit {0}) Failed) : Type 0 where
  pub next : new ≡ goes_to (after_sync old.now result) old
  pub planned : FailsWhere (IsPlanned old) result

-- each image at each of these moments has P
abbrev pub AllImages : (List ℕ → Type 0) → List Moment → Type 0
AllImages P [] = Unit {0}
AllImages P (m ∷ ms) = ((c : List ℕ) → IsImage m c → P c) × AllImages P ms

-- its plan and its room stay
pub record Lasts (old new : DiskValue) : Type 0 where
  pub fails : new.fails ≡ old.fails
  pub room : new.room ≡ old.room

-- the plan fails no call, and there is room for a file of so many bytes
pub record IsSound (d : DiskValue) (size : ℕ) : Type 0 where
  pub none : d.fails ≡ []
  pub fits : size ≤ d.room

-- From one value of a disk on to a later one, each image at each moment has P, the first moment and the last included.
-- What a crash inside a call leaves is among these: inside a sync it is an image of the moment before it, and inside a
-- write one of the moment after it (`a_cut_write_leaves_an_image`).
pub record Passes (P : List ℕ → Type 0) (old new : DiskValue) : Type 0 where
  -- the moments since
  pub made : List Moment
  pub since : moments new ≡ made ++ moments old
  pub start : (c : List ℕ) → IsImage old.now c → P c
  pub each : AllImages P made
  pub lasts : Lasts old new

-- nothing was written or synced
pub record Rests (old new : DiskValue) : Type 0 where
  pub now : new.now ≡ old.now
  pub past : new.past ≡ old.past
  pub lasts : Lasts old new

-- what is taken to be shown by a disk that tells nothing
abbrev pub nothing : DiskValue
nothing = record { now = record { file = []; kept = []; ranges = [] }; past = []; fails = []; room = 0; calls = 0 }
