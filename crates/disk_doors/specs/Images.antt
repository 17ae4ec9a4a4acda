-- What a crash may leave of a file.
use Rattle.std.specs.Prelude.{◌≡◌, ℕ, ◌+◌, ◌-◌, ◌<◌, ◌≤◌, ◌⊎◌, List, [], ◌∷◌, ◌++◌, length, take, drop, replicate, slice_index, Result, Ok, Err}
use Rattle.wire_io.specs.declared.sink.Failed.{Failed}

-- places in a file
pub record Range : Type 0 where
  pub place : ℕ
  pub size : ℕ

-- a disk at one moment
pub record Moment : Type 0 where
  -- the file as it reads
  pub file : List ℕ
  -- the file as it read at the last sync that succeeded
  pub kept : List ℕ
  -- the ranges that were written since, those of writes that failed too
  pub ranges : List Range

-- the place is in one of the ranges
abbrev pub IsIn : List Range → ℕ → Type 0
IsIn [] i = ⊥
IsIn (r ∷ rs) i = ((r.place ≤ i) × (i < r.place + r.size)) ⊎ IsIn rs i

-- What a crash of the whole machine may leave of a file that was kept like this, with these ranges written since: any
-- bytes in the ranges, any bytes and any length past its end, and all other bytes as they were. Where nothing was
-- written since, the file is as it was.
pub record MayLeave (kept : List ℕ) (ranges : List Range) (c : List ℕ) : Type 0 where
  pub same : (i : ℕ) → i < length kept → (IsIn ranges i → ⊥) → slice_index c i ≡ slice_index kept i
  pub no_shorter : length kept ≤ length c
  pub synced : ranges ≡ [] → c ≡ kept

-- A crash at this moment may leave this file. It is the file as it reads, which is left where the program alone ends, or
-- one that a crash of the whole machine may leave.
abbrev pub IsImage : Moment → List ℕ → Type 0
IsImage m c = (c ≡ m.file) ⊎ MayLeave m.kept m.ranges c

-- all of the file is kept
abbrev pub settled : List ℕ → Moment
settled file = record { file = file; kept = file; ranges = [] }

-- the file, and zeros where it is shorter than this
abbrev pub padded : List ℕ → ℕ → List ℕ
padded file size = file ++ replicate (size - length file) 0

-- the file with these bytes at this place, after zeros where it ended before
abbrev pub overwritten : List ℕ → ℕ → List ℕ → List ℕ
overwritten file place piece = take place (padded file (place + length piece)) ++ piece ++ drop (place + length piece) (padded file (place + length piece))

-- What a write of so many bytes at this place, broken off anywhere, may make of a file: any bytes in the range, and any
-- bytes and any length past the end.
pub record IsTorn (file : List ℕ) (place size : ℕ) (c : List ℕ) : Type 0 where
  pub same : (i : ℕ) → i < length file → ((place ≤ i) × (i < place + size) → ⊥) → slice_index c i ≡ slice_index file i
  pub no_shorter : length file ≤ length c

-- the ranges written, after this piece was written too or its write failed
abbrev pub with_range : ℕ → List ℕ → List Range → List Range
with_range place piece ranges = record { place = place; size = length piece } ∷ ranges

-- a write was done
abbrev pub wrote : Moment → ℕ → List ℕ → Moment
wrote m place piece = record { file = overwritten m.file place piece; kept = m.kept; ranges = with_range place piece m.ranges }

-- A write failed. It may have changed what is read, as far as a write that is broken off does, and it may have reached the
-- disk.
pub record Tore (old : Moment) (place : ℕ) (piece : List ℕ) (new : Moment) : Type 0 where
  pub file : IsTorn old.file place (length piece) new.file
  pub kept : new.kept ≡ old.kept
  pub ranges : new.ranges ≡ with_range place piece old.ranges

-- the moment after a write
abbrev pub AfterWrite : Moment → ℕ → List ℕ → Result (Unit {0}) Failed → Moment → Type 0
AfterWrite old place piece (Ok u) new = new ≡ wrote old place piece
AfterWrite old place piece (Err e) new = Tore old place piece new

-- The moment after a sync. One that failed changes nothing.
abbrev pub after_sync : Moment → Result (Unit {0}) Failed → Moment
after_sync m (Ok u) = settled m.file
after_sync m (Err e) = m

-- a write that failed, of a disk in memory: what is read stays
abbrev pub unread : Moment → ℕ → List ℕ → Moment
unread m place piece = record { file = m.file; kept = m.kept; ranges = with_range place piece m.ranges }
