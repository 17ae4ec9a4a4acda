-- A link in memory.
use Rattle.std.specs.Prelude.{◌≡◌, ℕ, ◌-◌, ◌≤◌, ◌⊎◌, ◌++◌, List, [], min, length, take, unwrap_or, Contains, Result, Ok, Err, IfOk}
use Rattle.wire_io.specs.declared.sink.Failed.{Failed}
use Rattle.wire_io.specs.Aside.{Aside}
use Rattle.station_doors.specs.Doors.{one_more}
use Rattle.station_doors.specs.MemPort.{most_of}

-- what it shows, how many bytes its reads give at most, which of its reads and writes fail, what was written, for how
-- many bytes it has room, how many reads were made, how many reads and writes, and the count of faults in writes
pub record MemLinkValue : Type 0 where
  pub shows : Aside
  pub pieces : List ℕ
  pub fails : List ℕ
  pub written : List ℕ
  pub room : ℕ
  pub reads : ℕ
  pub calls : ℕ
  pub faults : ℕ

-- the next write fails: its number is among those that do, or no room is left
abbrev pub FailsNext : MemLinkValue → Type 0
FailsNext k = (k.room ≤ length k.written) ⊎ Contains k.fails k.calls

-- what one write does
abbrev pub TakesPiece : MemLinkValue → MemLinkValue → Result ℕ Failed → List ℕ → Type 0
TakesPiece old new (Ok n) piece = (FailsNext old → ⊥) × (n ≡ min (old.room - length old.written) (length piece)) × (new ≡ record old { written = old.written ++ take n piece; calls = one_more old.calls })
TakesPiece old new (Err e) piece = FailsNext old × (new ≡ record old { calls = one_more old.calls; faults = one_more old.faults })

-- a read is numbered, and leaves what was written; where it doesn't fail it gives as many bytes as its piece, the
-- buffer and the rest of the connection allow
pub record ReadsPiece (old new : MemLinkValue) (result : Result ℕ Failed) (size : ℕ) : Type 0 where
  pub same : new ≡ record old { shows = new.shows; reads = one_more old.reads; calls = one_more old.calls }
  pub count : IfOk result (λ n. n ≡ min (most_of old.pieces old.reads size) (length (unwrap_or old.shows.rest [])))
