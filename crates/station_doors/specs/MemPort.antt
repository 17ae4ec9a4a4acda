-- A port in memory.
use Rattle.std.specs.Prelude.{◌≡◌, ℕ, zero, suc, List, [], ◌∷◌, ◌++◌, slice_get, unwrap_or, min, length, Result, IfOk}
use Rattle.bmp_specs.specs.declared.causes.Cause.{Cause}
use Rattle.bmp_specs.specs.declared.causes.Cause.TheVariants.{Ended, Terminated, CutShort, Broken, ReadFault, Full}
use Rattle.bmp_specs.specs.declared.causes.Why.TheVariants.{Version, Length, Body}
use Rattle.disk_doors.specs.Note.{Event}
use Rattle.wire_io.specs.declared.sink.Failed.{Failed}
use Rattle.wire_io.specs.Aside.{Aside}
use Rattle.station_doors.specs.Told.{ToldValue, told_at}

-- what it shows, how many bytes its reads give at most, how many reads were made, why its connections ended, as it was
-- told, and what it tells of each connection, in order
pub record MemPortValue : Type 0 where
  pub shows : Aside
  pub pieces : List ℕ
  pub reads : ℕ
  pub causes : List Cause
  pub tellings : List ToldValue

-- what it tells of its present connection, or of its last one
abbrev pub tells_now : MemPortValue → ToldValue
tells_now port = told_at port.tellings port.shows.opened

-- the cause that is noted by this number and this offset
abbrev pub cause_of : ℕ → ℕ → Cause
cause_of zero offset = Ended
cause_of (suc zero) offset = Terminated
cause_of (suc (suc zero)) offset = CutShort offset
cause_of (suc (suc (suc zero))) offset = ReadFault offset
cause_of (suc (suc (suc (suc zero)))) offset = Full
cause_of (suc (suc (suc (suc (suc zero))))) offset = Broken offset Version
cause_of (suc (suc (suc (suc (suc (suc zero)))))) offset = Broken offset Length
cause_of (suc (suc (suc (suc (suc (suc (suc n))))))) offset = Broken offset Body

-- the causes that were noted, the first one first; a note has the last one first
abbrev pub causes_in : List Event → List Cause
causes_in [] = []
causes_in (e ∷ es) = causes_in es ++ cause_of e.0 e.1 ∷ []

-- how many bytes the read of this number gives at most, where the buffer has so many
abbrev pub most_of : List ℕ → ℕ → ℕ → ℕ
most_of pieces call size = min (unwrap_or (slice_get pieces call) size) size

-- a read that doesn't fail gives as many bytes as its piece, the buffer and the rest of the connection allow
abbrev pub GivesPiece : MemPortValue → Result ℕ Failed → ℕ → Type 0
GivesPiece port result size = IfOk result (λ n. n ≡ min (most_of port.pieces port.reads size) (length (unwrap_or port.shows.rest [])))
