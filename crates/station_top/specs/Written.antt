-- What was written, by the status.
use Rattle.std.specs.Prelude.{◌≡◌, ◌⊎◌, ℕ, List, Option}
use Rattle.std.specs.Io.KnownBytes.{Appends}
use Rattle.wire_io.specs.Writes.{AppendsFront}
use Rattle.station_top.specs.declared.status.Status.{Status}
use Rattle.station_top.specs.declared.status.Status.TheVariants.{WriteFault}

-- The text was written and the status is the one that is meant; or a write failed, and a front of the text was written.
abbrev pub IsWritten : Option (List ℕ) → Option (List ℕ) → List ℕ → Status → Status → Type 0
IsWritten old new text meant status = ((status ≡ meant) × Appends old new text) ⊎ ((status ≡ WriteFault) × AppendsFront old text new)
