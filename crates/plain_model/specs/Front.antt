-- What stands at the front of a stream, as far as a common header tells (RFC 7854, section 4.1).
use Rattle.std.specs.Prelude.{◌≡◌, ℕ, ◌<◌, ◌≤◌, List, [], length, slice_index, take, drop}
use Rattle.bmp_specs.specs.declared.causes.Why.TheVariants.{Version, Length, Body}
use Rattle.bmp_specs.specs.Frame.{IsFrame, NeedsMore, BreaksVersion, BreaksLength}
use Rattle.plain_model.specs.declared.stream.AtFront.{AtFront}
use Rattle.plain_model.specs.declared.stream.AtFront.TheVariants.{Nothing, Part, Message, Bad}

abbrev pub IsAtFront : List ℕ → AtFront → Type 0
IsAtFront bytes Nothing = bytes ≡ []
IsAtFront bytes Part = (0 < length bytes) × NeedsMore bytes
IsAtFront bytes (Message size) = (size ≤ length bytes) × IsFrame (take size bytes) (slice_index bytes 5) (drop 6 (take size bytes))
IsAtFront bytes (Bad Version) = BreaksVersion bytes
IsAtFront bytes (Bad Length) = BreaksLength bytes
IsAtFront bytes (Bad Body) = ⊥
