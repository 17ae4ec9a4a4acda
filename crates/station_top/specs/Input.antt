-- What the one input connection comes to.
use Rattle.std.specs.Prelude.{ℕ, Bool, true, false, List, [], ◌∷◌}
use Rattle.bmp_specs.specs.Life.{gave_none, failed, Given}

-- The connection that was given. Where there is none the input is an empty connection that ended, and where the call
-- that opens one failed it is an empty one whose read failed.
abbrev pub input_of : List Given → Bool → Given
input_of [] true = record { bytes = []; last = gave_none }
input_of [] false = record { bytes = []; last = failed }
input_of (given ∷ more) refused = given
