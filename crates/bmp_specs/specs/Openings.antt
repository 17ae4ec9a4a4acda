-- The opening and the closing of a connection of which nothing is told: neither from where it came nor when.
use Rattle.std.specs.Prelude.{None}
use Rattle.bmp_specs.specs.declared.causes.Cause.{Cause}
use Rattle.bmp_specs.specs.Values.{ClosingValue, OpeningValue}

abbrev pub nothing_told : OpeningValue
nothing_told = record { from = None; since = None }

-- a closing for this cause
abbrev pub closing_for : Cause → ClosingValue
closing_for cause = record { cause = cause; until = None }
