use Rattle.std.specs.List.{All}
use Rattle.station_doors.specs.MemYard.{IsUntouched}
use Rattle.station_tests.proofs.yards.ports_of.Given as goal

abbrev pub invariant-loop-number : goal.invariant-loop-number
invariant-loop-number l = All IsUntouched l.ports
