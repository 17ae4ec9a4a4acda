use Rattle.std.specs.List.{All}
use Rattle.station_doors.specs.MemYard.{IsIdle}
use Rattle.station_tests.proofs.yards.links_of.Given as goal

abbrev pub invariant-loop : goal.invariant-loop
invariant-loop l = All IsIdle l.links
