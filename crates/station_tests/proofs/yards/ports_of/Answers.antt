use Rattle.std.proofs.lemmas.List.Elements.{All-push}
use Rattle.station_doors.specs.MemYard.{IsUntouched}
use Rattle.station_tests.proofs.yards.ports_of.Goals as goal

pub loop-number-preserved : goal.loop-number-preserved
loop-number-preserved c = rw c.in-Ok.ensures.ok (All-push IsUntouched c.loop-number.ports c.in_ok-port.port c.loop-number.invariant c.in_ok-port.ensures)
