use Rattle.std.proofs.lemmas.List.Elements.{All-push}
use Rattle.station_doors.specs.MemYard.{IsIdle}
use Rattle.station_tests.proofs.yards.links_of.Goals as goal

pub loop-preserved : goal.loop-preserved
loop-preserved c = rw c.in-Ok.ensures.ok (All-push IsIdle c.loop.links c.in_ok-link.link c.loop.invariant c.in_ok-link.ensures)
