use Rattle.std.proofs.Common.{◌≡◌, take}
use Rattle.cut_publisher.specs.Cuts.{total}
use Rattle.station_core.proofs.machine.revision_of.Given as goal

abbrev pub invariant-loop-lane : goal.invariant-loop-lane
invariant-loop-lane l = l.sum ≡ total (take l.lane-index l.shown)
