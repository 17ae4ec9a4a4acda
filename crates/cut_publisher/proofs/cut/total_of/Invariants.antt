use Rattle.std.proofs.Common.{◌≡◌, take}
use Rattle.cut_publisher.specs.Cuts.{total}
use Rattle.cut_publisher.proofs.cut.total_of.Given as goal

abbrev pub invariant-loop-lane : goal.invariant-loop-lane
invariant-loop-lane g l = l.sum ≡ total (take l.lane-index l.lanes)
