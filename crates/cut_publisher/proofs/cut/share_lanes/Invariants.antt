use Rattle.std.proofs.Common.{◌≡◌, take}
use Rattle.cut_publisher.proofs.cut.share_lanes.Given as goal

abbrev pub invariant-loop-lane : goal.invariant-loop-lane
invariant-loop-lane g l = l.copies.items ≡ take l.lane-index l.lanes
