use Rattle.std.proofs.Common.{arith}
use Rattle.station_core.proofs.Moving.{same_all, same_more}
use Rattle.station_core.proofs.machine.new_lanes.Goals as goal

pub loop-lane-init : goal.loop-lane-init
loop-lane-init g c = c.new-lanes.ensures.items

pub loop-lane-preserved : goal.loop-lane-preserved
loop-lane-preserved g c = same_more _ _ _ _ _ c.loop-lane.invariant c.new.ensures c.in_ok-push.ensures.items

pub returns : goal.returns
returns g c = same_all _ _ _ _ c.loop-lane.invariant (omega (arith, c.loop-lane.auto._lane-end, c.loop-lane-test.false))
