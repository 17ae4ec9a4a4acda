use Rattle.std.proofs.Common.{arith}
use Rattle.query_eval.proofs.LaneSteps.{lanes_begin, lanes_on, lanes_failed, lanes_end}
use Rattle.query_eval.proofs.lanes.put_lanes.Goals as goal

pub loop-lane-init : goal.loop-lane-init
loop-lane-init g c = lanes_begin _ _ _

pub returns-in_err-lines : goal.returns-in_err-lines
returns-in_err-lines g c =
    lanes_failed _ _ _ _ _ c.loop-lane.lane _ _ _ _ _ (omega (arith, c.loop-lane-test.true, c.lanes-lane-end.ensures)) c.value.ensures c.count.ensures c.loop-lane.invariant c.in_err-lines.ensures c.from_residual.ensures.0

pub loop-lane-preserved : goal.loop-lane-preserved
loop-lane-preserved g c =
    lanes_on _ _ _ _ _ c.loop-lane.lane _ _ _ _ _ (omega (arith, c.loop-lane-test.true, c.lanes-lane-end.ensures)) c.value.ensures c.count.ensures c.loop-lane.invariant c.in_ok-lines.ensures c.saturating_add-count.ensures

pub returns : goal.returns
returns g c = lanes_end _ _ _ _ c.loop-lane.lane _ (omega (arith, c.loop-lane-test.false, c.lanes-lane-end.ensures)) c.loop-lane.invariant
