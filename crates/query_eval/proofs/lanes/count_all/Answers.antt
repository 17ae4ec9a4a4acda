use Rattle.std.proofs.Common.{arith}
use Rattle.query_eval.proofs.LaneSteps.{counts_begin, counts_on, counts_end}
use Rattle.query_eval.proofs.lanes.count_all.Goals as goal

pub loop-lane-init : goal.loop-lane-init
loop-lane-init c = counts_begin _ _ _

pub loop-lane-preserved : goal.loop-lane-preserved
loop-lane-preserved c = counts_on _ _ _ c.loop-lane.lane _ _ _ _ (omega (arith, c.loop-lane-test.true, c.lanes-lane-end.ensures)) c.value.ensures c.loop-lane.invariant c.count_kept_rows.ensures c.saturating_add-count.ensures

pub returns : goal.returns
returns c = counts_end _ _ _ c.loop-lane.lane _ (omega (arith, c.loop-lane-test.false, c.lanes-lane-end.ensures)) c.loop-lane.invariant
