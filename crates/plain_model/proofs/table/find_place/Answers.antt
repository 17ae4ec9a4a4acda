use Rattle.std.proofs.Common.{arith}
use Rattle.plain_model.proofs.Scans.{found_place, place_step, gap_here, gap_at_end}
use Rattle.plain_model.proofs.table.find_place.Goals as goal

pub returns-in-Equal-clause-there : goal.returns-in-Equal-clause-there
returns-in-Equal-clause-there c = found_place _ _ _ _ c.loop-at-test.true c.in-Equal.ensures

pub returns-in-Greater-clause-gap : goal.returns-in-Greater-clause-gap
returns-in-Greater-clause-gap c = gap_here _ _ _ _ c.loop-at-test.true c.loop-at.invariant c.in-Greater.ensures

pub loop-at-preserved : goal.loop-at-preserved
loop-at-preserved c = place_step _ _ _ _ c.loop-at-test.true c.loop-at.invariant c.in-Less.ensures

pub returns-clause-gap : goal.returns-clause-gap
returns-clause-gap c = gap_at_end _ _ _ (omega arith) c.loop-at.invariant
