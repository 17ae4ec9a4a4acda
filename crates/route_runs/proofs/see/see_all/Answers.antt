use Rattle.std.proofs.Common.{arith}
use Rattle.route_runs.specs.Nlri.{IsNlri}
use Rattle.route_runs.proofs.KeptNlri.{one_more}
use Rattle.route_runs.proofs.see.see_all.Goals as goal

pub loop-nlri-init : goal.loop-nlri-init
loop-nlri-init c = λ k d lt. absurd (omega (arith, lt))

pub loop-nlri-preserved : goal.loop-nlri-preserved
loop-nlri-preserved c = one_more IsNlri c.args.list.now c.loop-nlri.nlri-index c.nlri-item.result c.loop-nlri-test.true c.nlri-item.is c.see.ensures c.loop-nlri.invariant

pub returns : goal.returns
returns c = λ k d lt. c.loop-nlri.invariant k d (omega (arith, lt, c.loop-nlri-test.false))
