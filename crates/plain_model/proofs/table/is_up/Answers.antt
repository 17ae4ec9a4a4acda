use Rattle.plain_model.proofs.Scans.{none_up, up_step}
use Rattle.plain_model.proofs.table.is_up.Goals as goal

pub loop-effect-init : goal.loop-effect-init
loop-effect-init c = none_up _

pub loop-effect-preserved : goal.loop-effect-preserved
loop-effect-preserved c = up_step _ _ _ _ _ _ c.loop-effect-test.true c.loop-effect.invariant c.is_up_after-up.ensures
