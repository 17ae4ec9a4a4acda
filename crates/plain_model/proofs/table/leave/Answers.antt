use Rattle.std.proofs.Common.{refl}
use Rattle.plain_model.proofs.Scans.{leave_fails}
use Rattle.plain_model.proofs.table.leave.Goals as goal

pub returns-then-replaces : goal.returns-then-replaces
returns-then-replaces c = (λ e. absurd cc, λ all. absurd (leave_fails _ _ _ _ c.loop-effect-test.true (c.if-replaces.ensures.0 refl) all))
