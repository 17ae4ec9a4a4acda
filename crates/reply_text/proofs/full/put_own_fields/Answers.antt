use Rattle.std.proofs.Common.{refl}
use Rattle.reply_text.specs.Own.{inner_text}
use Rattle.wire_io.proofs.Joins.{join, more}
use Rattle.reply_text.proofs.full.put_own_fields.Goals as goal

pub returns-in_err-put_policy : goal.returns-in_err-put_policy
returns-in_err-put_policy g c = more _ _ _ (inner_text c.args.others.now) _ _ _ c.in_err-put_policy.ensures c.from_residual.ensures.0 refl

pub returns : goal.returns
returns g c = join _ _ _ _ _ _ _ _ c.in_ok-put_policy.ensures c.put_inner.ensures refl
