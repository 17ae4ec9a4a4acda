use Rattle.std.proofs.Common.{◌++◌, codes, refl}
use Rattle.ask_specs.specs.FullLine.{clusters, originator}
use Rattle.reply_text.specs.Own.{own_part}
use Rattle.reply_text.proofs.Joining.{join_three}
use Rattle.wire_io.proofs.Joins.{join_failed, more}
use Rattle.reply_text.proofs.own.put_inner.Goals as goal

pub returns-in_err-put_own : goal.returns-in_err-put_own
returns-in_err-put_own g c = more _ _ _ (own_part (codes " originator=") originator c.args.others.now ++ own_part (codes " clusters=") clusters c.args.others.now) _ _ _ c.in_err-put_own.ensures c.from_residual.ensures.0 refl

pub returns-in_err-put_own-2 : goal.returns-in_err-put_own-2
returns-in_err-put_own-2 g c = join_failed _ _ _ _ _ (own_part (codes " clusters=") clusters c.args.others.now) _ _ _ c.in_ok-put_own.ensures c.in_err-put_own-2.ensures c.from_residual-in_err-put_own-2.ensures.0 refl

pub returns : goal.returns
returns g c = join_three _ _ _ _ _ _ _ _ _ _ _ c.in_ok-put_own.ensures c.in_ok-put_own-2.ensures c.put_own-3.ensures refl
