use Rattle.std.proofs.Common.{◌++◌}
use Rattle.reply_text.specs.Pieces.{metrics_text, remaining_text}
use Rattle.reply_text.proofs.Joining.{join_three}
use Rattle.reply_text.proofs.Pieces.{attribute_parts}
use Rattle.wire_io.proofs.Joins.{join_failed, more}
use Rattle.reply_text.proofs.route.put_attributes.Goals as goal

pub returns-in_err-put_mandatory : goal.returns-in_err-put_mandatory
returns-in_err-put_mandatory g c = let a = c.args.attrs.now in more _ _ _ (metrics_text a ++ remaining_text a) _ _ _ c.in_err-put_mandatory.ensures c.from_residual.ensures.0 (attribute_parts a)

pub returns-in_err-put_metrics : goal.returns-in_err-put_metrics
returns-in_err-put_metrics g c = let a = c.args.attrs.now in join_failed _ _ _ _ _ (remaining_text a) _ _ _ c.in_ok-put_mandatory.ensures c.in_err-put_metrics.ensures c.from_residual-in_err-put_metrics.ensures.0 (attribute_parts a)

pub returns : goal.returns
returns g c = join_three _ _ _ _ _ _ _ _ _ _ _ c.in_ok-put_mandatory.ensures c.in_ok-put_metrics.ensures c.put_remaining.ensures (attribute_parts c.args.attrs.now)
