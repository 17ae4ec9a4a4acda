use Rattle.std.proofs.Common.{refl}
use Rattle.query_eval.proofs.ReplySteps.{puts_asked_count, puts_by_lanes}
use Rattle.query_eval.proofs.reply.put_lines.Goals as goal

pub returns-in-Some : goal.returns-in-Some
returns-in-Some g c = puts_asked_count _ _ _ _ c.in-Some.ensures.some _ _ _ c.put_row_count.ensures

pub returns-in-None : goal.returns-in-None
returns-in-None g c = puts_by_lanes _ (c.in-None.ensures.none refl) _ _ _ _ c.put_lanes.ensures
