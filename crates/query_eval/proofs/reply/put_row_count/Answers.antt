use Rattle.query_eval.proofs.ReplySteps.{puts_count, puts_count_failed}
use Rattle.query_eval.proofs.reply.put_row_count.Goals as goal

pub returns-in_err-put_count : goal.returns-in_err-put_count
returns-in_err-put_count g c = puts_count_failed _ _ _ _ c.count_all.ensures _ _ _ _ c.in_err-put_count.ensures c.from_residual.ensures.0

pub returns : goal.returns
returns g c = puts_count _ _ _ _ c.count_all.ensures _ _ c.in_ok-put_count.ensures
