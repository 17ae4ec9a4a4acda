use Rattle.query_eval.proofs.ReplySteps.{ask_made, first_failed, lines_failed, all_written}
use Rattle.query_eval.proofs.reply.put_reply.Goals as goal

pub returns-in_err-put_at : goal.returns-in_err-put_at
returns-in_err-put_at g c = first_failed _ _ _ (ask_made _) _ c.rev.ensures _ _ _ _ c.in_err-put_at.ensures c.from_residual.ensures.0

pub returns-in_err-rows : goal.returns-in_err-rows
returns-in_err-rows g c = lines_failed _ _ _ (ask_made _) _ c.rev.ensures _ _ _ _ _ c.in_ok-put_at.ensures c.in_err-rows.ensures c.from_residual-in_err-rows.ensures.0

pub returns : goal.returns
returns g c = all_written _ _ _ (ask_made _) _ c.rev.ensures _ _ _ _ _ _ c.in_ok-put_at.ensures c.in_ok-rows.ensures c.put_end.ensures
