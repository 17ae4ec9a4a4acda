use Rattle.query_eval.proofs.HistoryLanes.{reply_of_history}
use Rattle.query_eval.proofs.reply.answer.Goals as goal

pub returns-clause-reply : goal.returns-clause-reply
returns-clause-reply g c = reply_of_history _ _ _ _ _ c.requires c.put_buffered.ensures
