use Rattle.station_top.proofs.Drilling.{cut_failed, routers_failed, all_replied}
use Rattle.station_top.proofs.drill.DrillRepliesPuts.put.Goals as goal

pub returns-in_err-answer : goal.returns-in_err-answer
returns-in_err-answer g c history stands = cut_failed _ history stands _ _ _ _ (c.in_err-answer.ensures.reply history stands) c.from_residual.ensures.0

pub returns-in_err-answer-2 : goal.returns-in_err-answer-2
returns-in_err-answer-2 g c history stands = routers_failed _ history stands _ _ _ _ _ (c.in_ok-answer.ensures.reply history stands) (c.in_err-answer-2.ensures.reply history stands) c.from_residual-in_err-answer-2.ensures.0

pub returns : goal.returns
returns g c history stands = all_replied _ history stands _ _ _ _ _ (c.in_ok-answer.ensures.reply history stands) (c.in_ok-answer-2.ensures.reply history stands) (rw c.all.ensures at c.answer-3.ensures.reply history stands)
