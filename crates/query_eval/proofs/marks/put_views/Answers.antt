use Rattle.std.proofs.Common.{arith}
use Rattle.query_eval.proofs.Leading.{leads_on, leads_failed, leads_end}
use Rattle.query_eval.proofs.MarkSteps.{view_first, views_over}
use Rattle.query_eval.proofs.marks.put_views.Goals as goal

pub returns-in_err-lines : goal.returns-in_err-lines
returns-in_err-lines g c =
    leads_failed _ _ _ _ _ _ _ _ _ _ c.loop-view.invariant c.in_err-lines.ensures c.from_residual.ensures.0 (view_first (g.T.TellsMark.line c.args.tells.now) c.args.select.now c.args.lane c.args.book.now c.args.key.now c.args.views.now c.loop-view.view-index _ (omega arith))

pub loop-view-preserved : goal.loop-view-preserved
loop-view-preserved g c =
    leads_on _ _ _ _ _ _ _ _ _ _ c.loop-view.invariant c.in_ok-lines.ensures (view_first (g.T.TellsMark.line c.args.tells.now) c.args.select.now c.args.lane c.args.book.now c.args.key.now c.args.views.now c.loop-view.view-index _ (omega arith)) c.saturating_add-count.ensures

pub returns : goal.returns
returns g c = leads_end _ _ _ _ _ c.loop-view.invariant (views_over (g.T.TellsMark.line c.args.tells.now) c.args.select.now c.args.lane c.args.book.now c.args.key.now c.args.views.now c.loop-view.view-index c.loop-view-test.false)
