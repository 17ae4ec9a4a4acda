use Rattle.query_eval.proofs.Leading.{leads_begin, leads_first, leads_failed, leads_last, leads_last_failed}
use Rattle.query_eval.proofs.MarkSteps.{families_split}
use Rattle.query_eval.proofs.marks.put_view.Goals as goal

pub returns-in_err-first : goal.returns-in_err-first
returns-in_err-first g c = leads_failed _ _ _ _ _ _ _ _ _ _ (leads_begin _ _) c.in_err-first.ensures c.from_residual.ensures.0 (families_split (g.T.TellsMark.line c.args.tells.now) c.args.select.now c.args.lane c.args.book.now c.args.key.now c.args.view)

pub returns-in_err-second : goal.returns-in_err-second
returns-in_err-second g c =
    leads_last_failed _ _ _ _ _ _ _ _ (leads_first _ _ _ _ _ _ c.in_ok-first.ensures (families_split (g.T.TellsMark.line c.args.tells.now) c.args.select.now c.args.lane c.args.book.now c.args.key.now c.args.view)) c.in_err-second.ensures
    c.from_residual-in_err-second.ensures.0

pub returns : goal.returns
returns g c =
    leads_last _ _ _ _ _ _ _ _ (leads_first _ _ _ _ _ _ c.in_ok-first.ensures (families_split (g.T.TellsMark.line c.args.tells.now) c.args.select.now c.args.lane c.args.book.now c.args.key.now c.args.view)) c.in_ok-second.ensures c.saturating_add.ensures
