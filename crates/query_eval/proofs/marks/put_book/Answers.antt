use Rattle.std.proofs.Common.{List, sym, ap}
use Rattle.bmp_specs.specs.PeerUp.{StateValue}
use Rattle.bmp_specs.specs.Values.{KeyValue}
use Rattle.query_eval.specs.Told.{marks_in, mark_lines}
use Rattle.query_eval.proofs.Leading.{leads_begin, leads_on, leads_failed, leads_end}
use Rattle.query_eval.proofs.MarkSteps.{marks_first}
use Rattle.query_eval.proofs.PeerSteps.{next_state, fewer}
use Rattle.query_eval.proofs.Walking.{none_left}
use Rattle.query_eval.proofs.marks.put_book.Goals as goal

pub loop-line-init : goal.loop-line-init
loop-line-init g c = leads_begin _ _

pub returns-in_err-lines-clause-lines : goal.returns-in_err-lines-clause-lines
returns-in_err-lines-clause-lines g c =
    leads_failed _ _ _ _ _ _ _ _ _ _ c.loop-line.invariant c.in_err-lines.ensures c.from_residual.ensures.0
    (marks_first (g.T.TellsMark.line c.args.tells.now) c.args.select.now c.args.lane c.args.book.now _ _ _ (next_state c.loop-line.place c.args.book.now _ c.next_peer.ensures.ordered c.in-Some.ensures.first))

pub loop-line-smaller : goal.loop-line-smaller
loop-line-smaller g c = fewer _ _ _ (next_state c.loop-line.place c.args.book.now _ c.next_peer.ensures.ordered c.in-Some.ensures.first)

pub loop-line-preserved : goal.loop-line-preserved
loop-line-preserved g c =
    leads_on _ _ _ _ _ _ _ _ _ _ c.loop-line.invariant c.in_ok-lines.ensures
    (marks_first (g.T.TellsMark.line c.args.tells.now) c.args.select.now c.args.lane c.args.book.now _ _ _ (next_state c.loop-line.place c.args.book.now _ c.next_peer.ensures.ordered c.in-Some.ensures.first)) c.saturating_add-count.ensures

pub returns-clause-lines : goal.returns-clause-lines
returns-clause-lines g c = leads_end _ _ _ _ _ c.loop-line.invariant (ap (λ (l : List (KeyValue × StateValue)). mark_lines (g.T.TellsMark.line c.args.tells.now) c.args.select.now c.args.lane (marks_in c.args.book.now l)) (none_left _ (sym c.in_default.ensures.first)))
