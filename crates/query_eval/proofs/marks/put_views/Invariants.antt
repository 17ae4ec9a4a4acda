use Rattle.std.proofs.Common.{drop}
use Rattle.query_eval.specs.Told.{peer_marks, mark_lines}
use Rattle.query_eval.proofs.Leading.{LeadsTo}
use Rattle.query_eval.proofs.marks.put_views.Given as goal

abbrev pub invariant-loop-view : goal.invariant-loop-view
invariant-loop-view g l = LeadsTo g.O.Sink.faults g.O.Sink.told g.O.Sink.aside l.fn.out l.out l.count (mark_lines (g.T.TellsMark.line l.tells) l.select l.lane (peer_marks l.book l.key (drop l.view-index l.views))) (mark_lines (g.T.TellsMark.line l.tells) l.select l.lane (peer_marks l.book l.key l.views))
