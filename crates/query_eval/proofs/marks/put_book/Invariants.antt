use Rattle.std.proofs.Common.{length}
use Rattle.bmp_specs.specs.Orders.{key_cmp}
use Rattle.query_eval.specs.Later.{later}
use Rattle.query_eval.specs.Told.{states_in, marks_in, mark_lines}
use Rattle.query_eval.proofs.Leading.{LeadsTo}
use Rattle.query_eval.proofs.marks.put_book.Given as goal

abbrev pub invariant-loop-line : goal.invariant-loop-line
invariant-loop-line g l = LeadsTo g.O.Sink.faults g.O.Sink.told g.O.Sink.aside l.fn.out l.out l.count (mark_lines (g.T.TellsMark.line l.tells) l.select l.lane (marks_in l.book (later key_cmp l.place (states_in l.book)))) (mark_lines (g.T.TellsMark.line l.tells) l.select l.lane (marks_in l.book (states_in l.book)))

abbrev pub decreases-loop-line : goal.decreases-loop-line
decreases-loop-line g l = length (later key_cmp l.place (states_in l.book))
