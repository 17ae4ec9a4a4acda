use Rattle.std.proofs.Common.{length}
use Rattle.bmp_specs.specs.Orders.{key_cmp}
use Rattle.query_eval.specs.Later.{later}
use Rattle.query_eval.specs.Told.{states_in, state_lines}
use Rattle.query_eval.proofs.Leading.{LeadsTo}
use Rattle.query_eval.proofs.peers.put_book.Given as goal

abbrev pub invariant-loop-line : goal.invariant-loop-line
invariant-loop-line g l = LeadsTo g.O.Sink.faults g.O.Sink.told g.O.Sink.aside l.fn.out l.out l.count (state_lines l.router l.peer l.lane (later key_cmp l.place (states_in l.book))) (state_lines l.router l.peer l.lane (states_in l.book))

abbrev pub decreases-loop-line : goal.decreases-loop-line
decreases-loop-line g l = length (later key_cmp l.place (states_in l.book))
