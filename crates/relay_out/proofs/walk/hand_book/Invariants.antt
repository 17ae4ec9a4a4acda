use Rattle.std.proofs.Common.{length}
use Rattle.bmp_specs.specs.Orders.{key_cmp}
use Rattle.query_eval.specs.Later.{later}
use Rattle.query_eval.specs.Told.{states_in}
use Rattle.relay_out.proofs.Handing.{Leads}
use Rattle.relay_out.proofs.Steps.{items_of_states}
use Rattle.relay_out.proofs.walk.hand_book.Given as goal

abbrev pub invariant-loop-line : goal.invariant-loop-line
invariant-loop-line g l = Leads g.T.Takes.of g.T.Takes.may g.T.Takes.took g.T.Takes.stopped l.fn.taker l.taker (items_of_states l.tables (later key_cmp l.place (states_in l.book))) (items_of_states l.tables (states_in l.book))

abbrev pub decreases-loop-line : goal.decreases-loop-line
decreases-loop-line g l = length (later key_cmp l.place (states_in l.book))
