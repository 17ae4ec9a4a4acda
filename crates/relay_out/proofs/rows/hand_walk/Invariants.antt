use Rattle.std.proofs.Common.{length}
use Rattle.relay_out.proofs.Handing.{Leads}
use Rattle.relay_out.proofs.Steps.{items_of_pairs}
use Rattle.relay_out.proofs.rows.hand_walk.Given as goal

abbrev pub invariant-loop : goal.invariant-loop
invariant-loop g l = Leads g.T.Takes.of g.T.Takes.may g.T.Takes.took g.T.Takes.stopped l.fn.taker l.taker (items_of_pairs l.info l.key l.view l.walk) (items_of_pairs l.info l.key l.view l.fn.walk)

abbrev pub decreases-loop : goal.decreases-loop
decreases-loop g l = length l.walk
