use Rattle.std.proofs.Common.{drop}
use Rattle.query_eval.specs.RowRuns.{shown_all}
use Rattle.relay_out.proofs.Handing.{Leads}
use Rattle.relay_out.proofs.Steps.{items_of_pairs}
use Rattle.relay_out.proofs.rows.hand_batch.Given as goal

abbrev pub invariant-loop-at : goal.invariant-loop-at
invariant-loop-at g l = Leads g.T.Takes.of g.T.Takes.may g.T.Takes.took g.T.Takes.stopped l.fn.taker l.taker (items_of_pairs l.info l.key l.view (shown_all (drop l.at l.nlris) (drop l.at l.routes))) (items_of_pairs l.info l.key l.view (shown_all l.nlris l.routes))
