use Rattle.std.proofs.Common.{drop}
use Rattle.relay_out.proofs.Handing.{Leads}
use Rattle.relay_out.proofs.Steps.{items_of_views}
use Rattle.relay_out.proofs.rows.hand_views.Given as goal

abbrev pub invariant-loop-view : goal.invariant-loop-view
invariant-loop-view g l = Leads g.T.Takes.of g.T.Takes.may g.T.Takes.took g.T.Takes.stopped l.fn.taker l.taker (items_of_views l.info l.tables.tables l.key (drop l.view-index l.views)) (items_of_views l.info l.tables.tables l.key l.views)
