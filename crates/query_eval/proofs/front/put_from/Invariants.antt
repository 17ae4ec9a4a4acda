use Rattle.std.proofs.Common.{◌≡◌, ◌∷◌, length}
use Rattle.route_runs.specs.Places.{shown}
use Rattle.query_eval.specs.RowRuns.{front_of}
use Rattle.query_eval.specs.Rows.{lines_by}
use Rattle.query_eval.proofs.Leading.{LeadsTo}
use Rattle.query_eval.proofs.front.put_from.Given as goal

abbrev pub invariant-loop-count : goal.invariant-loop-count
invariant-loop-count g l = record {
  same : l.lines ≡ l.fn.lines;
  leads : LeadsTo g.O.Sink.faults g.O.Sink.told g.O.Sink.aside l.fn.out l.out l.count (lines_by (g.L.TellsTable.line l.fn.lines) (front_of l.run (g.W.Pairs.left l.walk))) (lines_by (g.L.TellsTable.line l.fn.lines) (shown l.fn.first ∷ front_of l.run (g.W.Pairs.left l.fn.walk)));
}

abbrev pub decreases-loop-count : goal.decreases-loop-count
decreases-loop-count g l = length (g.W.Pairs.left l.walk)
