use Rattle.std.proofs.Common.{◌≡◌, drop}
use Rattle.query_eval.specs.RowRuns.{shown_all}
use Rattle.query_eval.specs.Rows.{lines_by}
use Rattle.query_eval.proofs.Leading.{LeadsTo}
use Rattle.query_eval.proofs.batch.put_batch.Given as goal

abbrev pub invariant-loop-at : goal.invariant-loop-at
invariant-loop-at g l = record {
  same : l.lines ≡ l.fn.lines;
  leads : LeadsTo g.O.Sink.faults g.O.Sink.told g.O.Sink.aside l.fn.out l.out l.count (lines_by (g.L.TellsTable.line l.fn.lines) (shown_all (drop l.at l.nlris) (drop l.at l.routes))) (lines_by (g.L.TellsTable.line l.fn.lines) (shown_all l.nlris l.routes));
}
