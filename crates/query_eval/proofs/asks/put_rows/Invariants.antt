use Rattle.std.proofs.Common.{length, map}
use Rattle.query_eval.specs.Rows.{asked_rows, lane_rows}
use Rattle.query_eval.specs.RowTables.{left_of}
use Rattle.query_eval.proofs.Leading.{LeadsTo}
use Rattle.query_eval.proofs.asks.put_rows.Given as goal

abbrev pub invariant-loop-table : goal.invariant-loop-table
invariant-loop-table g l = LeadsTo g.O.Sink.faults g.O.Sink.told g.O.Sink.aside l.fn.out l.out l.count (map (g.A.Asks.line l.asks l.lane) (asked_rows (g.A.Asks.asking l.asks) (left_of l.asked))) (map (g.A.Asks.line l.asks l.lane) (lane_rows (g.A.Asks.asking l.asks) l.select l.lane l.tables))

abbrev pub decreases-loop-table : goal.decreases-loop-table
decreases-loop-table g l = length (left_of l.asked)
