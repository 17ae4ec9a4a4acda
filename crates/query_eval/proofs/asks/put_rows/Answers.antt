use Rattle.std.proofs.Common.{List, map, sym, ap}
use Rattle.query_eval.specs.Rows.{asked_rows, lane_rows}
use Rattle.query_eval.specs.RowTables.{PeerTableValue}
use Rattle.query_eval.proofs.Leading.{leads_begin, leads_as, leads_on, leads_failed, leads_end}
use Rattle.query_eval.proofs.RowLines.{first_table}
use Rattle.query_eval.proofs.asks.put_rows.Goals as goal

pub loop-table-init : goal.loop-table-init
loop-table-init g c =
    let all = map (g.A.Asks.line c.args.asks.now c.args.lane) (lane_rows (g.A.Asks.asking c.args.asks.now) c.args.select.now c.args.lane c.args.tables.now) in
    leads_as c.args.out.now c.args.out.now 0 _ all all (leads_begin c.args.out.now all) (ap (λ (ts : List PeerTableValue). map (g.A.Asks.line c.args.asks.now c.args.lane) (asked_rows (g.A.Asks.asking c.args.asks.now) ts)) (sym c.new-asked.ensures.all))

pub loop-table-preserved : goal.loop-table-preserved
loop-table-preserved g c =
    leads_on c.args.out.now c.loop-table.out c.put_asked.new.out _ _ _ _ _ _ _ c.loop-table.invariant c.in_ok-put_asked.ensures (first_table (g.A.Asks.asking c.args.asks.now) (g.A.Asks.line c.args.asks.now c.args.lane) _ _ _ c.in-Some.ensures) c.saturating_add-count.ensures

pub returns-in_err-put_asked-clause-writes : goal.returns-in_err-put_asked-clause-writes
returns-in_err-put_asked-clause-writes g c =
    leads_failed c.args.out.now c.loop-table.out c.put_asked.new.out _ _ _ _ _ _ c.from_residual.result c.loop-table.invariant c.in_err-put_asked.ensures c.from_residual.ensures.0 (first_table (g.A.Asks.asking c.args.asks.now) (g.A.Asks.line c.args.asks.now c.args.lane) _ _ _ c.in-Some.ensures)

pub returns-clause-writes : goal.returns-clause-writes
returns-clause-writes g c = leads_end c.args.out.now c.loop-table.out _ _ _ c.loop-table.invariant (ap (λ (ts : List PeerTableValue). map (g.A.Asks.line c.args.asks.now c.args.lane) (asked_rows (g.A.Asks.asking c.args.asks.now) ts)) c.in_default.ensures)
