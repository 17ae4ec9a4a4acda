use Rattle.std.proofs.Common.{◌∙◌, ◌∷◌, List, ℕ, map, sym, ap}
use Rattle.bmp_specs.specs.declared.peers.View.{View}
use Rattle.bmp_specs.specs.Rows.{RowValue}
use Rattle.bmp_specs.specs.Values.{KeyValue}
use Rattle.route_runs.specs.Places.{shown}
use Rattle.router_tables.specs.Views.{Table}
use Rattle.query_eval.specs.RowRuns.{front_of}
use Rattle.query_eval.specs.Rows.{row_of}
use Rattle.query_eval.proofs.Leading.{lines_as}
use Rattle.query_eval.proofs.RowLines.{pairs_told}
use Rattle.query_eval.proofs.front.put_while_in_run.Goals as goal

pub returns-in-Some : goal.returns-in-Some
returns-in-Some g c =
    let told : RowValue → List ℕ = g.T.TellsRow.line c.args.tells.now c.args.lane in
    let key : KeyValue = c.args.table.now.key in
    let view : View = c.args.table.now.view in
    lines_as c.args.out.now c.put_from.new.out _ _ c.put_from.result
    (pairs_told (g.T.Lines.TellsTable.line c.begin_table-lines.result) told key view c.begin_table-lines.ensures (shown c.in-Some.first ∷ front_of c.args.run.now (g.W.Pairs.left c.next_in_run.new.walk))
    ∙ ap (λ (l : Table). map told (map (row_of key view) l)) (sym c.in-Some.ensures.some)) c.put_from.ensures
