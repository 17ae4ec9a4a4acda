use Rattle.query_lang.specs.TraitValues.{traits_value}
use Rattle.std.proofs.Common.{map, ap}
use Rattle.router_tables.specs.Views.{Table}
use Rattle.query_eval.specs.Rows.{asks_run, row_of}
use Rattle.query_eval.proofs.KeptPairs.{kept_asked}
use Rattle.query_eval.proofs.Leading.{lines_as}
use Rattle.query_eval.proofs.RowTellings.{run_told}
use Rattle.query_eval.proofs.run_rows.put_run.Goals as goal

pub returns : goal.returns
returns g c =
    lines_as c.args.out.now c.put_kept.new.out _ _ c.put_kept.result
    (ap (λ (l : Table). map (g.T.TellsRow.line c.args.tells.now c.args.lane) (map (row_of c.args.table.now.key c.args.table.now.view) l))
    (kept_asked (traits_value c.args.traits.now) (asks_run c.args.run.now) _ _
    (run_told c.args.table.now.table.now c.see_order.ensures.ordered c.see_order.ensures.nlri c.args.run.now c.begin.result c.walk.result c.begin.ensures.valid c.begin.ensures.place c.walk.ensures)))
    c.put_kept.ensures
