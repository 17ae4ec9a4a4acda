use Rattle.query_lang.specs.TraitValues.{traits_value}
use Rattle.std.proofs.Common.{map, ap}
use Rattle.router_tables.specs.Views.{Table}
use Rattle.query_eval.specs.Rows.{asks_origin, row_of}
use Rattle.query_eval.proofs.KeptPairs.{kept_asked}
use Rattle.query_eval.proofs.Leading.{lines_as}
use Rattle.query_eval.proofs.RowTellings.{origin_told}
use Rattle.query_eval.proofs.origin.OriginRowsAsks.put_asked.Goals as goal

pub returns : goal.returns
returns g c =
    lines_as c.args.out.now c.put_kept.new.out _ _ c.put_kept.result
    (ap (λ (l : Table). map (g.T.TellsRow.line c.args.self.now.tells.now c.args.lane) (map (row_of c.args.table.now.key c.args.table.now.view) l))
    (kept_asked (traits_value c.args.self.now.traits.now) (asks_origin c.args.self.now.asn c.args.self.now.family) _ _
    (origin_told c.args.table.now.table.now c.see_order.ensures.ordered c.see_order.ensures.nlri c.args.self.now.asn c.args.self.now.family c.begin.result c.origin.result c.begin.ensures.place c.origin.ensures)))
    c.put_kept.ensures
