use Rattle.query_lang.specs.TraitValues.{traits_value}
use Rattle.std.proofs.Common.{◌∙◌, map, ap}
use Rattle.router_tables.specs.Views.{Table}
use Rattle.query_eval.specs.Rows.{row_of}
use Rattle.query_eval.proofs.KeptPairs.{all_front, sift_told}
use Rattle.query_eval.proofs.Leading.{lines_as}
use Rattle.query_eval.proofs.sifted.put_sifted.Goals as goal

pub returns : goal.returns
returns g c =
    lines_as c.args.out.now c.put_while_in_run.new.out _ _ c.put_while_in_run.result
    (ap (λ (l : Table). map (g.T.TellsRow.line c.args.tells.now c.args.lane) (map (row_of c.args.table.now.key c.args.table.now.view) l))
    (all_front c.sift.result ∙ sift_told c.args.family (traits_value c.args.traits.now) c.args.table.now.table.now c.sift.result c.see_order.ensures.ordered c.sift.ensures))
    c.put_while_in_run.ensures
