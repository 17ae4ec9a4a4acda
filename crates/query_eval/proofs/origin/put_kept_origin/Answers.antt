use Rattle.query_lang.specs.TraitValues.{traits_value}
use Rattle.std.proofs.Common.{Option, ap, map}
use Rattle.bmp_specs.specs.declared.wire.Family.{Family}
use Rattle.bmp_specs.specs.Query.{origin}
use Rattle.bmp_specs.specs.Selection.{SelectValue}
use Rattle.query_eval.specs.Rows.{asks_origin, kept, lane_rows}
use Rattle.query_eval.proofs.Leading.{lines_as}
use Rattle.query_eval.proofs.RowAnswers.{are_origin, puts_rows}
use Rattle.query_eval.proofs.origin.put_kept_origin.Goals as goal

pub returns : goal.returns
returns g c =
    let family = ap (λ (s : SelectValue). s.family) c.select.view_is in
    let lines = ap (λ (f : Option Family). map (g.T.TellsRow.line c.args.tells.now c.args.lane) (lane_rows (kept (traits_value c.args.traits.now) (asks_origin c.args.asn f)) c.args.select.now c.args.lane c.args.tables.now)) family in
    puts_rows (origin c.args.asn c.args.select.now) (traits_value c.args.traits.now) c.args.lane c.args.tables.now _ (λ entries stands. are_origin c.args.select.now (traits_value c.args.traits.now) c.args.lane c.args.tables.now entries stands c.put_rows.ensures.ordered c.args.asn)
    (g.T.TellsRow.line c.args.tells.now) c.args.out.now c.put_rows.new.out c.put_rows.result (lines_as c.args.out.now c.put_rows.new.out _ _ c.put_rows.result lines c.put_rows.ensures.writes)
