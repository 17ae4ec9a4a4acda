use Rattle.query_lang.specs.TraitValues.{traits_value}
use Rattle.std.proofs.Common.{Option, ap, map}
use Rattle.bmp_specs.specs.declared.wire.Family.{Family}
use Rattle.bmp_specs.specs.Selection.{SelectValue}
use Rattle.query_eval.specs.Rows.{asks_run, kept, lane_rows}
use Rattle.query_eval.proofs.Leading.{lines_as}
use Rattle.query_eval.proofs.parts.put_told.Goals as goal

pub returns-clause-writes : goal.returns-clause-writes
returns-clause-writes g c =
    let family = ap (λ (s : SelectValue). s.family) c.select.view_is in
    let lines = ap (λ (f : Option Family). map (g.T.TellsRow.line c.args.tells.now c.args.lane) (lane_rows (kept (traits_value c.args.traits.now) (asks_run (record { family = f; part = c.args.part }))) c.args.select.now c.args.lane c.args.tables.now)) family in
    lines_as c.args.out.now c.put_rows.new.out _ _ c.put_rows.result lines c.put_rows.ensures.writes
