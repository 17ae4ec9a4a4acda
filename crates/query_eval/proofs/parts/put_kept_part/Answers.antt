use Rattle.query_lang.specs.TraitValues.{traits_value}
use Rattle.query_eval.proofs.RowAnswers.{puts_part}
use Rattle.query_eval.proofs.parts.put_kept_part.Goals as goal

pub returns : goal.returns
returns g c = puts_part (g.T.TellsRow.line c.args.tells.now) c.args.part c.args.select.now (traits_value c.args.traits.now) c.args.lane c.args.tables.now c.put_told.ensures.ordered c.args.out.now c.put_told.new.out c.put_told.result c.put_told.ensures.writes
