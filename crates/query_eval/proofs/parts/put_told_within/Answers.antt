use Rattle.ask_specs.specs.Traits.{no_traits}
use Rattle.bmp_specs.specs.Query.{within}
use Rattle.bmp_specs.specs.Selection.{select_all}
use Rattle.query_eval.specs.declared.run.Part.TheVariants.{Within}
use Rattle.query_eval.specs.Rows.{part_rows}
use Rattle.query_eval.proofs.RowAnswers.{are_within, rows_plain}
use Rattle.query_eval.proofs.parts.put_told_within.Goals as goal

pub returns : goal.returns
returns g c = λ entries stands. (
  part_rows (Within c.args.prefix.now) select_all no_traits c.args.lane c.args.tables.now,
  rows_plain (within c.args.prefix.now select_all) c.args.lane entries _ (are_within select_all no_traits c.args.lane c.args.tables.now entries stands c.put_told.ensures.ordered c.args.prefix.now),
  rw (c.all-select.ensures, c.none-traits.ensures) at c.put_told.ensures.writes,
)
