use Rattle.query_eval.proofs.RowAnswers.{part_plain}
use Rattle.query_eval.proofs.parts.put_part.Goals as goal

pub returns : goal.returns
returns g c = part_plain c.args.tables.now c.args.part c.args.select.now c.args.lane _ _ _ (rw c.none-traits.ensures at c.put_kept_part.ensures)
