use Rattle.bmp_specs.specs.Query.{longest}
use Rattle.query_eval.proofs.RowAnswers.{lines_plain}
use Rattle.query_eval.proofs.longest.put_longest.Goals as goal

pub returns : goal.returns
returns g c = lines_plain c.args.tables.now (longest c.args.address.now c.args.select.now) c.args.lane _ _ _ (rw c.none-traits.ensures at c.put_kept_longest.ensures)
