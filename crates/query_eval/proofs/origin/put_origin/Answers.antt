use Rattle.bmp_specs.specs.Query.{origin}
use Rattle.query_eval.proofs.RowAnswers.{lines_plain}
use Rattle.query_eval.proofs.origin.put_origin.Goals as goal

pub returns : goal.returns
returns g c = lines_plain c.args.tables.now (origin c.args.asn c.args.select.now) c.args.lane _ _ _ (rw c.none-traits.ensures at c.put_kept_origin.ensures)
