use Rattle.bmp_specs.specs.TableRows.{row_key_cmp}
use Rattle.bmp_specs.proofs.OrderLaws.{row_key_total, row_key_exact}
use Rattle.plain_model.specs.Values.{row_key_value}
use Rattle.plain_model.proofs.Ties.{ties}
use Rattle.plain_model.proofs.order.is_same_row_key.Goals as goal

pub returns : goal.returns
returns c = ties row_key_cmp row_key_total row_key_exact (row_key_value c.args.a.now) (row_key_value c.args.b.now) c.row_key_order.result c.is_eq.result c.row_key_order.ensures c.is_eq.ensures
