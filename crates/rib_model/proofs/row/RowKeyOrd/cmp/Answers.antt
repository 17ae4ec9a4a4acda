use Rattle.bmp_specs.specs.TableRows.{row_key_cmp}
use Rattle.bmp_specs.proofs.ViewOrder.{derived_view_is}
use Rattle.rib_model.proofs.row.RowKeyOrd.cmp.Goals as goal

pub returns : goal.returns
returns c = rw (c.then-2.ensures, c.then.ensures, c.cmp.ensures, c.cmp-2.ensures, c.cmp-3.ensures, derived_view_is) (λ i. row_key_cmp (c.self.view_is i) (c.other.view_is i))
