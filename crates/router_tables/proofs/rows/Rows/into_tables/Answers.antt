use Rattle.std.proofs.Common.{sym, subst}
use Rattle.router_tables.specs.Pending.{RowsValue, StandsForRows}
use Rattle.router_tables.proofs.rows.Rows.into_tables.Goals as goal

pub returns : goal.returns
returns c effects h = c.in_ok-make_changes.ensures effects (subst (λ (r : RowsValue). StandsForRows r effects) (sym c.self.view_is) h)
