use Rattle.std.proofs.Common.{subst}
use Rattle.std.specs.List.Sorted.{IsStrictlySortedBy}
use Rattle.std.specs.Map.{keys_of}
use Rattle.bmp_specs.specs.Orders.{nlri_cmp}
use Rattle.route_runs.proofs.Halves.{rising_cat}
use Rattle.route_runs.proofs.table_cursor.TableCursor.next.Goals as goal

pub returns-clause-ordered : goal.returns-clause-ordered
returns-clause-ordered c = subst (λ w. IsStrictlySortedBy nlri_cmp (keys_of w.pairs)) c.self.view_is (rising_cat c.self.inside.ipv4.pairs c.self.inside.ipv6.pairs c.self.invariant c.see_order.ensures c.see_order-2.ensures)
