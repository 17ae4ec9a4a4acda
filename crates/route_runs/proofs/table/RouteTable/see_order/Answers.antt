use Rattle.std.proofs.Common.{subst}
use Rattle.std.specs.List.Sorted.{IsStrictlySortedBy}
use Rattle.std.specs.Map.{keys_of}
use Rattle.bmp_specs.specs.Orders.{nlri_cmp}
use Rattle.route_runs.specs.Nlri.{AreNlri}
use Rattle.route_runs.proofs.Halves.{nlri_cat, rising_cat}
use Rattle.route_runs.proofs.table.RouteTable.see_order.Goals as goal

pub returns-clause-ordered : goal.returns-clause-ordered
returns-clause-ordered c = subst (λ l. IsStrictlySortedBy nlri_cmp (keys_of l)) c.self.view_is (rising_cat c.self.inside.ipv4 c.self.inside.ipv6 c.self.invariant c.see_order.ensures c.see_order-2.ensures)

pub returns-clause-nlri : goal.returns-clause-nlri
returns-clause-nlri c = subst (λ l. AreNlri l) c.self.view_is (nlri_cat c.self.inside.ipv4 c.self.inside.ipv6 c.self.invariant)
