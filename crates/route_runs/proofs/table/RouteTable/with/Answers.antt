use Rattle.std.proofs.Common.{◌++◌, subst}
use Rattle.bmp_specs.specs.Orders.{nlri_cmp}
use Rattle.route_runs.specs.Runs.{IsChanged}
use Rattle.route_runs.proofs.ChangesOfHalves.{changed_cat, halves_changed}
use Rattle.route_runs.proofs.table.RouteTable.with.Goals as goal

pub invariant_of-result : goal.invariant_of-result
invariant_of-result c =
    halves_changed c.self.inside.ipv4 c.self.inside.ipv6 c.changes.inside.ipv4 c.changes.inside.ipv6 c.in_ok-ipv4.ipv4 c.in_ok-ipv6.ipv6 c.self.invariant c.changes.invariant
    (subst (λ run. IsChanged nlri_cmp c.self.inside.ipv4 run c.in_ok-ipv4.ipv4) c.replace-ipv4.ensures.value c.in_ok-ipv4.ensures)
    (subst (λ run. IsChanged nlri_cmp c.self.inside.ipv6 run c.in_ok-ipv6.ipv6) c.replace-ipv6.ensures.value c.in_ok-ipv6.ensures)

pub returns-clause-table : goal.returns-clause-table
returns-clause-table c =
    subst (λ old. IsChanged nlri_cmp old c.args.changes.now (c.in_ok-ipv4.ipv4 ++ c.in_ok-ipv6.ipv6)) c.self.view_is
    (subst (λ run. IsChanged nlri_cmp (c.self.inside.ipv4 ++ c.self.inside.ipv6) run (c.in_ok-ipv4.ipv4 ++ c.in_ok-ipv6.ipv6)) c.changes.view_is
    (changed_cat c.self.inside.ipv4 c.self.inside.ipv6 c.changes.inside.ipv4 c.changes.inside.ipv6 c.in_ok-ipv4.ipv4 c.in_ok-ipv6.ipv6 c.self.invariant c.changes.invariant
    (subst (λ run. IsChanged nlri_cmp c.self.inside.ipv4 run c.in_ok-ipv4.ipv4) c.replace-ipv4.ensures.value c.in_ok-ipv4.ensures)
    (subst (λ run. IsChanged nlri_cmp c.self.inside.ipv6 run c.in_ok-ipv6.ipv6) c.replace-ipv6.ensures.value c.in_ok-ipv6.ensures)))
