use Rattle.std.proofs.Common.{subst}
use Rattle.std.specs.List.{AllByRecursion}
use Rattle.std.specs.Option.{is_some}
use Rattle.route_runs.specs.Sets.{PairPasses, RoutePasses}
use Rattle.route_runs.proofs.Setwise.{both_pass}
use Rattle.route_runs.proofs.table.RouteTable.all_pass.Goals as goal

pub returns-then-all_pass : goal.returns-then-all_pass
returns-then-all_pass g c = λ t.
    let P = g.T.SetTest.passes in
    subst (AllByRecursion (RoutePasses c.args.ipv4 c.args.ipv6 P)) c.self.view_is
    (both_pass c.args.ipv4 c.args.ipv6 P c.self.inside.ipv4 c.self.inside.ipv6 c.self.invariant
    (subst (AllByRecursion (PairPasses (λ n. is_some n.id) c.args.ipv4 P)) c.rows.ensures (c.all_pass.ensures c.if-all_pass.true))
    (subst (AllByRecursion (PairPasses (λ n. is_some n.id) c.args.ipv6 P)) c.rows-then-all_pass.ensures (c.all_pass-then-all_pass.ensures t)))
