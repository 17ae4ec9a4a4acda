use Rattle.std.proofs.Common.{◌≡◌, take}
use Rattle.std.specs.List.{AllByRecursion}
use Rattle.std.specs.Option.{is_some}
use Rattle.route_runs.specs.Rows.{sets_of, set_at}
use Rattle.route_runs.specs.Sift.{passing, Fails}
use Rattle.route_runs.proofs.spots.before_passing.Given as goal

abbrev pub invariant-loop-at : goal.invariant-loop-at
invariant-loop-at g l = record {
  told : l.passed ≡ is_some (passing (g.T.RouteTest.passes l.test) (set_at (sets_of l.packs) l.tested));
  fail : AllByRecursion (λ h. Fails (g.T.RouteTest.passes l.test) (set_at (sets_of l.packs) h)) (take l.at l.handles);
}
