use Rattle.std.proofs.Common.{◌≡◌, ◌≤◌, None, drop, length, map}
use Rattle.std.specs.Arc.{arc_value}
use Rattle.route_runs.specs.Sift.{AreSpots}
use Rattle.route_runs.proofs.spots.first_spots.Given as goal

abbrev pub invariant-loop-at : goal.invariant-loop-at
invariant-loop-at g l = record {
  within : l.at ≤ length l.runs;
  long : length l.spots ≡ 40;
  spots : AreSpots g.K.Ord.cmp (g.T.RouteTest.passes l.test) None (drop l.at (map arc_value l.runs)) (drop l.at l.spots);
}

abbrev pub decreases-loop-at : goal.decreases-loop-at
decreases-loop-at g l = l.at
