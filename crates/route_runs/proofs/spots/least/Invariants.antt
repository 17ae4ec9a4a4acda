use Rattle.std.proofs.Common.{◌≤◌, MatchOption, drop, length, map}
use Rattle.std.specs.Arc.{arc_value}
use Rattle.route_runs.specs.Sift.{AreEnded, IsLeastFrom}
use Rattle.route_runs.proofs.spots.least.Given as goal

abbrev pub invariant-loop-at : goal.invariant-loop-at
invariant-loop-at g l = record {
  within : l.at ≤ length l.runs;
  least : MatchOption l.found (AreEnded (drop l.at (map arc_value l.runs)) (drop l.at l.spots)) (IsLeastFrom g.K.Ord.cmp (map arc_value l.runs) l.spots l.at);
}

abbrev pub decreases-loop-at : goal.decreases-loop-at
decreases-loop-at g l = l.at
