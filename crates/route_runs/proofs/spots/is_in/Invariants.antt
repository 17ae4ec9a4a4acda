use Rattle.std.proofs.Common.{◌≡◌, ◌≤◌, length, map, take}
use Rattle.std.specs.Arc.{arc_value}
use Rattle.route_runs.specs.Runs.{latest}
use Rattle.route_runs.proofs.spots.is_in.Given as goal

abbrev pub invariant-loop-at : goal.invariant-loop-at
invariant-loop-at g l = record {
  within : l.at ≤ length l.runs;
  rest : latest g.K.Ord.cmp l.key (take l.at (map arc_value l.runs)) ≡ latest g.K.Ord.cmp l.key (map arc_value l.runs);
}

abbrev pub decreases-loop-at : goal.decreases-loop-at
decreases-loop-at g l = l.at
