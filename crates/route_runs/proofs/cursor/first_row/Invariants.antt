use Rattle.std.proofs.Common.{◌-◌, ◌≤◌, length, map, take}
use Rattle.std.specs.Arc.{arc_value}
use Rattle.std.specs.Option.{option_map}
use Rattle.route_runs.specs.Places.{told, is_after, IsFirst}
use Rattle.route_runs.specs.Runs.{latest}
use Rattle.route_runs.proofs.cursor.first_row.Given as goal

abbrev pub invariant-loop-at : goal.invariant-loop-at
invariant-loop-at g l = record {
  within : l.at ≤ length l.runs;
  first : IsFirst g.K.Ord.cmp (is_after g.K.Ord.cmp l.place) (λ q. latest g.K.Ord.cmp q (take l.at (map arc_value l.runs))) (option_map told l.first);
}

abbrev pub decreases-loop-at : goal.decreases-loop-at
decreases-loop-at g l = length l.runs - l.at
