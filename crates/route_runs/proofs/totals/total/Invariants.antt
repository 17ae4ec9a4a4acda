use Rattle.std.proofs.Common.{◌≡◌, ◌-◌, ◌*◌, ◌≤◌, length, map, take}
use Rattle.std.specs.Arc.{arc_value}
use Rattle.route_runs.specs.Runs.{contents}
use Rattle.route_runs.proofs.totals.total.Given as goal

abbrev pub invariant-loop-at : goal.invariant-loop-at
invariant-loop-at g l = record {
  within : l.at ≤ length l.runs;
  few : l.count ≤ l.at * 18446744073709551616;
  sum : l.count ≡ length (contents g.K.Ord.cmp (take l.at (map arc_value l.runs)));
}

abbrev pub decreases-loop-at : goal.decreases-loop-at
decreases-loop-at g l = length l.runs - l.at
