use Rattle.std.proofs.Common.{◌≡◌, ◌≤◌, length, map, take}
use Rattle.std.specs.Arc.{arc_value}
use Rattle.std.specs.List.{filter}
use Rattle.std.specs.Option.{is_some}
use Rattle.route_runs.specs.Runs.{latest, seen}
use Rattle.route_runs.proofs.totals.hits.Given as goal

abbrev pub invariant-loop-at : goal.invariant-loop-at
invariant-loop-at g l = record {
  within : l.count ≤ l.at;
  sum : l.count ≡ length (filter (λ k. is_some (seen (latest g.K.Ord.cmp k (map arc_value l.runs)))) (take l.at l.keys));
}
