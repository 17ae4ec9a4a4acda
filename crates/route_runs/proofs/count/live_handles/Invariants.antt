use Rattle.std.proofs.Common.{◌≡◌, ◌≤◌, length, take}
use Rattle.std.specs.List.{filter}
use Rattle.route_runs.specs.Rows.{is_live}
use Rattle.route_runs.proofs.count.live_handles.Given as goal

abbrev pub invariant-loop-at : goal.invariant-loop-at
invariant-loop-at l = record {
  within : l.count ≤ l.at;
  sum : l.count ≡ length (filter is_live (take l.at l.handles));
}
