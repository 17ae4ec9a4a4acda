use Rattle.std.proofs.Common.{◌+◌, ◌≤◌}
use Rattle.bmp_specs.specs.Prefix.{width_of}
use Rattle.route_runs.specs.Longest.{IsSearching}
use Rattle.route_runs.proofs.longest.longest_by_looks.Given as goal

abbrev pub invariant-loop-place : goal.invariant-loop-place
invariant-loop-place g l = IsSearching l.addr l.looks l.bits × (l.steps + l.bits ≤ l.fn.steps + width_of l.addr.family)

abbrev pub decreases-loop-place : goal.decreases-loop-place
decreases-loop-place g l = l.bits
