use Rattle.std.proofs.Common.{◌≡◌, ◌+◌, ◌≤◌, length, min}
use Rattle.route_runs.proofs.sift.Sift.count.Given as goal

abbrev pub invariant-loop-count : goal.invariant-loop-count
invariant-loop-count g l = record {
  counted : min (l.count + length l.self) 18446744073709551615 ≡ min (length l.fn.self) 18446744073709551615;
  within : l.count ≤ 18446744073709551615;
}

abbrev pub decreases-loop-count : goal.decreases-loop-count
decreases-loop-count g l = length l.self
