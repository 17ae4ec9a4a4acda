use Rattle.std.proofs.Common.{◌≡◌, ◌≤◌, ◌+◌, ◌-◌, ◌++◌, length, take}
use Rattle.query_eval.specs.RowRuns.{shown_all}
use Rattle.relay_out.proofs.rows.gather.Given as goal

abbrev pub invariant-loop-count : goal.invariant-loop-count
invariant-loop-count l = record {
  rows : l.fn.walk ≡ shown_all (take l.count l.nlris) (take l.count l.routes) ++ l.walk;
  within : l.count ≤ 16;
  fewer : length l.walk + l.count ≤ length l.fn.walk;
}

abbrev pub decreases-loop-count : goal.decreases-loop-count
decreases-loop-count l = 16 - l.count
