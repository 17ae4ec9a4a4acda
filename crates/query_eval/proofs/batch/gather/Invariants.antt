use Rattle.std.proofs.Common.{◌≡◌, ◌≤◌, ◌+◌, ◌-◌, ◌++◌, length, take}
use Rattle.query_eval.specs.RowRuns.{front_of, shown_all}
use Rattle.query_eval.proofs.batch.gather.Given as goal

abbrev pub invariant-loop-count : goal.invariant-loop-count
invariant-loop-count g l = record {
  rows : front_of l.run (g.W.Pairs.left l.fn.walk) ≡ shown_all (take l.count l.nlris) (take l.count l.routes) ++ front_of l.run (g.W.Pairs.left l.walk);
  within : l.count ≤ 16;
  fewer : length (g.W.Pairs.left l.walk) + l.count ≤ length (g.W.Pairs.left l.fn.walk);
}

abbrev pub decreases-loop-count : goal.decreases-loop-count
decreases-loop-count g l = 16 - l.count
