use Rattle.std.proofs.Common.{◌≡◌, length, take}
use Rattle.query_eval.specs.RowRuns.{AreFound}
use Rattle.query_eval.proofs.batch.look_ahead.Given as goal

abbrev pub invariant-loop-at : goal.invariant-loop-at
invariant-loop-at g l = record {
  wide : length l.found ≡ 16;
  are : AreFound (g.L.TellsTable.finds l.lines) (take l.at l.routes) l.found;
}
