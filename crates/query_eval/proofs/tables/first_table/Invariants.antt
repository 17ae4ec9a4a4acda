use Rattle.std.proofs.Common.{◌≡◌, length}
use Rattle.query_eval.specs.RowTables.{tables_from, views_from}
use Rattle.query_eval.proofs.tables.first_table.Given as goal

abbrev pub invariant-loop-at : goal.invariant-loop-at
invariant-loop-at l = tables_from l.tables.tables l.named l.key l.fn.from ≡ tables_from l.tables.tables l.named l.key l.at

abbrev pub decreases-loop-at : goal.decreases-loop-at
decreases-loop-at l = length (views_from l.at)
