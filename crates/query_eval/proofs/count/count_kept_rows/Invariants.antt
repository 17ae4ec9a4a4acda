use Rattle.query_lang.specs.TraitValues.{traits_value}
use Rattle.std.proofs.Common.{◌≡◌, ◌+◌, length}
use Rattle.bmp_specs.specs.Reply.{told_count}
use Rattle.query_eval.specs.declared.run.Part.TheVariants.{Whole}
use Rattle.query_eval.specs.Rows.{asked_rows, asks_run, kept, lane_rows}
use Rattle.query_eval.specs.RowTables.{left_of}
use Rattle.query_eval.proofs.count.count_kept_rows.Given as goal

abbrev pub invariant-loop-table : goal.invariant-loop-table
invariant-loop-table l = record {
  counted : told_count (l.count + length (asked_rows (kept (traits_value l.traits) (asks_run (record { family = l.family; part = Whole }))) (left_of l.asked))) ≡ told_count (length (lane_rows (kept (traits_value l.traits) (asks_run (record { family = l.family; part = Whole }))) l.select l.lane l.tables));
  within : told_count l.count ≡ l.count;
}

abbrev pub decreases-loop-table : goal.decreases-loop-table
decreases-loop-table l = length (left_of l.asked)
