use Rattle.query_lang.specs.TraitValues.{traits_value}
use Rattle.std.proofs.Common.{◌≡◌, List, Option, length, arith, ap, ◌∙◌}
use Rattle.bmp_specs.specs.declared.wire.Family.{Family}
use Rattle.bmp_specs.specs.Query.{count}
use Rattle.bmp_specs.specs.Reply.{told_count}
use Rattle.bmp_specs.specs.Selection.{SelectValue}
use Rattle.query_eval.specs.declared.run.Part.TheVariants.{Whole}
use Rattle.query_eval.specs.Rows.{Asking, asked_rows, asks_run, kept, lane_rows}
use Rattle.query_eval.specs.RowTables.{PeerTableValue, left_of}
use Rattle.query_eval.proofs.RowAnswers.{are_counted, counts_rows}
use Rattle.query_eval.proofs.count.count_kept_rows.Goals as goal

pub returns : goal.returns
returns c =
    let asking : Asking = kept (traits_value c.args.traits.now) (asks_run (record { family = c.select.inside.family; part = Whole })) in
    let none : length (asked_rows asking (left_of c.loop-table.asked)) ≡ 0 = ap (λ (ts : List PeerTableValue). length (asked_rows asking ts)) c.in_default.ensures in
    let counted : c.loop-table.count ≡ told_count (length (lane_rows asking c.args.select.now c.args.lane c.args.tables.now)) = omega (arith, none, c.loop-table.invariant.counted, c.loop-table.invariant.within) in
    let family = ap (λ (s : SelectValue). s.family) c.select.view_is in
    let rows = ap (λ (f : Option Family). told_count (length (lane_rows (kept (traits_value c.args.traits.now) (asks_run (record { family = f; part = Whole }))) c.args.select.now c.args.lane c.args.tables.now))) family in
    counts_rows (count c.args.select.now) (traits_value c.args.traits.now) c.args.lane c.args.tables.now _ (λ entries stands. are_counted c.args.select.now (traits_value c.args.traits.now) c.args.lane c.args.tables.now entries stands c.new-asked.ensures.ordered) c.loop-table.count (counted ∙ rows)
