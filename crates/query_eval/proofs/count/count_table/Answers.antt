use Rattle.std.proofs.Common.{ap, ◌∙◌}
use Rattle.bmp_specs.specs.Reply.{told_count}
use Rattle.query_lang.specs.TraitValues.{traits_value}
use Rattle.query_eval.specs.RowTables.{table_value}
use Rattle.query_eval.proofs.KeptPairs.{family_asked, whole_asked}
use Rattle.query_eval.proofs.count.count_table.Goals as goal

pub returns-in-Some : goal.returns-in-Some
returns-in-Some c =
    c.count_family.ensures ∙ ap told_count (family_asked c.in-Some.family c.args.family (traits_value c.args.traits.now) (table_value c.args.table.now) c.in-Some.is (c.asks_nothing.ensures.0 c.if-asks_nothing.true))

pub returns-in-None : goal.returns-in-None
returns-in-None c =
    c.count_all.ensures ∙ ap told_count (whole_asked c.args.family (traits_value c.args.traits.now) (table_value c.args.table.now) c.in-None.is (c.asks_nothing.ensures.0 c.if-asks_nothing.true))
