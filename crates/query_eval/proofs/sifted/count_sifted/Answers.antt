use Rattle.query_lang.specs.TraitValues.{traits_value}
use Rattle.std.proofs.Common.{length, ap, sym, ◌∙◌}
use Rattle.std.proofs.lemmas.List.{length-map}
use Rattle.bmp_specs.specs.Reply.{told_count}
use Rattle.query_eval.specs.Rows.{row_of}
use Rattle.query_eval.proofs.KeptPairs.{sift_told}
use Rattle.query_eval.proofs.sifted.count_sifted.Goals as goal

pub returns : goal.returns
returns c =
    let told = sift_told c.args.family (traits_value c.args.traits.now) c.args.table.now.table.now c.sift.result c.see_order.ensures.ordered c.sift.ensures in
    c.count.ensures ∙ ap told_count (ap length told ∙ sym (length-map _ (row_of c.args.table.now.key c.args.table.now.view)))
