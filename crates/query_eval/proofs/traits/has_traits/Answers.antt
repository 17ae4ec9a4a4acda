use Rattle.query_lang.specs.TraitValues.{traits_value}
use Rattle.std.proofs.lemmas.Bool.Decides.{Decides-at}
use Rattle.query_eval.specs.TraitTests.{has_traits}
use Rattle.query_eval.proofs.TraitLaws.{traits_decide}
use Rattle.query_eval.proofs.traits.has_traits.Goals as goal

pub returns : goal.returns
returns c = Decides-at c.passes.result (has_traits (traits_value c.args.traits.now) c.args.attrs.now) c.passes.ensures (traits_decide (traits_value c.args.traits.now) c.args.attrs.now)
