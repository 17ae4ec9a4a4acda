use Rattle.std.proofs.Common.{◌∙◌, ap, sym}
use Rattle.query_eval.specs.TraitTests.{goes_through}
use Rattle.query_eval.proofs.TraitLaws.{stand_in_none}
use Rattle.query_eval.proofs.traits.stand_in_path.Goals as goal

pub returns-in-None : goal.returns-in-None
returns-in-None c = c.is_empty.ensures ∙ sym (ap (goes_through c.args.numbers.now) c.in-None.is ∙ stand_in_none c.args.numbers.now)
