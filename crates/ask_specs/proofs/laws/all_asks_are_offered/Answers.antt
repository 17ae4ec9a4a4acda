use Rattle.ask_specs.proofs.OfferLaws.{offers_all}
use Rattle.ask_specs.proofs.laws.all_asks_are_offered.Goals as goal

pub returns : goal.returns
returns c = λ line ask. offers_all line ask
