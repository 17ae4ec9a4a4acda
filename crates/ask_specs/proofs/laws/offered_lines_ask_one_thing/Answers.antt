use Rattle.ask_specs.proofs.OfferLaws.{offers_one}
use Rattle.ask_specs.proofs.laws.offered_lines_ask_one_thing.Goals as goal

pub returns : goal.returns
returns c = λ line a b p q. offers_one line a b p q
