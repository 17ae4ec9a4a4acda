use Rattle.ask_specs.proofs.OfferLaws.{offers_plain}
use Rattle.ask_specs.proofs.laws.offered_lines_keep_their_meaning.Goals as goal

pub returns : goal.returns
returns c = λ line query ask is. offers_plain line query ask is
