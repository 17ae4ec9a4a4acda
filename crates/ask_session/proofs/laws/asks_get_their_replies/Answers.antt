use Rattle.ask_session.proofs.TurnLaws.{get_replies}
use Rattle.ask_session.proofs.laws.asks_get_their_replies.Goals as goal

pub returns : goal.returns
returns c = λ lanes history turn ask on is few other. get_replies lanes history turn ask on is few other
