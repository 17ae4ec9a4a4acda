use Rattle.ask_session.proofs.TurnLaws.{keep_replies}
use Rattle.ask_session.proofs.laws.queries_keep_their_replies.Goals as goal

pub returns : goal.returns
returns c = λ lanes history turn query on is few other. keep_replies lanes history turn query on is few other
