use Rattle.ask_session.proofs.GivenSessions.{serves_given}
use Rattle.ask_session.proofs.laws.links_tell_sessions.Goals as goal

pub returns : goal.returns
returns c = λ lanes sessions seen seen' aside aside' told told' writes writes' given p is. serves_given lanes sessions seen seen' aside aside' told told' writes writes' given p is
