use Rattle.ask_session.proofs.CopyLaws.{turns_tell}
use Rattle.ask_session.proofs.laws.turns_tell.Goals as goal

pub returns : goal.returns
returns c = λ lanes lane history turn copy ask here on ok short offered asks. turns_tell lanes lane history turn copy ask here on ok short offered asks
