use Rattle.ask_session.proofs.CopyLaws.{copies_stay}
use Rattle.ask_session.proofs.laws.copies_stay.Goals as goal

pub returns : goal.returns
returns c = λ lanes lane history first second copy kept told one two le ok exact tells keeps. copies_stay lanes lane history first second copy kept told one two le ok exact tells keeps
