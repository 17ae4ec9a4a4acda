use Rattle.ask_session.proofs.Later.{dialogue_later}
use Rattle.ask_session.proofs.laws.replies_stay.Goals as goal

pub returns : goal.returns
returns c = λ lanes close ended seen history least bytes text later d. dialogue_later lanes close ended seen history least bytes text later d
