use Rattle.ask_session.proofs.CopyLaws.{clients_keep}
use Rattle.ask_session.proofs.laws.clients_keep_copies.Goals as goal

pub returns : goal.returns
returns c = λ lanes lane close ended history least bytes text d at end copy kept front le ok exact m. clients_keep lanes lane close ended history least bytes text d at end copy kept front le ok exact m
