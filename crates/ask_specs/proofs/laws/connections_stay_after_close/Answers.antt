use Rattle.ask_specs.proofs.LastOne.{stays_after_close}
use Rattle.ask_specs.proofs.laws.connections_stay_after_close.Goals as goal

pub returns : goal.returns
returns c = λ entries closing last is_live is_last. stays_after_close entries closing last is_live is_last
