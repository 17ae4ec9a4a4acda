use Rattle.ask_specs.proofs.CountsAdd.{counts_add_up}
use Rattle.ask_specs.proofs.laws.marks_add_up.Goals as goal

pub returns : goal.returns
returns c = λ select lanes counts rows own are all. counts_add_up select lanes counts rows own are all
