use Rattle.ask_specs.proofs.FullMarkLaws.{counts_once}
use Rattle.ask_specs.proofs.laws.marks_count_once.Goals as goal

pub returns : goal.returns
returns c = λ entries a b p q same. counts_once entries a b p q same
