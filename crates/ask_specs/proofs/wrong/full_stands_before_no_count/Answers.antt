use Rattle.ask_specs.proofs.WrongLaws.{full_count}
use Rattle.ask_specs.proofs.wrong.full_stands_before_no_count.Goals as goal

pub returns : goal.returns
returns c = λ ask is. full_count ask is
