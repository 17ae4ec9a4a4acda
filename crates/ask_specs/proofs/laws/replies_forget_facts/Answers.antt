use Rattle.ask_specs.proofs.ForgetsFacts.{forgets_facts}
use Rattle.ask_specs.proofs.laws.replies_forget_facts.Goals as goal

pub returns : goal.returns
returns c = λ ask other lanes bytes. forgets_facts ask other lanes bytes
