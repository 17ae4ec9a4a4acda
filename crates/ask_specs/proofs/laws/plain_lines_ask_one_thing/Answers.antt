use Rattle.ask_specs.proofs.QueryOne.{asks_one_query}
use Rattle.ask_specs.proofs.laws.plain_lines_ask_one_thing.Goals as goal

pub returns : goal.returns
returns c = λ line a b p q. asks_one_query line a b p q
