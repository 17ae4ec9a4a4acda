use Rattle.bgp_update.proofs.Reading.{bare_none}
use Rattle.bgp_update.proofs.items.read_bare.Goals as goal

pub returns-in-None-clause-none : goal.returns-in-None-clause-none
returns-in-None-clause-none c = bare_none _ _ c.in-None.ensures.none
