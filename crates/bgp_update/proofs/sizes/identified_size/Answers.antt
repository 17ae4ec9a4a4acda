use Rattle.bgp_update.proofs.Counting.{identified_stands}
use Rattle.bgp_update.proofs.Reading.{identified_none}
use Rattle.bgp_update.proofs.sizes.identified_size.Goals as goal

pub returns-in-Some-clause-found : goal.returns-in-Some-clause-found
returns-in-Some-clause-found c = identified_stands _ _ _ _ c.if-input-lt-PATH_IDENTIFIER.false c.split_at.ensures.back c.in-Some.ensures.found

pub returns-in-None-clause-none : goal.returns-in-None-clause-none
returns-in-None-clause-none c = identified_none _ _ _ c.split_at.ensures.back c.in-None.ensures.none
