use Rattle.bgp_update.proofs.Reading.{identified_found, identified_none}
use Rattle.bgp_update.proofs.items.read_identified.Goals as goal

pub returns-in-Some-clause-found : goal.returns-in-Some-clause-found
returns-in-Some-clause-found c =
    identified_found _ _ _ _ _ _ _ c.split_at.ensures.front c.split_at.ensures.back c.split_at.ensures.front_len c.in-Some.ensures.found c.read_u32.ensures

pub returns-in-None-clause-none : goal.returns-in-None-clause-none
returns-in-None-clause-none c = identified_none _ _ _ c.split_at.ensures.back c.in-None.ensures.none
