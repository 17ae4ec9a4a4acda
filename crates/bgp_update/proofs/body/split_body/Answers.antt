use Rattle.bgp_update.proofs.Fields.{no_withdrawn, no_attributes}
use Rattle.bgp_update.proofs.body.split_body.Goals as goal

pub returns-in_default-clause-none : goal.returns-in_default-clause-none
returns-in_default-clause-none c = no_withdrawn _ c.in_default.ensures.none

pub returns-in_default-split_counted-clause-none : goal.returns-in_default-split_counted-clause-none
returns-in_default-split_counted-clause-none c = no_attributes _ _ _ c.in-Some.ensures.found c.in_default-split_counted.ensures.none
