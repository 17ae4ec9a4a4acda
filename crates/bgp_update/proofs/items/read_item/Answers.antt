use Rattle.bgp_update.proofs.items.read_item.Goals as goal

pub returns-in-true-clause-none : goal.returns-in-true-clause-none
returns-in-true-clause-none c = rw c.in-true.is c.read_identified.ensures.none

pub returns-in-false-clause-none : goal.returns-in-false-clause-none
returns-in-false-clause-none c = rw c.in-false.is c.read_bare.ensures.none
