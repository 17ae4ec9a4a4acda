use Rattle.std.proofs.lemmas.Option.{IfSome_then}
use Rattle.bgp_update.proofs.Counting.{bare_none_stands, bare_stands}
use Rattle.bgp_update.proofs.sizes.item_size.Goals as goal

pub returns-in-false-clause-found : goal.returns-in-false-clause-found
returns-in-false-clause-found c = rw c.in-false.is (IfSome_then c.wire_size.result c.wire_size.ensures.found (λ size stands. bare_stands _ _ size stands))

pub returns-in-false-clause-none : goal.returns-in-false-clause-none
returns-in-false-clause-none c = rw c.in-false.is (bare_none_stands _ _ _ c.wire_size.ensures.none)

pub returns-in-true-clause-found : goal.returns-in-true-clause-found
returns-in-true-clause-found c = rw c.in-true.is c.identified_size.ensures.found

pub returns-in-true-clause-none : goal.returns-in-true-clause-none
returns-in-true-clause-none c = rw c.in-true.is c.identified_size.ensures.none
