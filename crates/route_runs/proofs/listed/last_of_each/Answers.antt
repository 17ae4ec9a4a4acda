use Rattle.std.proofs.Common.{sym, subst}
use Rattle.std.specs.List.Sorted.{IsStrictlySortedBy}
use Rattle.std.specs.Map.{keys_of}
use Rattle.route_runs.proofs.Listing.{value_reverse}
use Rattle.route_runs.proofs.listed.last_of_each.Goals as goal

pub returns-then-are_rising : goal.returns-then-are_rising
returns-then-are_rising g c =
    let ordered = subst (λ l. IsStrictlySortedBy g.K.Ord.cmp (keys_of l)) c.deref.ensures.value (c.are_rising.ensures c.if-are_rising.true) in
    record { ordered = ordered; values = λ q. sym (value_reverse g.K.Ord.cmp g.met.K.Ord.total g.met.K.RunKey.exact q c.args.rows.items ordered) }
