use Rattle.std.proofs.Common.{◌≡◌, ◌<◌, length, rules}
use Rattle.bgp_update.proofs.Counting.{counts_first, counts_more, counts_stuck, counts_end}
use Rattle.bgp_update.proofs.sizes.item_count.Goals as goal

pub loop-rest-init : goal.loop-rest-init
loop-rest-init c = counts_first _ _ _

pub loop-rest-preserved : goal.loop-rest-preserved
loop-rest-preserved c =
    counts_more _ _ _ _ _ _ _ c.loop-rest.invariant c.in-Some.ensures.found c.in-Some.ensures.some c.in-Some.ensures.within c.split_at.ensures.back

pub returns-in_default-clause-none : goal.returns-in_default-clause-none
returns-in_default-clause-none c =
    let some : 0 < length c.loop-rest.rest.now = search rules in
    counts_stuck _ _ _ _ _ c.loop-rest.invariant some c.in_default.ensures.none

pub returns-clause-some : goal.returns-clause-some
returns-clause-some c =
    let none : length c.loop-rest.rest.now ≡ 0 = search rules in
    counts_end _ _ _ _ _ c.loop-rest.invariant none
