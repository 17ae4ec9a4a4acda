use Rattle.std.proofs.Common.{◌≡◌, ◌<◌, length, rules}
use Rattle.bgp_open.proofs.Reading.{capabilities_more, capabilities_stuck, capabilities_end}
use Rattle.bgp_open.proofs.read.Announced.add_all.Goals as goal

pub returns-in_default-clause-broken : goal.returns-in_default-clause-broken
returns-in_default-clause-broken c _ =
    let some : 0 < length c.loop-rest.rest.now = search rules in
    capabilities_stuck _ _ _ _ c.loop-rest.invariant some c.in_default.ensures.none

pub loop-rest-preserved : goal.loop-rest-preserved
loop-rest-preserved c = capabilities_more _ _ _ _ _ _ _ c.loop-rest.invariant c.in-Some.ensures.found c.in_ok-add.ensures

pub returns-clause-ok : goal.returns-clause-ok
returns-clause-ok c =
    let none : length c.loop-rest.rest.now ≡ 0 = search rules in
    capabilities_end _ _ _ _ c.loop-rest.invariant none
