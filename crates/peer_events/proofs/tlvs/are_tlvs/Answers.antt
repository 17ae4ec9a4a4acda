use Rattle.std.proofs.Common.{◌≡◌, ◌<◌, length, rules}
use Rattle.peer_events.proofs.Reading.{some_more, some_stuck, some_end}
use Rattle.peer_events.proofs.tlvs.are_tlvs.Goals as goal

pub loop-rest-preserved : goal.loop-rest-preserved
loop-rest-preserved c = some_more _ _ _ _ c.loop-rest.invariant c.in-Some.ensures.found

pub returns-in-None-clause-no : goal.returns-in-None-clause-no
returns-in-None-clause-no c ts are =
    let some : 0 < length c.loop-rest.rest.now = search rules in
    absurd (some_stuck _ _ c.loop-rest.invariant some c.in-None.ensures.none ts are)

pub returns-clause-yes : goal.returns-clause-yes
returns-clause-yes c _ =
    let none : length c.loop-rest.rest.now ≡ 0 = search rules in
    some_end _ _ c.loop-rest.invariant none
