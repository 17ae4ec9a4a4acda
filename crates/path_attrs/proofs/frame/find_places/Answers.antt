use Rattle.std.proofs.Common.{◌≡◌, ◌<◌, length, refl, rules}
use Rattle.path_attrs.proofs.Framing.{frames_end, frames_first, frames_more, frames_stuck, frames_twice}
use Rattle.path_attrs.proofs.frame.find_places.Goals as goal

pub loop-rest-init : goal.loop-rest-init
loop-rest-init c = frames_first _ _ refl refl refl

pub returns-in_default-clause-none : goal.returns-in_default-clause-none
returns-in_default-clause-none c =
    let some : 0 < length c.loop-rest.rest.now = search rules in
    frames_stuck _ _ _ c.loop-rest.invariant some c.in_default.ensures.none

pub returns-in_default-with_part-clause-none : goal.returns-in_default-with_part-clause-none
returns-in_default-with_part-clause-none c = frames_twice _ _ _ _ c.in-Some.part c.loop-rest.invariant c.in-Some.ensures.found c.in_default-with_part.ensures.none

pub loop-rest-preserved : goal.loop-rest-preserved
loop-rest-preserved c = frames_more _ _ _ _ _ c.in-Some.part c.loop-rest.invariant c.in-Some.ensures.found c.in-Some-with_part.ensures.some

pub returns-clause-some : goal.returns-clause-some
returns-clause-some c =
    let none : length c.loop-rest.rest.now ≡ 0 = search rules in
    frames_end _ _ _ c.loop-rest.invariant none
