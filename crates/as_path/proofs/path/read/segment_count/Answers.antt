use Rattle.std.proofs.Common.{◌≡◌, ◌<◌, length, rules}
use Rattle.as_path.proofs.Judging.{segments_first, segments_more, segments_stuck, segments_end}
use Rattle.as_path.proofs.path.read.segment_count.Goals as goal

pub loop-rest-init : goal.loop-rest-init
loop-rest-init c = segments_first _ _

pub loop-rest-preserved : goal.loop-rest-preserved
loop-rest-preserved c =
    segments_more _ _ _ _ _ _ _ _ _ c.loop-rest.invariant c.in-Some.ensures.found c.split_at.ensures.back c.width_bytes.ensures c.split_at-in-loop-rest.ensures.back

pub returns-in_default-clause-none : goal.returns-in_default-clause-none
returns-in_default-clause-none c =
    let some : 0 < length c.loop-rest.rest.now = search rules in
    segments_stuck _ _ _ _ c.loop-rest.invariant some c.in_default.ensures.none

pub returns-clause-some : goal.returns-clause-some
returns-clause-some c =
    let none : length c.loop-rest.rest.now ≡ 0 = search rules in
    segments_end _ _ _ _ c.loop-rest.invariant none
