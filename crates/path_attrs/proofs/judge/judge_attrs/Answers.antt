use Rattle.path_attrs.proofs.Judging.{judged_are, reach_broken, unreach_broken}
use Rattle.path_attrs.proofs.judge.judge_attrs.Goals as goal

pub returns-in_default-slice_reach-clause-none : goal.returns-in_default-slice_reach-clause-none
returns-in_default-slice_reach-clause-none c = reach_broken _ _ _ _ _ c.in-Some.ensures.some c.in_default-slice_reach.ensures.broken

pub returns-in_default-slice_unreach-clause-none : goal.returns-in_default-slice_unreach-clause-none
returns-in_default-slice_unreach-clause-none c = unreach_broken _ _ _ _ _ c.in-Some.ensures.some c.in_default-slice_unreach.ensures.broken

pub returns-clause-some : goal.returns-clause-some
returns-clause-some c = judged_are _ _ _ _ _ c.in-Some.ensures.some c.in-Ok.ensures.ok c.in-Ok-slice_unreach.ensures.ok
