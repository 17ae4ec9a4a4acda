use Rattle.path_attrs.proofs.Framing.{no_reach, no_unreach}
use Rattle.path_attrs.proofs.frame.frame_attrs.Goals as goal

pub returns-in_default-slice_reach-clause-none : goal.returns-in_default-slice_reach-clause-none
returns-in_default-slice_reach-clause-none c = no_reach _ _ c.in-Some.ensures.some c.in_default-slice_reach.ensures.broken

pub returns-in_default-slice_unreach-clause-none : goal.returns-in_default-slice_unreach-clause-none
returns-in_default-slice_unreach-clause-none c = no_unreach _ _ c.in-Some.ensures.some c.in_default-slice_unreach.ensures.broken
