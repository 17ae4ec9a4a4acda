use Rattle.bgp_update.proofs.Framing.{no_frame}
use Rattle.bgp_update.proofs.frame.frame_update.Goals as goal

pub returns-in_default-clause-none : goal.returns-in_default-clause-none
returns-in_default-clause-none c f p = c.in_default.ensures.none (f.withdrawn_routes, (f.path_attributes, f.nlri)) p.fields

pub returns-in_default-frame_attrs-clause-none : goal.returns-in_default-frame_attrs-clause-none
returns-in_default-frame_attrs-clause-none c = no_frame _ _ _ _ c.in-Some.ensures.found c.in_default-frame_attrs.ensures.none
