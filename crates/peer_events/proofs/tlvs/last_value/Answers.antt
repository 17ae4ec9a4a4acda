use Rattle.peer_events.proofs.Reading.{last_more, last_end}
use Rattle.peer_events.proofs.tlvs.last_value.Goals as goal

pub loop-tlv-preserved : goal.loop-tlv-preserved
loop-tlv-preserved c = last_more _ _ _ _ _ _ _ c.loop-tlv.invariant c.in-Some.ensures.found c.later-found.ensures

pub returns : goal.returns
returns c ts are = last_end _ _ _ _ c.loop-tlv.invariant c.in_default.ensures.none ts are
