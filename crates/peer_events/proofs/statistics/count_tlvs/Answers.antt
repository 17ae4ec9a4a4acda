use Rattle.peer_events.proofs.Reading.{length_more, length_end}
use Rattle.peer_events.proofs.statistics.count_tlvs.Goals as goal

pub loop-tlv-preserved : goal.loop-tlv-preserved
loop-tlv-preserved c = length_more _ _ _ _ _ c.loop-tlv.invariant c.in-Some.ensures.found c.in-Some.ensures.shorter

pub returns : goal.returns
returns c ts are = length_end _ _ _ c.loop-tlv.invariant c.in_default.ensures.none ts are
