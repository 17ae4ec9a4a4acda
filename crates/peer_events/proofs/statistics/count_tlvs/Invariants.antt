use Rattle.std.proofs.Common.{length}
use Rattle.peer_events.proofs.Reading.{HasLength}
use Rattle.peer_events.proofs.statistics.count_tlvs.Given as goal

abbrev pub invariant-loop-tlv : goal.invariant-loop-tlv
invariant-loop-tlv l = HasLength l.bytes l.rest l.count

abbrev pub decreases-loop-tlv : goal.decreases-loop-tlv
decreases-loop-tlv l = length l.rest
