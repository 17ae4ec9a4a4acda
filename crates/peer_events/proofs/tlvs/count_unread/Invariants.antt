use Rattle.std.proofs.Common.{length, not}
use Rattle.peer_events.proofs.Reading.{HasCount}
use Rattle.peer_events.specs.Known.{is_known_in}
use Rattle.peer_events.proofs.tlvs.count_unread.Given as goal

abbrev pub invariant-loop-tlv : goal.invariant-loop-tlv
invariant-loop-tlv l = HasCount (λ t. not (is_known_in l.carrier t)) l.bytes l.rest l.unread

abbrev pub decreases-loop-tlv : goal.decreases-loop-tlv
decreases-loop-tlv l = length l.rest
