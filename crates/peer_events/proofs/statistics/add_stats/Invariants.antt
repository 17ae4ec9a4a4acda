use Rattle.std.proofs.Common.{length}
use Rattle.peer_events.proofs.Reading.{HasStats}
use Rattle.peer_events.proofs.statistics.add_stats.Given as goal

abbrev pub invariant-loop-tlv : goal.invariant-loop-tlv
invariant-loop-tlv l = HasStats l.bytes l.rest l.initial.stats l.stats l.unread

abbrev pub decreases-loop-tlv : goal.decreases-loop-tlv
decreases-loop-tlv l = length l.rest
