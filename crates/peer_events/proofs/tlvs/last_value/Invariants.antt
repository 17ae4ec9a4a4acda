use Rattle.std.proofs.Common.{length}
use Rattle.std.specs.Option.{option_copied}
use Rattle.peer_events.proofs.Reading.{HasLast}
use Rattle.peer_events.proofs.tlvs.last_value.Given as goal

abbrev pub invariant-loop-tlv : goal.invariant-loop-tlv
invariant-loop-tlv l = HasLast l.kind l.bytes l.rest (option_copied l.found)

abbrev pub decreases-loop-tlv : goal.decreases-loop-tlv
decreases-loop-tlv l = length l.rest
