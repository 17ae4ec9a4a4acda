use Rattle.std.proofs.Common.{length}
use Rattle.peer_events.proofs.Reading.{HasSome}
use Rattle.peer_events.proofs.tlvs.are_tlvs.Given as goal

abbrev pub invariant-loop-rest : goal.invariant-loop-rest
invariant-loop-rest l = HasSome l.bytes l.rest

abbrev pub decreases-loop-rest : goal.decreases-loop-rest
decreases-loop-rest l = length l.rest
