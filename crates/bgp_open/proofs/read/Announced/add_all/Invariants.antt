use Rattle.std.proofs.Common.{length}
use Rattle.bgp_open.proofs.Reading.{ReadsCapabilities}
use Rattle.bgp_open.proofs.read.Announced.add_all.Given as goal

abbrev pub invariant-loop-rest : goal.invariant-loop-rest
invariant-loop-rest l = ReadsCapabilities l.value l.rest l.initial.self l.self

abbrev pub decreases-loop-rest : goal.decreases-loop-rest
decreases-loop-rest l = length l.rest
