use Rattle.std.proofs.Common.{length}
use Rattle.as_path.proofs.Judging.{HasSegments}
use Rattle.as_path.proofs.path.read.segment_count.Given as goal

abbrev pub invariant-loop-rest : goal.invariant-loop-rest
invariant-loop-rest l = HasSegments l.width l.bytes l.rest l.found

abbrev pub decreases-loop-rest : goal.decreases-loop-rest
decreases-loop-rest l = length l.rest
