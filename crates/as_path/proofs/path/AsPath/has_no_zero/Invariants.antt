use Rattle.std.proofs.Common.{length}
use Rattle.as_path.proofs.Passing.{PassesSegments}
use Rattle.as_path.proofs.path.AsPath.has_no_zero.Given as goal

abbrev pub invariant-loop-count : goal.invariant-loop-count
invariant-loop-count l = PassesSegments l.width l.value l.rest

abbrev pub decreases-loop-count : goal.decreases-loop-count
decreases-loop-count l = length l.rest
