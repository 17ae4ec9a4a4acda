use Rattle.std.proofs.Common.{length}
use Rattle.bench.proofs.lane.listed.Given as goal

abbrev pub decreases-loop-nlri : goal.decreases-loop-nlri
decreases-loop-nlri l = length l.walk
