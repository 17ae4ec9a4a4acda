use Rattle.std.proofs.Common.{length}
use Rattle.bench.proofs.frames.drain.Given as goal

abbrev pub decreases-loop-kind : goal.decreases-loop-kind
decreases-loop-kind l = length l.cutter.pending
