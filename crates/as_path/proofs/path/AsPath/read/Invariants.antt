use Rattle.std.proofs.Common.{length}
use Rattle.bmp_specs.specs.AsPath.{IsSegment}
use Rattle.bmp_specs.proofs.PartsRead.{HasRead}
use Rattle.as_path.proofs.path.AsPath.read.Given as goal

abbrev pub invariant-loop-kind : goal.invariant-loop-kind
invariant-loop-kind l = HasRead (IsSegment l.width) l.value l.segments l.rest

abbrev pub decreases-loop-kind : goal.decreases-loop-kind
decreases-loop-kind l = length l.rest
