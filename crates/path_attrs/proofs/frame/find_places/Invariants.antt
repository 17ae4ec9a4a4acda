use Rattle.std.proofs.Common.{length}
use Rattle.path_attrs.proofs.Framing.{Frames}
use Rattle.path_attrs.proofs.frame.find_places.Given as goal

abbrev pub invariant-loop-rest : goal.invariant-loop-rest
invariant-loop-rest l = Frames l.field l.rest l.places

abbrev pub decreases-loop-rest : goal.decreases-loop-rest
decreases-loop-rest l = length l.rest
