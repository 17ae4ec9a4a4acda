use Rattle.std.proofs.Common.{◌≡◌, replicate}
use Rattle.std.specs.Arc.{arc_value}
use Rattle.cut_publisher.proofs.cut.Cut.first.Given as goal

abbrev pub invariant-loop-lane : goal.invariant-loop-lane
invariant-loop-lane g l = l.items.items ≡ replicate l._lane (arc_value l.first, 0)
