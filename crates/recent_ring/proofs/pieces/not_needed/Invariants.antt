use Rattle.std.proofs.Common.{◌≡◌, ◌-◌, ◌≤◌, drop, length}
use Rattle.recent_ring.specs.Recent.{joined}
use Rattle.recent_ring.proofs.pieces.not_needed.Given as goal

abbrev pub invariant-loop-first : goal.invariant-loop-first
invariant-loop-first g l = record {
  within : l.first ≤ length l.pieces;
  left : l.left ≡ l.items - length (joined (drop l.first l.pieces));
}

abbrev pub decreases-loop-first : goal.decreases-loop-first
decreases-loop-first g l = l.first
