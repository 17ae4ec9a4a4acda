use Rattle.std.proofs.Common.{◌≡◌, ◌-◌, ◌<◌, ◌≤◌, length, take}
use Rattle.recent_ring.specs.Recent.{joined}
use Rattle.recent_ring.proofs.pieces.from_the_last.Given as goal

abbrev pub invariant-loop-first : goal.invariant-loop-first
invariant-loop-first g l = record {
  within : l.first ≤ length l.pieces;
  below : l.left < length (joined (take l.first l.pieces));
  place : length (joined (take l.first l.pieces)) - 1 - l.left ≡ length (joined l.pieces) - 1 - l.back;
}

abbrev pub decreases-loop-first : goal.decreases-loop-first
decreases-loop-first g l = l.first
