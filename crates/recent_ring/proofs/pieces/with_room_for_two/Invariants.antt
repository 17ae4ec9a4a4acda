use Rattle.std.proofs.Common.{◌≡◌, take}
use Rattle.recent_ring.specs.Recent.{joined}
use Rattle.recent_ring.proofs.pieces.with_room_for_two.Given as goal

abbrev pub invariant-loop-piece : goal.invariant-loop-piece
invariant-loop-piece g l = joined l.list.items ≡ joined (take l.piece-index l.pieces)
