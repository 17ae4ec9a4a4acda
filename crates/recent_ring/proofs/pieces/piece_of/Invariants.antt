use Rattle.std.proofs.Common.{take}
use Rattle.std.specs.List.{AllZip}
use Rattle.recent_ring.proofs.pieces.piece_of.Given as goal

abbrev pub invariant-loop-place : goal.invariant-loop-place
invariant-loop-place g l = AllZip g.T.Keep.alike (take l.place l.items.items) l.piece.items
