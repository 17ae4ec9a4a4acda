use Rattle.std.proofs.Common.{take, Ok}
use Rattle.wire_io.specs.Writes.{Writes, joined}
use Rattle.wire_io.proofs.sink.write_pieces.Given as goal

abbrev pub invariant-loop-piece : goal.invariant-loop-piece
invariant-loop-piece g l = Writes g.O.Sink.faults g.O.Sink.told g.O.Sink.aside l.fn.out (joined (take l.piece-index l.pieces)) (Ok tt) l.out
