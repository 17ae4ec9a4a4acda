use Rattle.std.proofs.Common.{suc, take, drop, Ok, add-one, arith}
use Rattle.wire_io.specs.Writes.{joined}
use Rattle.wire_io.proofs.Joins.{join, join_failed, joined_more, joined_split, writes_none}
use Rattle.wire_io.proofs.sink.write_pieces.Goals as goal

pub loop-piece-init : goal.loop-piece-init
loop-piece-init g c = writes_none c.args.out.now

pub returns-in_err-write_all : goal.returns-in_err-write_all
returns-in_err-write_all g c = join_failed c.args.out.now c.loop-piece.out c.write_all.new.out (joined (take c.loop-piece.piece-index c.args.pieces.now)) _ (joined (drop (suc c.loop-piece.piece-index) c.args.pieces.now)) (joined c.args.pieces.now) _ c.from_residual.result
    c.loop-piece.invariant c.in_err-write_all.ensures c.from_residual.ensures.0 (joined_split c.args.pieces.now c.loop-piece.piece-index _ (omega arith))

pub loop-piece-preserved : goal.loop-piece-preserved
loop-piece-preserved g c = join c.args.out.now c.loop-piece.out c.write_all.new.out (joined (take c.loop-piece.piece-index c.args.pieces.now)) _ _ tt (Ok tt) c.loop-piece.invariant c.in_ok-write_all.ensures
    (rw add-one (joined_more c.args.pieces.now c.loop-piece.piece-index _ (omega arith)))
