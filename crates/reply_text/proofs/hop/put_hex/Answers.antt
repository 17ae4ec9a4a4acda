use Rattle.std.proofs.Common.{suc, take, drop, Ok, add-one, arith}
use Rattle.bmp_specs.specs.PeerText.{hex_text}
use Rattle.reply_text.proofs.Pieces.{hex_next, hex_none, hex_split}
use Rattle.wire_io.proofs.Joins.{join, join_failed, writes_none}
use Rattle.reply_text.proofs.hop.put_hex.Goals as goal

pub loop-byte-init : goal.loop-byte-init
loop-byte-init g c = rw hex_none (writes_none c.args.out.now)

pub returns-in_err-write_all : goal.returns-in_err-write_all
returns-in_err-write_all g c = join_failed c.args.out.now c.loop-byte.out c.write_all.new.out (hex_text (take c.loop-byte.byte-index c.args.bytes.now)) _ (hex_text (drop (suc c.loop-byte.byte-index) c.args.bytes.now)) (hex_text c.args.bytes.now) _ c.from_residual.result
    c.loop-byte.invariant (rw c.digits_of.ensures at c.in_err-write_all.ensures) c.from_residual.ensures.0 (hex_split c.args.bytes.now c.loop-byte.byte-index _ (omega arith))

pub loop-byte-preserved : goal.loop-byte-preserved
loop-byte-preserved g c = join c.args.out.now c.loop-byte.out c.write_all.new.out (hex_text (take c.loop-byte.byte-index c.args.bytes.now)) _ _ tt (Ok tt) c.loop-byte.invariant (rw c.digits_of.ensures at c.in_ok-write_all.ensures)
    (rw add-one (hex_next c.args.bytes.now c.loop-byte.byte-index _ (omega arith)))
