use Rattle.std.proofs.Common.{suc, take, drop, Ok, add-one, arith}
use Rattle.bmp_specs.specs.EscapedText.{escaped_byte, escaped_text}
use Rattle.reply_text.proofs.Pieces.{flat_map_next, flat_map_split}
use Rattle.wire_io.proofs.Joins.{join, join_failed, writes_none}
use Rattle.reply_text.proofs.escaped.put_escaped.Goals as goal

pub loop-byte-init : goal.loop-byte-init
loop-byte-init g c = writes_none c.args.out.now

pub returns-in_err-put_escaped_byte : goal.returns-in_err-put_escaped_byte
returns-in_err-put_escaped_byte g c = join_failed c.args.out.now c.loop-byte.out c.put_escaped_byte.new.out (escaped_text (take c.loop-byte.byte-index c.args.bytes.now)) _ (escaped_text (drop (suc c.loop-byte.byte-index) c.args.bytes.now)) (escaped_text c.args.bytes.now) _ c.from_residual.result
    c.loop-byte.invariant c.in_err-put_escaped_byte.ensures c.from_residual.ensures.0 (flat_map_split escaped_byte c.args.bytes.now c.loop-byte.byte-index _ (omega arith))

pub loop-byte-preserved : goal.loop-byte-preserved
loop-byte-preserved g c = join c.args.out.now c.loop-byte.out c.put_escaped_byte.new.out (escaped_text (take c.loop-byte.byte-index c.args.bytes.now)) _ _ tt (Ok tt) c.loop-byte.invariant c.in_ok-put_escaped_byte.ensures
    (rw add-one (flat_map_next escaped_byte c.args.bytes.now c.loop-byte.byte-index _ (omega arith)))
