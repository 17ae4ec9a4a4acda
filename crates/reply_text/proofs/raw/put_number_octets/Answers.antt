use Rattle.std.proofs.Common.{◌≡◌, suc, take, drop, get_or, ap, Ok, add-one, arith}
use Rattle.std.specs.Prelude.{flat_map}
use Rattle.bmp_specs.specs.PeerText.{hex_text}
use Rattle.byteorder.specs.Endian.{big_bytes}
use Rattle.reply_text.proofs.Pieces.{flat_map_next, flat_map_split}
use Rattle.wire_io.proofs.Joins.{join, join_failed, writes_none}
use Rattle.reply_text.proofs.raw.put_number_octets.Goals as goal

pub loop-number-init : goal.loop-number-init
loop-number-init g c = writes_none c.args.out.now

pub returns-in_err-put_hex : goal.returns-in_err-put_hex
returns-in_err-put_hex g c =
    join_failed c.args.out.now c.loop-number.out c.put_hex.new.out (flat_map (λ number. hex_text (big_bytes 4 number)) (take c.loop-number.number-index c.args.numbers.now)) _ (flat_map (λ number. hex_text (big_bytes 4 number)) (drop (suc c.loop-number.number-index) c.args.numbers.now)) (flat_map (λ number. hex_text (big_bytes 4 number)) c.args.numbers.now) _ c.from_residual.result
    c.loop-number.invariant (rw c.to_be_bytes.ensures at c.in_err-put_hex.ensures) c.from_residual.ensures.0 (flat_map_split (λ number. hex_text (big_bytes 4 number)) c.args.numbers.now c.loop-number.number-index _ (omega arith))

pub loop-number-preserved : goal.loop-number-preserved
loop-number-preserved g c =
    join c.args.out.now c.loop-number.out c.put_hex.new.out (flat_map (λ number. hex_text (big_bytes 4 number)) (take c.loop-number.number-index c.args.numbers.now)) _ _ tt (Ok tt) c.loop-number.invariant (rw c.to_be_bytes.ensures at c.in_ok-put_hex.ensures)
    (rw add-one (flat_map_next (λ number. hex_text (big_bytes 4 number)) c.args.numbers.now c.loop-number.number-index _ (omega arith)))
