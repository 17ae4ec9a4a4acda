use Rattle.std.proofs.Common.{suc, map, take, drop, Ok, add-one, arith}
use Rattle.bmp_specs.specs.NumberText.{number_text}
use Rattle.reply_text.specs.Pieces.{behind}
use Rattle.reply_text.proofs.Pieces.{behind_next, behind_split}
use Rattle.wire_io.proofs.Joins.{join, join_failed, writes_none}
use Rattle.reply_text.proofs.lists.put_behind.Goals as goal

pub loop-number-init : goal.loop-number-init
loop-number-init g c = writes_none c.args.out.now

pub returns-in_err-put_number : goal.returns-in_err-put_number
returns-in_err-put_number g c = join_failed c.args.out.now c.loop-number.out c.put_number.new.out (behind c.args.mark (map number_text (take c.loop-number.number-index c.args.numbers.now))) _ (behind c.args.mark (map number_text (drop (suc c.loop-number.number-index) c.args.numbers.now))) (behind c.args.mark (map number_text c.args.numbers.now)) _ c.from_residual.result
    c.loop-number.invariant c.in_err-put_number.ensures c.from_residual.ensures.0 (behind_split c.args.mark number_text c.args.numbers.now c.loop-number.number-index _ (omega arith))

pub loop-number-preserved : goal.loop-number-preserved
loop-number-preserved g c = join c.args.out.now c.loop-number.out c.put_number.new.out (behind c.args.mark (map number_text (take c.loop-number.number-index c.args.numbers.now))) _ _ tt (Ok tt) c.loop-number.invariant c.in_ok-put_number.ensures
    (rw add-one (behind_next c.args.mark number_text c.args.numbers.now c.loop-number.number-index _ (omega arith)))
