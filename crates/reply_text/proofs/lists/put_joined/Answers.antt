use Rattle.std.proofs.Common.{◌-◌, length, map, take, drop}
use Rattle.bmp_specs.specs.NumberText.{number_text}
use Rattle.reply_text.specs.Pieces.{behind}
use Rattle.reply_text.proofs.Pieces.{join_first}
use Rattle.wire_io.proofs.Joins.{join, more}
use Rattle.reply_text.proofs.lists.put_joined.Goals as goal

pub returns-in_err-put_number-in-len1-up : goal.returns-in_err-put_number-in-len1-up
returns-in_err-put_number-in-len1-up g c =
    let numbers = c.args.numbers.now in
    more _ _ _ (behind c.args.mark (map number_text (take (length numbers - 1) (drop 1 numbers)))) _ _ _ c.in_err-put_number-in-len1-up.ensures c.from_residual.ensures.0 (join_first c.args.mark number_text numbers 0 c.in-len1-up.len_at_least)

pub returns-in_ok-put_number-in-len1-up : goal.returns-in_ok-put_number-in-len1-up
returns-in_ok-put_number-in-len1-up g c = join _ _ _ _ _ _ _ _ c.in_ok-put_number-in-len1-up.ensures c.put_behind.ensures (join_first c.args.mark number_text c.args.numbers.now 0 c.in-len1-up.len_at_least)
