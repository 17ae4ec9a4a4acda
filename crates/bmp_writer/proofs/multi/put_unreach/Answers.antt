use Rattle.std.proofs.Common.{◌<◌, ◌≤◌, ◌+◌, length, arith}
use Rattle.std.proofs.lemmas.Result.{on_ok_weaker, on_err_weaker}
use Rattle.bmp_writer.proofs.Joining.{unreach_put}
use Rattle.bmp_writer.proofs.Still.{keeps_piece, keeps_then}
use Rattle.bmp_writer.proofs.Sizes.{some_items, listed_fits}
use Rattle.bmp_writer.specs.WrittenNlri.{nlris_size}
use Rattle.bmp_writer.proofs.multi.put_unreach.Goals as goal

pub returns-clause-ok : goal.returns-clause-ok
returns-clause-ok c =
    let some : 0 < length c.args.list.now = some_items c.args.list.now _ c.is_empty.ensures c.if-is_empty.false in
    let size = 3 + c.size_of_nlris.result in
    let fits : 3 + nlris_size c.args.list.now ≤ 65535 = listed_fits (3) nlris_size c.args.list.now 65535 some c.requires in
    on_ok_weaker c.put_unreach_value.result (unreach_put c.args.family c.args.list.now size c.args.out.now c.put_head.new.out c.put_unreach_value.new.out some (omega (arith, c.size_of_nlris.ensures)) (omega (arith, fits, c.size_of_nlris.ensures)) c.in_ok-put_head.ensures.ok) c.put_unreach_value.ensures.ok

pub returns-clause-err : goal.returns-clause-err
returns-clause-err c = on_err_weaker c.put_unreach_value.result (keeps_then c.args.out.now c.put_head.new.out c.put_unreach_value.new.out (keeps_piece c.args.out.now _ c.put_head.new.out c.in_ok-put_head.ensures.ok)) c.put_unreach_value.ensures.err
