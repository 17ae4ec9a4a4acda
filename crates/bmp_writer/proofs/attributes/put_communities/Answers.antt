use Rattle.std.proofs.Common.{◌<◌, length}
use Rattle.std.proofs.lemmas.Result.{on_ok_weaker, on_err_weaker}
use Rattle.bmp_writer.proofs.AttributesRead.{communities_put}
use Rattle.bmp_writer.proofs.Sizes.{some_items}
use Rattle.bmp_writer.proofs.Still.{keeps_piece, keeps_then}
use Rattle.bmp_writer.proofs.attributes.put_communities.Goals as goal

pub returns-clause-ok : goal.returns-clause-ok
returns-clause-ok c =
    let some : 0 < length c.args.communities.now = some_items c.args.communities.now _ c.is_empty.ensures c.if-is_empty.false in
    on_ok_weaker c.put_numbers.result (communities_put c.args.communities.now c.args.out.now c.put_head.new.out c.put_numbers.new.out _ _ some c.requires c.in_ok-put_head.ensures.ok) c.put_numbers.ensures.ok

pub returns-clause-err : goal.returns-clause-err
returns-clause-err c = on_err_weaker c.put_numbers.result (keeps_then c.args.out.now c.put_head.new.out c.put_numbers.new.out (keeps_piece c.args.out.now _ c.put_head.new.out c.in_ok-put_head.ensures.ok)) c.put_numbers.ensures.err
