use Rattle.std.proofs.lemmas.Result.{on_ok_weaker, on_err_weaker}
use Rattle.bmp_writer.proofs.Joining.{unreach_value_put}
use Rattle.bmp_writer.proofs.Still.{keeps_piece, keeps_then}
use Rattle.bmp_writer.proofs.multi.put_unreach_value.Goals as goal

pub returns-clause-ok : goal.returns-clause-ok
returns-clause-ok c = on_ok_weaker c.put_nlris.result (unreach_value_put c.args.family c.args.list.now c.family_octets.result c.args.out.now c.extend.new.self c.put_nlris.new.out c.family_octets.ensures c.in_ok-extend.ensures.ok) c.put_nlris.ensures.ok

pub returns-clause-err : goal.returns-clause-err
returns-clause-err c = on_err_weaker c.put_nlris.result (keeps_then c.args.out.now c.extend.new.self c.put_nlris.new.out (keeps_piece c.args.out.now _ c.extend.new.self c.in_ok-extend.ensures.ok)) c.put_nlris.ensures.err
