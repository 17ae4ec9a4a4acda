use Rattle.std.proofs.lemmas.Result.{on_ok_weaker, on_err_weaker}
use Rattle.bmp_writer.proofs.UpdatePut.{nlris_put}
use Rattle.bmp_writer.proofs.Still.{keeps_piece, keeps_then}
use Rattle.bmp_writer.proofs.update.put_counted_nlris.Goals as goal

pub returns-clause-ok : goal.returns-clause-ok
returns-clause-ok c = on_ok_weaker c.put_nlris.result (nlris_put c.args.list.now c.size_of_nlris-size.result c.to_be_bytes.result c.args.out.now c.extend.new.self c.put_nlris.new.out c.size_of_nlris-size.ensures c.to_be_bytes.ensures c.in_ok-extend.ensures.ok) c.put_nlris.ensures.ok

pub returns-clause-err : goal.returns-clause-err
returns-clause-err c = on_err_weaker c.put_nlris.result (keeps_then c.args.out.now c.extend.new.self c.put_nlris.new.out (keeps_piece c.args.out.now _ c.extend.new.self c.in_ok-extend.ensures.ok)) c.put_nlris.ensures.err
