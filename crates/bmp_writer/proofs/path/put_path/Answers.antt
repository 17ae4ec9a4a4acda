use Rattle.std.proofs.lemmas.Result.{on_ok_weaker, on_err_weaker}
use Rattle.bmp_writer.proofs.AttributesRead.{path_put}
use Rattle.bmp_writer.proofs.Still.{keeps_piece, keeps_then}
use Rattle.bmp_writer.proofs.path.put_path.Goals as goal

pub returns-clause-ok : goal.returns-clause-ok
returns-clause-ok c = on_ok_weaker c.put_segments.result (path_put c.args.path.now c.in-Some.path c.as_slice-segments.result.now c.size_of_segments.result _ _ c.args.out.now c.put_head.new.out c.put_segments.new.out c.in-Some.is c.as_slice-segments.ensures c.size_of_segments.ensures c.requires c.in_ok-put_head.ensures.ok) c.put_segments.ensures.ok

pub returns-clause-err : goal.returns-clause-err
returns-clause-err c = on_err_weaker c.put_segments.result (keeps_then c.args.out.now c.put_head.new.out c.put_segments.new.out (keeps_piece c.args.out.now _ c.put_head.new.out c.in_ok-put_head.ensures.ok)) c.put_segments.ensures.err
