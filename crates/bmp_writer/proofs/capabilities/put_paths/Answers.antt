use Rattle.std.proofs.Common.{refl}
use Rattle.std.proofs.lemmas.Result.{on_ok_weaker, on_err_weaker}
use Rattle.bmp_writer.proofs.CapabilitiesRead.{paths_put}
use Rattle.bmp_writer.proofs.Still.{keeps_piece, keeps_then}
use Rattle.bmp_writer.proofs.capabilities.put_paths.Goals as goal

pub returns-clause-ok : goal.returns-clause-ok
returns-clause-ok c = on_ok_weaker c.put_entries.result (paths_put c.args.paths.now _ c.args.out.now c.extend.new.self c.put_entries.new.out c.if-count-eq0.false refl c.in_ok-extend.ensures.ok) c.put_entries.ensures.ok

pub returns-clause-err : goal.returns-clause-err
returns-clause-err c = on_err_weaker c.put_entries.result (keeps_then c.args.out.now c.extend.new.self c.put_entries.new.out (keeps_piece c.args.out.now _ c.extend.new.self c.in_ok-extend.ensures.ok)) c.put_entries.ensures.err
