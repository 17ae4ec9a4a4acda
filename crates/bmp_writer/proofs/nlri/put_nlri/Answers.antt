use Rattle.std.proofs.lemmas.Result.{on_ok_weaker, on_err_weaker}
use Rattle.bmp_specs.specs.Values.{NlriValue}
use Rattle.bmp_writer.proofs.NlriRead.{nlri_put}
use Rattle.bmp_writer.proofs.Still.{keeps_appends, keeps_then}
use Rattle.bmp_writer.proofs.nlri.put_nlri.Goals as goal

pub returns-clause-ok : goal.returns-clause-ok
returns-clause-ok c =
    let m = c.nlri.inside in
    let inside : NlriValue = record { prefix = m.prefix; id = m.id } in
    on_ok_weaker c.put_prefix.result (nlri_put inside c.args.nlri.now c.nlri.view_is c.args.out.now c.put_id.new.out c.put_prefix.new.out c.in_ok-put_id.ensures.ok) c.put_prefix.ensures.ok

pub returns-clause-err : goal.returns-clause-err
returns-clause-err c = on_err_weaker c.put_prefix.result (keeps_then c.args.out.now c.put_id.new.out c.put_prefix.new.out (keeps_appends c.args.out.now c.put_id.new.out c.in_ok-put_id.ensures.ok)) c.put_prefix.ensures.err
