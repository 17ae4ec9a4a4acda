use Rattle.std.proofs.lemmas.Result.{on_ok_weaker, on_err_weaker}
use Rattle.bmp_specs.specs.Values.{AttrsValue}
use Rattle.bmp_writer.specs.Written.{Keeps}
use Rattle.bmp_writer.proofs.Joining.{field_joined, keeps_three, keeps_two}
use Rattle.bmp_writer.proofs.Still.{keeps_appends, keeps_then, on_err}
use Rattle.bmp_writer.proofs.update.put_field.Goals as goal

pub returns-clause-ok : goal.returns-clause-ok
returns-clause-ok c =
    let m = c.attrs.inside in
    let inside : AttrsValue = record { origin = m.origin; path = m.path; hop = m.hop; med = m.med; pref = m.pref; atomic = m.atomic; aggregator = m.aggregator; communities = m.communities; others = m.others } in
    on_ok_weaker c.put_others.result (field_joined inside c.args.attrs.now c.attrs.view_is c.args.family c.args.withdrawn.now c.args.announced.now c.is_plain-plain.result c.hop_octets.result.now c.where_there.result.now c.of_v6.result.now c.told_others.result.now c.args.out.now c.put_told.new.out c.put_reach.new.out c.put_unreach.new.out c.put_others.new.out c.is_plain-plain.ensures c.hop_octets.ensures c.where_there.ensures c.of_v6.ensures c.told_others.ensures c.in_ok-put_told.ensures.ok c.in_ok-put_reach.ensures.ok c.in_ok-put_unreach.ensures.ok) c.put_others.ensures.ok

pub returns-clause-err : goal.returns-clause-err
returns-clause-err c = on_err_weaker c.put_others.result (keeps_then c.args.out.now c.put_unreach.new.out c.put_others.new.out (keeps_three c.args.out.now c.put_told.new.out c.put_reach.new.out c.put_unreach.new.out c.in_ok-put_told.ensures.ok c.in_ok-put_reach.ensures.ok c.in_ok-put_unreach.ensures.ok)) c.put_others.ensures.err

pub returns-in_err-put_reach-clause-err : goal.returns-in_err-put_reach-clause-err
returns-in_err-put_reach-clause-err c = on_err c.from_residual-in_err-put_reach.result (Keeps c.args.out.now c.put_reach.new.out) (keeps_then c.args.out.now c.put_told.new.out c.put_reach.new.out (keeps_appends c.args.out.now c.put_told.new.out c.in_ok-put_told.ensures.ok) c.in_err-put_reach.ensures.err)

pub returns-in_err-put_unreach-clause-err : goal.returns-in_err-put_unreach-clause-err
returns-in_err-put_unreach-clause-err c = on_err c.from_residual-in_err-put_unreach.result (Keeps c.args.out.now c.put_unreach.new.out) (keeps_then c.args.out.now c.put_reach.new.out c.put_unreach.new.out (keeps_two c.args.out.now c.put_told.new.out c.put_reach.new.out c.in_ok-put_told.ensures.ok c.in_ok-put_reach.ensures.ok) c.in_err-put_unreach.ensures.err)
