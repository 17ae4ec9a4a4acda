use Rattle.std.proofs.lemmas.Result.{on_ok_weaker, on_err_weaker}
use Rattle.bmp_specs.specs.Values.{AttrsValue}
use Rattle.bmp_writer.specs.Written.{Keeps}
use Rattle.bmp_writer.proofs.Joining.{first_put, keeps_three, keeps_two}
use Rattle.bmp_writer.proofs.Still.{keeps_appends, keeps_then, on_err}
use Rattle.bmp_writer.proofs.front.put_first.Goals as goal

pub returns-clause-ok : goal.returns-clause-ok
returns-clause-ok c =
    let m = c.attrs.inside in
    let inside : AttrsValue = record { origin = m.origin; path = m.path; hop = m.hop; med = m.med; pref = m.pref; atomic = m.atomic; aggregator = m.aggregator; communities = m.communities; others = m.others } in
    on_ok_weaker c.put_number.result (first_put inside c.args.attrs.now c.attrs.view_is c.args.plain c.args.out.now c.put_origin.new.out c.put_path.new.out c.put_next_hop.new.out c.put_number.new.out c.in_ok-put_origin.ensures.ok c.in_ok-put_path.ensures.ok c.in_ok-put_next_hop.ensures.ok) c.put_number.ensures.ok

pub returns-clause-err : goal.returns-clause-err
returns-clause-err c = on_err_weaker c.put_number.result (keeps_then c.args.out.now c.put_next_hop.new.out c.put_number.new.out (keeps_three c.args.out.now c.put_origin.new.out c.put_path.new.out c.put_next_hop.new.out c.in_ok-put_origin.ensures.ok c.in_ok-put_path.ensures.ok c.in_ok-put_next_hop.ensures.ok)) c.put_number.ensures.err

pub returns-in_err-put_path-clause-err : goal.returns-in_err-put_path-clause-err
returns-in_err-put_path-clause-err c = on_err c.from_residual-in_err-put_path.result (Keeps c.args.out.now c.put_path.new.out) (keeps_then c.args.out.now c.put_origin.new.out c.put_path.new.out (keeps_appends c.args.out.now c.put_origin.new.out c.in_ok-put_origin.ensures.ok) c.in_err-put_path.ensures.err)

pub returns-in_err-put_next_hop-clause-err : goal.returns-in_err-put_next_hop-clause-err
returns-in_err-put_next_hop-clause-err c = on_err c.from_residual-in_err-put_next_hop.result (Keeps c.args.out.now c.put_next_hop.new.out) (keeps_then c.args.out.now c.put_path.new.out c.put_next_hop.new.out (keeps_two c.args.out.now c.put_origin.new.out c.put_path.new.out c.in_ok-put_origin.ensures.ok c.in_ok-put_path.ensures.ok) c.in_err-put_next_hop.ensures.err)
