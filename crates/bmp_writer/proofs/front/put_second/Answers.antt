use Rattle.std.proofs.lemmas.Result.{on_ok_weaker, on_err_weaker}
use Rattle.bmp_specs.specs.Values.{AttrsValue}
use Rattle.bmp_writer.specs.Written.{Keeps}
use Rattle.bmp_writer.proofs.Joining.{second_put, keeps_three, keeps_two}
use Rattle.bmp_writer.proofs.Still.{keeps_then, on_err}
use Rattle.bmp_writer.proofs.front.put_second.Goals as goal

pub returns-clause-ok : goal.returns-clause-ok
returns-clause-ok c =
    let m = c.attrs.inside in
    let inside : AttrsValue = record { origin = m.origin; path = m.path; hop = m.hop; med = m.med; pref = m.pref; atomic = m.atomic; aggregator = m.aggregator; communities = m.communities; others = m.others } in
    on_ok_weaker c.put_communities.result (second_put inside c.args.attrs.now c.attrs.view_is c.as_slice.result.now c.args.out.now c.put_number.new.out c.put_atomic.new.out c.put_aggregator.new.out c.put_communities.new.out c.as_slice.ensures c.in_ok-put_number.ensures.ok c.in_ok-put_atomic.ensures.ok c.in_ok-put_aggregator.ensures.ok) c.put_communities.ensures.ok

pub returns-clause-err : goal.returns-clause-err
returns-clause-err c = on_err_weaker c.put_communities.result (keeps_then c.args.out.now c.put_aggregator.new.out c.put_communities.new.out (keeps_three c.args.out.now c.put_number.new.out c.put_atomic.new.out c.put_aggregator.new.out c.in_ok-put_number.ensures.ok c.in_ok-put_atomic.ensures.ok c.in_ok-put_aggregator.ensures.ok)) c.put_communities.ensures.err

pub returns-in_err-put_aggregator-clause-err : goal.returns-in_err-put_aggregator-clause-err
returns-in_err-put_aggregator-clause-err c = on_err c.from_residual-in_err-put_aggregator.result (Keeps c.args.out.now c.put_aggregator.new.out) (keeps_then c.args.out.now c.put_atomic.new.out c.put_aggregator.new.out (keeps_two c.args.out.now c.put_number.new.out c.put_atomic.new.out c.in_ok-put_number.ensures.ok c.in_ok-put_atomic.ensures.ok) c.in_err-put_aggregator.ensures.err)
