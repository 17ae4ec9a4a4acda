use Rattle.std.proofs.lemmas.Result.{on_ok_weaker, on_err_weaker}
use Rattle.bmp_writer.specs.Written.{Keeps}
use Rattle.bmp_writer.proofs.Joining.{reach_value_put}
use Rattle.bmp_writer.proofs.Still.{keeps_piece, keeps_same, keeps_still, keeps_then, on_err}
use Rattle.bmp_writer.proofs.multi.put_reach_value.Goals as goal

pub returns-clause-ok : goal.returns-clause-ok
returns-clause-ok c = on_ok_weaker c.put_nlris.result (reach_value_put c.args.family c.args.hop.now c.args.list.now c.family_octets.result c.args.out.now c.extend.new.self c.extend-2.new.self c.extend-3.new.self c.extend-4.new.self c.put_nlris.new.out c.family_octets.ensures c.in_ok-extend.ensures.ok c.in_ok-extend-2.ensures.ok c.in_ok-extend-3.ensures.ok c.in_ok-extend-4.ensures.ok) c.put_nlris.ensures.ok

pub returns-clause-err : goal.returns-clause-err
returns-clause-err c =
    let old = c.args.out.now in
    let two = keeps_then old c.extend.new.self c.extend-2.new.self (keeps_piece old _ c.extend.new.self c.in_ok-extend.ensures.ok) (keeps_piece c.extend.new.self _ c.extend-2.new.self c.in_ok-extend-2.ensures.ok) in
    let three = keeps_then old c.extend-2.new.self c.extend-3.new.self two (keeps_piece c.extend-2.new.self _ c.extend-3.new.self c.in_ok-extend-3.ensures.ok) in
    let four = keeps_then old c.extend-3.new.self c.extend-4.new.self three (keeps_piece c.extend-3.new.self _ c.extend-4.new.self c.in_ok-extend-4.ensures.ok) in
    on_err_weaker c.put_nlris.result (keeps_then old c.extend-4.new.self c.put_nlris.new.out four) c.put_nlris.ensures.err

pub returns-in_err-extend-clause-err : goal.returns-in_err-extend-clause-err
returns-in_err-extend-clause-err c =
    let old = c.args.out.now in
    on_err c.from_residual.result (Keeps old c.extend.new.self) (keeps_same old c.extend.new.self c.in_err-extend.ensures.err)

pub returns-in_err-extend-2-clause-err : goal.returns-in_err-extend-2-clause-err
returns-in_err-extend-2-clause-err c =
    let old = c.args.out.now in
    let one : Keeps old c.extend.new.self = keeps_piece old _ c.extend.new.self c.in_ok-extend.ensures.ok in
    on_err c.from_residual-in_err-extend-2.result (Keeps old c.extend-2.new.self) (keeps_still old c.extend.new.self c.extend-2.new.self one c.in_err-extend-2.ensures.err)

pub returns-in_err-extend-3-clause-err : goal.returns-in_err-extend-3-clause-err
returns-in_err-extend-3-clause-err c =
    let old = c.args.out.now in
    let one : Keeps old c.extend.new.self = keeps_piece old _ c.extend.new.self c.in_ok-extend.ensures.ok in
    let two : Keeps old c.extend-2.new.self = keeps_then old c.extend.new.self c.extend-2.new.self one (keeps_piece c.extend.new.self _ c.extend-2.new.self c.in_ok-extend-2.ensures.ok) in
    on_err c.from_residual-in_err-extend-3.result (Keeps old c.extend-3.new.self) (keeps_still old c.extend-2.new.self c.extend-3.new.self two c.in_err-extend-3.ensures.err)

pub returns-in_err-extend-4-clause-err : goal.returns-in_err-extend-4-clause-err
returns-in_err-extend-4-clause-err c =
    let old = c.args.out.now in
    let one : Keeps old c.extend.new.self = keeps_piece old _ c.extend.new.self c.in_ok-extend.ensures.ok in
    let two : Keeps old c.extend-2.new.self = keeps_then old c.extend.new.self c.extend-2.new.self one (keeps_piece c.extend.new.self _ c.extend-2.new.self c.in_ok-extend-2.ensures.ok) in
    let three : Keeps old c.extend-3.new.self = keeps_then old c.extend-2.new.self c.extend-3.new.self two (keeps_piece c.extend-2.new.self _ c.extend-3.new.self c.in_ok-extend-3.ensures.ok) in
    on_err c.from_residual-in_err-extend-4.result (Keeps old c.extend-4.new.self) (keeps_still old c.extend-3.new.self c.extend-4.new.self three c.in_err-extend-4.ensures.err)
