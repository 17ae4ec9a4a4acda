use Rattle.std.proofs.lemmas.Result.{on_ok_weaker, on_err_weaker}
use Rattle.bmp_specs.specs.Values.{OpenValue}
use Rattle.bmp_writer.specs.Written.{Keeps}
use Rattle.bmp_writer.proofs.OpenRead.{bare_put, full_put}
use Rattle.bmp_writer.proofs.Still.{keeps_piece, keeps_same, keeps_still, keeps_then, on_err}
use Rattle.bmp_writer.proofs.open_message.put_open.Goals as goal

pub returns-then-capabilities-eq0-clause-ok : goal.returns-then-capabilities-eq0-clause-ok
returns-then-capabilities-eq0-clause-ok c =
    let m = c.message.inside in
    let inside : OpenValue = record { version = m.version; my_as = m.my_as; hold = m.hold; identifier = m.identifier; four = m.four; families = m.families; paths = m.paths; extended = m.extended } in
    bare_put inside c.args.message.now c.message.view_is c.size_of_parameters-parameters.result c.size_of_capabilities-capabilities.result c.front.result c.args.out.now c.extend.new.self c.front.ensures.octets c.front.ensures.bytes c.size_of_capabilities-capabilities.ensures c.size_of_parameters-parameters.ensures c.if-capabilities-eq0.true c.in_ok-extend.ensures.ok

pub returns-clause-ok : goal.returns-clause-ok
returns-clause-ok c =
    let m = c.message.inside in
    let inside : OpenValue = record { version = m.version; my_as = m.my_as; hold = m.hold; identifier = m.identifier; four = m.four; families = m.families; paths = m.paths; extended = m.extended } in
    on_ok_weaker c.put_capabilities.result
    (full_put inside c.args.message.now c.message.view_is c.size_of_parameters-parameters.result c.size_of_capabilities-capabilities.result c.front.result c.args.out.now c.extend.new.self c.extend-2.new.self c.put_capabilities.new.out c.front.ensures.octets c.front.ensures.bytes c.size_of_capabilities-capabilities.ensures c.size_of_parameters-parameters.ensures c.if-capabilities-eq0.false c.requires c.in_ok-extend.ensures.ok c.in_ok-extend-2.ensures.ok)
    c.put_capabilities.ensures.ok

pub returns-clause-err : goal.returns-clause-err
returns-clause-err c =
    on_err_weaker c.put_capabilities.result
    (keeps_then c.args.out.now c.extend.new.self c.put_capabilities.new.out (keeps_piece c.args.out.now _ c.extend.new.self c.in_ok-extend.ensures.ok))
    (on_err_weaker c.put_capabilities.result (keeps_then c.extend.new.self c.extend-2.new.self c.put_capabilities.new.out (keeps_piece c.extend.new.self _ c.extend-2.new.self c.in_ok-extend-2.ensures.ok)) c.put_capabilities.ensures.err)

pub returns-in_err-extend-clause-err : goal.returns-in_err-extend-clause-err
returns-in_err-extend-clause-err c =
    let old = c.args.out.now in
    on_err c.from_residual.result (Keeps old c.extend.new.self) (keeps_same old c.extend.new.self c.in_err-extend.ensures.err)

pub returns-in_err-extend-2-clause-err : goal.returns-in_err-extend-2-clause-err
returns-in_err-extend-2-clause-err c =
    let old = c.args.out.now in
    let one : Keeps old c.extend.new.self = keeps_piece old _ c.extend.new.self c.in_ok-extend.ensures.ok in
    on_err c.from_residual-in_err-extend-2.result (Keeps old c.extend-2.new.self) (keeps_still old c.extend.new.self c.extend-2.new.self one c.in_err-extend-2.ensures.err)
