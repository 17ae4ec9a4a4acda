use Rattle.std.proofs.Common.{◌≤◌, arith, subst, sym}
use Rattle.std.proofs.lemmas.Result.{on_ok_weaker, on_err_weaker}
use Rattle.bmp_specs.specs.Values.{PeerInfoValue}
use Rattle.bmp_writer.specs.Capabilities.{capabilities_size}
use Rattle.bmp_writer.specs.PeerUpMessage.{name_size}
use Rattle.bmp_writer.specs.Written.{Keeps}
use Rattle.bmp_writer.proofs.PeerUpRead.{message_put, name_fits}
use Rattle.bmp_writer.proofs.Still.{keeps_appends, keeps_piece, keeps_same, keeps_then, on_err}
use Rattle.bmp_writer.proofs.peer_up.put_message.Goals as goal

pub put_open-requires : goal.put_open-requires
put_open-requires c =
    subst (λ (i : PeerInfoValue). capabilities_size i.sent ≤ 253) (sym c.info.view_is) c.requires.sent

pub put_open-requires-2 : goal.put_open-requires-2
put_open-requires-2 c =
    subst (λ (i : PeerInfoValue). capabilities_size i.received ≤ 253) (sym c.info.view_is) c.requires.received

pub put_table-requires : goal.put_table-requires
put_table-requires c =
    subst (λ (i : PeerInfoValue). name_size i.table ≤ 65535) (sym c.info.view_is) (name_fits c.args.key.now c.args.info.now c.requires)

pub returns-in_err-put_header-clause-err : goal.returns-in_err-put_header-clause-err
returns-in_err-put_header-clause-err c =
    let old = c.args.out.now in
    let one : Keeps old c.extend.new.self = keeps_piece old _ c.extend.new.self c.in_ok-extend.ensures.ok in
    on_err c.from_residual-in_err-put_header.result (Keeps old c.put_header.new.out) (keeps_then old c.extend.new.self c.put_header.new.out one c.in_err-put_header.ensures.err)

pub returns-in_err-put_local-clause-err : goal.returns-in_err-put_local-clause-err
returns-in_err-put_local-clause-err c =
    let old = c.args.out.now in
    let one : Keeps old c.extend.new.self = keeps_piece old _ c.extend.new.self c.in_ok-extend.ensures.ok in
    let two : Keeps old c.put_header.new.out = keeps_then old c.extend.new.self c.put_header.new.out one (keeps_appends c.extend.new.self c.put_header.new.out c.in_ok-put_header.ensures.ok) in
    on_err c.from_residual-in_err-put_local.result (Keeps old c.put_local.new.out) (keeps_then old c.put_header.new.out c.put_local.new.out two c.in_err-put_local.ensures.err)

pub returns-in_err-put_open-clause-err : goal.returns-in_err-put_open-clause-err
returns-in_err-put_open-clause-err c =
    let old = c.args.out.now in
    let one : Keeps old c.extend.new.self = keeps_piece old _ c.extend.new.self c.in_ok-extend.ensures.ok in
    let two : Keeps old c.put_header.new.out = keeps_then old c.extend.new.self c.put_header.new.out one (keeps_appends c.extend.new.self c.put_header.new.out c.in_ok-put_header.ensures.ok) in
    let three : Keeps old c.put_local.new.out = keeps_then old c.put_header.new.out c.put_local.new.out two (keeps_appends c.put_header.new.out c.put_local.new.out c.in_ok-put_local.ensures.ok) in
    on_err c.from_residual-in_err-put_open.result (Keeps old c.put_open.new.out) (keeps_then old c.put_local.new.out c.put_open.new.out three c.in_err-put_open.ensures.err)

pub returns-in_err-put_open-2-clause-err : goal.returns-in_err-put_open-2-clause-err
returns-in_err-put_open-2-clause-err c =
    let old = c.args.out.now in
    let one : Keeps old c.extend.new.self = keeps_piece old _ c.extend.new.self c.in_ok-extend.ensures.ok in
    let two : Keeps old c.put_header.new.out = keeps_then old c.extend.new.self c.put_header.new.out one (keeps_appends c.extend.new.self c.put_header.new.out c.in_ok-put_header.ensures.ok) in
    let three : Keeps old c.put_local.new.out = keeps_then old c.put_header.new.out c.put_local.new.out two (keeps_appends c.put_header.new.out c.put_local.new.out c.in_ok-put_local.ensures.ok) in
    let four : Keeps old c.put_open.new.out = keeps_then old c.put_local.new.out c.put_open.new.out three (keeps_appends c.put_local.new.out c.put_open.new.out c.in_ok-put_open.ensures.ok) in
    on_err c.from_residual-in_err-put_open-2.result (Keeps old c.put_open-2.new.out) (keeps_then old c.put_open.new.out c.put_open-2.new.out four c.in_err-put_open-2.ensures.err)

pub returns-clause-err : goal.returns-clause-err
returns-clause-err c =
    let old = c.args.out.now in
    let one : Keeps old c.extend.new.self = keeps_piece old _ c.extend.new.self c.in_ok-extend.ensures.ok in
    let two : Keeps old c.put_header.new.out = keeps_then old c.extend.new.self c.put_header.new.out one (keeps_appends c.extend.new.self c.put_header.new.out c.in_ok-put_header.ensures.ok) in
    let three : Keeps old c.put_local.new.out = keeps_then old c.put_header.new.out c.put_local.new.out two (keeps_appends c.put_header.new.out c.put_local.new.out c.in_ok-put_local.ensures.ok) in
    let four : Keeps old c.put_open.new.out = keeps_then old c.put_local.new.out c.put_open.new.out three (keeps_appends c.put_local.new.out c.put_open.new.out c.in_ok-put_open.ensures.ok) in
    let five : Keeps old c.put_open-2.new.out = keeps_then old c.put_open.new.out c.put_open-2.new.out four (keeps_appends c.put_open.new.out c.put_open-2.new.out c.in_ok-put_open-2.ensures.ok) in
    on_err_weaker c.put_table.result (keeps_then old c.put_open-2.new.out c.put_table.new.out five) c.put_table.ensures.err

pub returns-clause-ok : goal.returns-clause-ok
returns-clause-ok c =
    let m = c.info.inside in
    let inside : PeerInfoValue = record { asn = m.asn; identifier = m.identifier; local = m.local; local_port = m.local_port; remote_port = m.remote_port; sent = m.sent; received = m.received; filtered = m.filtered; table = m.table } in
    on_ok_weaker c.put_table.result
    (message_put inside c.args.info.now c.info.view_is c.args.key.now _ c.common_header.result c.args.out.now c.extend.new.self c.put_header.new.out c.put_local.new.out c.put_open.new.out c.put_open-2.new.out c.put_table.new.out c.requires
    (omega (arith, c.size_of_open.ensures, c.size_of_open-2.ensures, c.size_of_table.ensures)) c.common_header.ensures c.in_ok-extend.ensures.ok c.in_ok-put_header.ensures.ok c.in_ok-put_local.ensures.ok c.in_ok-put_open.ensures.ok c.in_ok-put_open-2.ensures.ok)
    c.put_table.ensures.ok

pub returns-in_err-extend-clause-err : goal.returns-in_err-extend-clause-err
returns-in_err-extend-clause-err c =
    let old = c.args.out.now in
    on_err c.from_residual.result (Keeps old c.extend.new.self) (keeps_same old c.extend.new.self c.in_err-extend.ensures.err)
