use Rattle.std.proofs.Common.{rules, ◌<◌, ◌^◌}
use Rattle.std.proofs.lemmas.Result.{on_ok_weaker, on_err_weaker}
use Rattle.bmp_specs.specs.Values.{KeyValue, PeerInfoValue}
use Rattle.bmp_writer.specs.Written.{Keeps}
use Rattle.bmp_writer.proofs.PeerUpRead.{header_put}
use Rattle.bmp_writer.proofs.Still.{keeps_piece, keeps_same, keeps_still, keeps_then, on_err}
use Rattle.bmp_writer.proofs.peer_up.put_header.Goals as goal

pub returns-clause-ok : goal.returns-clause-ok
returns-clause-ok c =
    let k = c.key.inside in
    let inside : KeyValue = record { kind = k.kind; distinguisher = k.distinguisher; address = k.address } in
    let fits : inside.distinguisher < 2 ^ 64 = search rules in
    let m = c.info.inside in
    let info : PeerInfoValue = record { asn = m.asn; identifier = m.identifier; local = m.local; local_port = m.local_port; remote_port = m.remote_port; sent = m.sent; received = m.received; filtered = m.filtered; table = m.table } in
    on_ok_weaker c.extend-4.result
    (header_put inside c.args.key.now c.key.view_is info c.args.info.now c.info.view_is c.flags.result c.to_be_bytes.result c.raw_address.result c.speaker.result c.args.out.now c.extend.new.self c.extend-2.new.self c.extend-3.new.self c.extend-4.new.self c.requires fits
    c.raw_address.ensures.size c.raw_address.ensures.same c.raw_address.ensures.octets c.speaker.ensures.fits.0 c.speaker.ensures.fits.1 c.flags.ensures c.to_be_bytes.ensures c.speaker.ensures.bytes c.in_ok-extend.ensures.ok c.in_ok-extend-2.ensures.ok c.in_ok-extend-3.ensures.ok)
    c.extend-4.ensures.ok

pub returns-in_err-extend-clause-err : goal.returns-in_err-extend-clause-err
returns-in_err-extend-clause-err c =
    let old = c.args.out.now in
    on_err c.from_residual.result (Keeps old c.extend.new.self) (keeps_same old c.extend.new.self c.in_err-extend.ensures.err)

pub returns-in_err-extend-2-clause-err : goal.returns-in_err-extend-2-clause-err
returns-in_err-extend-2-clause-err c =
    let old = c.args.out.now in
    let one : Keeps old c.extend.new.self = keeps_piece old _ c.extend.new.self c.in_ok-extend.ensures.ok in
    on_err c.from_residual-in_err-extend-2.result (Keeps old c.extend-2.new.self) (keeps_still old c.extend.new.self c.extend-2.new.self one c.in_err-extend-2.ensures.err)

pub returns-in_err-extend-3-clause-err : goal.returns-in_err-extend-3-clause-err
returns-in_err-extend-3-clause-err c =
    let old = c.args.out.now in
    let one : Keeps old c.extend.new.self = keeps_piece old _ c.extend.new.self c.in_ok-extend.ensures.ok in
    let two : Keeps old c.extend-2.new.self = keeps_then old c.extend.new.self c.extend-2.new.self one (keeps_piece c.extend.new.self _ c.extend-2.new.self c.in_ok-extend-2.ensures.ok) in
    on_err c.from_residual-in_err-extend-3.result (Keeps old c.extend-3.new.self) (keeps_still old c.extend-2.new.self c.extend-3.new.self two c.in_err-extend-3.ensures.err)

pub returns-clause-err : goal.returns-clause-err
returns-clause-err c =
    let old = c.args.out.now in
    let one : Keeps old c.extend.new.self = keeps_piece old _ c.extend.new.self c.in_ok-extend.ensures.ok in
    let two : Keeps old c.extend-2.new.self = keeps_then old c.extend.new.self c.extend-2.new.self one (keeps_piece c.extend.new.self _ c.extend-2.new.self c.in_ok-extend-2.ensures.ok) in
    let three : Keeps old c.extend-3.new.self = keeps_then old c.extend-2.new.self c.extend-3.new.self two (keeps_piece c.extend-2.new.self _ c.extend-3.new.self c.in_ok-extend-3.ensures.ok) in
    on_err_weaker c.extend-4.result (λ e. keeps_still old c.extend-3.new.self c.extend-4.new.self three e) c.extend-4.ensures.err
