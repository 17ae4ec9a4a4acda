use Rattle.std.proofs.lemmas.Result.{on_ok_weaker}
use Rattle.bmp_specs.specs.Values.{PeerInfoValue}
use Rattle.bmp_writer.proofs.PeerUpRead.{local_put}
use Rattle.bmp_writer.proofs.peer_up.put_local.Goals as goal

pub returns-clause-ok : goal.returns-clause-ok
returns-clause-ok c =
    let m = c.info.inside in
    let inside : PeerInfoValue = record { asn = m.asn; identifier = m.identifier; local = m.local; local_port = m.local_port; remote_port = m.remote_port; sent = m.sent; received = m.received; filtered = m.filtered; table = m.table } in
    on_ok_weaker c.extend-2.result (local_put inside c.args.info.now c.info.view_is c.raw_address.result c.ports.result c.args.out.now c.extend.new.self c.extend-2.new.self c.raw_address.ensures.size c.raw_address.ensures.same c.raw_address.ensures.octets c.ports.ensures.fits.0 c.ports.ensures.fits.1 c.ports.ensures.bytes c.in_ok-extend.ensures.ok) c.extend-2.ensures.ok
