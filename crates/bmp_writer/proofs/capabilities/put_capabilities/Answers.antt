use Rattle.std.proofs.lemmas.Result.{on_ok_weaker}
use Rattle.bmp_specs.specs.Values.{OpenValue}
use Rattle.bmp_writer.proofs.CapabilitiesRead.{capabilities_put}
use Rattle.bmp_writer.proofs.capabilities.put_capabilities.Goals as goal

pub returns-clause-ok : goal.returns-clause-ok
returns-clause-ok c =
    let m = c.message.inside in
    let inside : OpenValue = record { version = m.version; my_as = m.my_as; hold = m.hold; identifier = m.identifier; four = m.four; families = m.families; paths = m.paths; extended = m.extended } in
    on_ok_weaker c.put_paths.result (capabilities_put inside c.args.message.now c.message.view_is c.as_slice.result.now c.as_slice-2.result.now c.as_slice.ensures c.as_slice-2.ensures c.args.out.now c.put_families.new.out c.put_as.new.out c.put_paths.new.out c.in_ok-put_families.ensures.ok c.in_ok-put_as.ensures.ok) c.put_paths.ensures.ok
