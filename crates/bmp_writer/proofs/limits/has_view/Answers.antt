use Rattle.bmp_specs.specs.Values.{KeyValue}
use Rattle.bmp_writer.proofs.Carrying.{default_view}
use Rattle.bmp_writer.proofs.limits.has_view.Goals as goal

pub returns-in_default : goal.returns-in_default
returns-in_default c =
    let k = c.key.inside in
    let inside : KeyValue = record { kind = k.kind; distinguisher = k.distinguisher; address = k.address } in
    default_view inside c.args.key.now c.key.view_is c.args.view c.in_default.not-Loc
