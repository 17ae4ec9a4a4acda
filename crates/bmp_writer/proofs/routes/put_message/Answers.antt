use Rattle.std.proofs.Common.{arith}
use Rattle.std.proofs.lemmas.Result.{on_ok_weaker}
use Rattle.bmp_writer.specs.WrittenUpdate.{places}
use Rattle.bmp_writer.proofs.RoutesPut.{can_place, message_put, whole_field}
use Rattle.bmp_writer.proofs.UpdatePut.{field_length}
use Rattle.bmp_writer.proofs.routes.put_message.Goals as goal

pub put_field-requires : goal.put_field-requires
put_field-requires c = can_place c.args.key.now c.args.view c.args.withdrawn.now c.args.announced.now c.args.attrs.now c.family_of-family.result c.requires c.family_of-family.ensures

pub size_of_update-size-requires-clause-can : goal.size_of_update-size-requires-clause-can
size_of_update-size-requires-clause-can c = can_place c.args.key.now c.args.view c.args.withdrawn.now c.args.announced.now c.args.attrs.now c.family_of-family.result c.requires c.family_of-family.ensures

pub put_update-requires-clause-can : goal.put_update-requires-clause-can
put_update-requires-clause-can c = can_place c.args.key.now c.args.view c.args.withdrawn.now c.args.announced.now c.args.attrs.now c.family_of-family.result c.requires c.family_of-family.ensures

pub put_headers-requires-clause-short : goal.put_headers-requires-clause-short
put_headers-requires-clause-short c =
    let can = can_place c.args.key.now c.args.view c.args.withdrawn.now c.args.announced.now c.args.attrs.now c.family_of-family.result c.requires c.family_of-family.ensures in
    omega (arith, c.size_of_update-size.ensures, can.fits)

pub size_of_update-size-requires-clause-field : goal.size_of_update-size-requires-clause-field
size_of_update-size-requires-clause-field c =
    let p = places c.family_of-family.result c.args.withdrawn.now c.args.announced.now c.args.attrs.now in
    field_length c.family_of-family.result p c.as_slice-field.result.now (whole_field c.family_of-family.result p c.new-field.result c.put_field.new.out c.as_slice-field.result.now c.new-field.ensures c.as_slice-field.ensures c.in_ok-put_field.ensures.ok)

pub put_update-requires-clause-field : goal.put_update-requires-clause-field
put_update-requires-clause-field c =
    let p = places c.family_of-family.result c.args.withdrawn.now c.args.announced.now c.args.attrs.now in
    whole_field c.family_of-family.result p c.new-field.result c.put_field.new.out c.as_slice-field.result.now c.new-field.ensures c.as_slice-field.ensures c.in_ok-put_field.ensures.ok

pub returns : goal.returns
returns c = on_ok_weaker c.put_update.result (message_put c.args.key.now c.args.view c.args.withdrawn.now c.args.announced.now c.args.attrs.now c.family_of-family.result c.size_of_update-size.result c.args.out.now c.put_headers.new.out c.put_update.new.out c.requires c.family_of-family.ensures c.size_of_update-size.ensures c.in_ok-put_headers.ensures.ok) c.put_update.ensures.ok
