use Rattle.std.proofs.Common.{◌≡◌, ◌≤◌, ap, subst, sym, List, ◌∙◌, arith, Bool}
use Rattle.std.proofs.lemmas.Result.{on_ok_weaker, on_err_weaker}
use Rattle.bmp_specs.specs.Values.{AttrsValue}
use Rattle.bmp_specs.specs.Values.{NlriValue}
use Rattle.bmp_writer.specs.Written.{Appends, Keeps}
use Rattle.bmp_writer.specs.WrittenNlri.{AreOwnNlri, nlris_size}
use Rattle.bmp_writer.specs.WrittenUpdate.{IsCountedOf, IsField, is_plain, places, where_so}
use Rattle.bmp_writer.proofs.UpdatePut.{field_fits, field_put, update_put, withdrawn_fits}
use Rattle.bmp_writer.proofs.Still.{keeps_appends, keeps_piece, keeps_same, keeps_then, on_err}
use Rattle.bmp_writer.proofs.update.put_update.Goals as goal

pub put_counted_nlris-requires : goal.put_counted_nlris-requires
put_counted_nlris-requires c = subst (λ (l : List NlriValue). nlris_size l ≤ 65535) (sym c.of_v4.ensures) (withdrawn_fits (places c.args.family c.args.withdrawn.now c.args.announced.now c.args.attrs.now) c.requires.can.fits)

pub put_counted_field-requires : goal.put_counted_field-requires
put_counted_field-requires c = field_fits c.args.family (places c.args.family c.args.withdrawn.now c.args.announced.now c.args.attrs.now) c.args.field.now c.requires.field c.requires.can.fits

pub returns-in_err-put_counted_nlris-clause-err : goal.returns-in_err-put_counted_nlris-clause-err
returns-in_err-put_counted_nlris-clause-err c =
    let old = c.args.out.now in
    let one : Keeps old c.extend.new.self = keeps_piece old _ c.extend.new.self c.in_ok-extend.ensures.ok in
    on_err c.from_residual-in_err-put_counted_nlris.result (Keeps old c.put_counted_nlris.new.out) (keeps_then old c.extend.new.self c.put_counted_nlris.new.out one c.in_err-put_counted_nlris.ensures.err)

pub returns-in_err-put_counted_field-clause-err : goal.returns-in_err-put_counted_field-clause-err
returns-in_err-put_counted_field-clause-err c =
    let old = c.args.out.now in
    let one : Keeps old c.extend.new.self = keeps_piece old _ c.extend.new.self c.in_ok-extend.ensures.ok in
    let two : Keeps old c.put_counted_nlris.new.out = keeps_then old c.extend.new.self c.put_counted_nlris.new.out one (keeps_appends c.extend.new.self c.put_counted_nlris.new.out c.in_ok-put_counted_nlris.ensures.ok) in
    on_err c.from_residual-in_err-put_counted_field.result (Keeps old c.put_counted_field.new.out) (keeps_then old c.put_counted_nlris.new.out c.put_counted_field.new.out two c.in_err-put_counted_field.ensures.err)

pub returns-clause-err : goal.returns-clause-err
returns-clause-err c =
    let old = c.args.out.now in
    let one : Keeps old c.extend.new.self = keeps_piece old _ c.extend.new.self c.in_ok-extend.ensures.ok in
    let two : Keeps old c.put_counted_nlris.new.out = keeps_then old c.extend.new.self c.put_counted_nlris.new.out one (keeps_appends c.extend.new.self c.put_counted_nlris.new.out c.in_ok-put_counted_nlris.ensures.ok) in
    let three : Keeps old c.put_counted_field.new.out = keeps_then old c.put_counted_nlris.new.out c.put_counted_field.new.out two (keeps_piece c.put_counted_nlris.new.out _ c.put_counted_field.new.out c.in_ok-put_counted_field.ensures.ok) in
    on_err_weaker c.put_nlris.result (keeps_then old c.put_counted_field.new.out c.put_nlris.new.out three) c.put_nlris.ensures.err

pub returns-clause-ok : goal.returns-clause-ok
returns-clause-ok c =
    let m = c.attrs.inside in
    let inside : AttrsValue = record { origin = m.origin; path = m.path; hop = m.hop; med = m.med; pref = m.pref; atomic = m.atomic; aggregator = m.aggregator; communities = m.communities; others = m.others } in
    let p = places c.args.family c.args.withdrawn.now c.args.announced.now c.args.attrs.now in
    let plain : c.is_plain-plain.result ≡ is_plain c.args.family c.args.attrs.now.hop = c.is_plain-plain.ensures ∙ ap (λ (a : AttrsValue). is_plain c.args.family a.hop) c.attrs.view_is in
    let there : c.where_there.result.now ≡ p.plain = c.where_there.ensures ∙ ap (λ (b : Bool). where_so b c.args.announced.now) plain in
    let out : Appends (IsCountedOf (AreOwnNlri p.withdrawn)) c.extend.new.self c.put_counted_nlris.new.out = subst (λ (l : List NlriValue). Appends (IsCountedOf (AreOwnNlri l)) c.extend.new.self c.put_counted_nlris.new.out) c.of_v4.ensures c.in_ok-put_counted_nlris.ensures.ok in
    let field : Appends (IsCountedOf (IsField c.args.family p)) c.put_counted_nlris.new.out c.put_counted_field.new.out = field_put c.args.family p c.args.field.now c.put_counted_nlris.new.out c.put_counted_field.new.out c.requires.field c.in_ok-put_counted_field.ensures.ok in
    on_ok_weaker c.put_nlris.result
    (λ (q : Appends (AreOwnNlri c.where_there.result.now) c.put_counted_field.new.out c.put_nlris.new.out).
    update_put c.args.family p c.args.size c.header.result c.args.out.now c.extend.new.self c.put_counted_nlris.new.out c.put_counted_field.new.out c.put_nlris.new.out c.requires.size (omega (arith, c.requires.size, c.requires.can.fits)) c.header.ensures c.in_ok-extend.ensures.ok out field
    (subst (λ (l : List NlriValue). Appends (AreOwnNlri l) c.put_counted_field.new.out c.put_nlris.new.out) there q))
    c.put_nlris.ensures.ok

pub returns-in_err-extend-clause-err : goal.returns-in_err-extend-clause-err
returns-in_err-extend-clause-err c =
    let old = c.args.out.now in
    on_err c.from_residual.result (Keeps old c.extend.new.self) (keeps_same old c.extend.new.self c.in_err-extend.ensures.err)
