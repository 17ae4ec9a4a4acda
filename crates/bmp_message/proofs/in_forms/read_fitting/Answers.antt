use Rattle.std.proofs.Common.{sym, subst}
use Rattle.std.proofs.lemmas.Result.{IfOk-weaker, err_from_is_err_and}
use Rattle.bmp_specs.specs.declared.wire.Family.TheVariants.{V4, V6}
use Rattle.bmp_specs.specs.declared.wire.IdUse.{IdUse}
use Rattle.bmp_specs.specs.FramedUpdate.{FitsFamily}
use Rattle.bmp_specs.specs.UpdateForms.{FormsValue}
use Rattle.bmp_specs.specs.Values.{UpdateValue}
use Rattle.bgp_update.specs.Framed.{framed_value}
use Rattle.wire_io.proofs.Faults.{broken_below}
use Rattle.bmp_message.specs.BodyForms.{IsBodyInForms}
use Rattle.bmp_message.specs.State.{opens_of}
use Rattle.bmp_message.specs.contracts.forms.Forms.{the_view}
use Rattle.bmp_message.proofs.InForms.{in_fitting, malformed, no_frame, no_v4, no_v6, not_fitting}
use Rattle.bmp_message.proofs.in_forms.read_fitting.Goals as goal

pub returns-in_default-clause-broken : goal.returns-in_default-clause-broken
returns-in_default-clause-broken c _ = no_frame (opens_of c.args.peer.now) c.args.head.now c.args.body.now c.args.last.now c.in_default.ensures.none

pub returns-in_default-choose_family-clause-broken : goal.returns-in_default-choose_family-clause-broken
returns-in_default-choose_family-clause-broken c _ =
    no_v4 (opens_of c.args.peer.now) c.args.head.now c.args.body.now c.args.last.now (framed_value c.in-Some.framed) c.in-Some.ensures.some c.id_use-agreed.result c.id_use-agreed.ensures c.in_default-choose_family.ensures.none

pub returns-in_default-choose_family-2-clause-broken : goal.returns-in_default-choose_family-2-clause-broken
returns-in_default-choose_family-2-clause-broken c _ =
    no_v6 (opens_of c.args.peer.now) c.args.head.now c.args.body.now c.args.last.now (framed_value c.in-Some.framed) c.in-Some.ensures.some c.id_use-agreed.result c.id_use-agreed.ensures c.in_default-choose_family-2.ensures.none

pub returns-in_err-update-in-Some-choose_width-clause-broken : goal.returns-in_err-update-in-Some-choose_width-clause-broken
returns-in_err-update-in-Some-choose_width-clause-broken c =
    let p = err_from_is_err_and c.from_residual.result c.from_residual.ensures.1 in
    rw (p.1, p.2)
    (λ broken. subst (λ (x : FormsValue). (taken : FormsValue) (u : UpdateValue) → IsBodyInForms (opens_of c.args.peer.now) c.args.head.now c.args.body.now x taken u → ⊥) c.last.view_is
    (not_fitting (opens_of c.args.peer.now) c.args.head.now c.args.body.now (the_view c.last.inside) (framed_value c.in-Some.framed) c.in-Some.ensures.some c.id_use-agreed.result c.id_use-agreed.ensures _ _
    c.in-Some-choose_family.ensures.some c.in-Some-choose_family-2.ensures.some _ c.in-Some-choose_width.ensures.some _ _ c.width_in-width.ensures c.ids.ensures
    (c.in_err-update-in-Some-choose_width.ensures.broken (broken_below _ broken))))

pub withdraw_taken-requires-clause-v4 : goal.withdraw_taken-requires-clause-v4
withdraw_taken-requires-clause-v4 c = subst (λ (x : IdUse). FitsFamily (framed_value c.in-Some.framed) V4 x.v4) (sym c.ids-in-None.ensures) c.in-Some-choose_family.ensures.some.fits

pub withdraw_taken-requires-clause-v6 : goal.withdraw_taken-requires-clause-v6
withdraw_taken-requires-clause-v6 c = subst (λ (x : IdUse). FitsFamily (framed_value c.in-Some.framed) V6 x.v6) (sym c.ids-in-None.ensures) c.in-Some-choose_family-2.ensures.some.fits

pub returns-in_ok-update-in-Some-choose_width-clause-ok : goal.returns-in_ok-update-in-Some-choose_width-clause-ok
returns-in_ok-update-in-Some-choose_width-clause-ok c =
    subst (λ (x : FormsValue). IsBodyInForms (opens_of c.args.peer.now) c.args.head.now c.args.body.now x (record { bare_v4 = c.in-Some-choose_family.bare_v4; bare_v6 = c.in-Some-choose_family-2.bare_v6; two_octets = c.in-Some-choose_width.two_octets }) c.in_ok-update-in-Some-choose_width.update) c.last.view_is
    (in_fitting (opens_of c.args.peer.now) c.args.head.now c.args.body.now (the_view c.last.inside) (framed_value c.in-Some.framed) c.in-Some.ensures.some c.id_use-agreed.result c.id_use-agreed.ensures _ _
    c.in-Some-choose_family.ensures.some c.in-Some-choose_family-2.ensures.some _ c.in-Some-choose_width.ensures.some _ _ c.width_in-width.ensures c.ids.ensures _ c.in_ok-update-in-Some-choose_width.ensures.ok)

pub returns-in-None-clause-ok : goal.returns-in-None-clause-ok
returns-in-None-clause-ok c =
    IfOk-weaker c.withdraw_taken.result _ _
    (λ r p. subst (λ (x : FormsValue). IsBodyInForms (opens_of c.args.peer.now) c.args.head.now c.args.body.now x r.taken r.update) c.last.view_is
    (subst (λ (x : FormsValue). IsBodyInForms (opens_of c.args.peer.now) c.args.head.now c.args.body.now (the_view c.last.inside) x r.update) (sym p.0)
    (malformed (opens_of c.args.peer.now) c.args.head.now c.args.body.now (the_view c.last.inside) (framed_value c.in-Some.framed) c.in-Some.ensures.some c.id_use-agreed.result c.id_use-agreed.ensures _ _
    c.in-Some-choose_family.ensures.some c.in-Some-choose_family-2.ensures.some c.in-None.ensures.none _ c.ids-in-None.ensures _ p.1)))
    c.withdraw_taken.ensures.ok

pub returns-in-None-clause-broken : goal.returns-in-None-clause-broken
returns-in-None-clause-broken c broken = absurd (c.withdraw_taken.ensures.broken broken)
