use Rattle.std.proofs.Common.{subst}
use Rattle.std.proofs.lemmas.Bool.{iff_false}
use Rattle.bmp_specs.specs.UpdateForms.{FormsValue}
use Rattle.bmp_specs.specs.Values.{UpdateValue}
use Rattle.bgp_update.specs.Framed.{framed_value}
use Rattle.bmp_message.specs.BodyForms.{IsBodyInForms}
use Rattle.bmp_message.specs.State.{opens_of}
use Rattle.bmp_message.specs.contracts.forms.Forms.{the_view}
use Rattle.bmp_message.proofs.InForms.{in_fitting, no_frame, no_v4, no_v6, not_fitting, withdrawn_so}
use Rattle.bmp_message.proofs.in_forms.judge_fitting.Goals as goal

pub returns-in_default-clause-none : goal.returns-in_default-clause-none
returns-in_default-clause-none c = no_frame (opens_of c.args.peer.now) c.args.head.now c.args.body.now c.args.last.now c.in_default.ensures.none

pub returns-in_default-choose_family-clause-none : goal.returns-in_default-choose_family-clause-none
returns-in_default-choose_family-clause-none c =
    no_v4 (opens_of c.args.peer.now) c.args.head.now c.args.body.now c.args.last.now (framed_value c.in-Some.framed) c.in-Some.ensures.some c.id_use-agreed.result c.id_use-agreed.ensures c.in_default-choose_family.ensures.none

pub returns-in_default-choose_family-2-clause-none : goal.returns-in_default-choose_family-2-clause-none
returns-in_default-choose_family-2-clause-none c =
    no_v6 (opens_of c.args.peer.now) c.args.head.now c.args.body.now c.args.last.now (framed_value c.in-Some.framed) c.in-Some.ensures.some c.id_use-agreed.result c.id_use-agreed.ensures c.in_default-choose_family-2.ensures.none

pub returns-then-not-judge_update-clause-none : goal.returns-then-not-judge_update-clause-none
returns-then-not-judge_update-clause-none c =
    subst (λ (x : FormsValue). (taken : FormsValue) (u : UpdateValue) → IsBodyInForms (opens_of c.args.peer.now) c.args.head.now c.args.body.now x taken u → ⊥) c.last.view_is
    (not_fitting (opens_of c.args.peer.now) c.args.head.now c.args.body.now (the_view c.last.inside) (framed_value c.in-Some.framed) c.in-Some.ensures.some c.id_use-agreed.result c.id_use-agreed.ensures _ _
    c.in-Some-choose_family.ensures.some c.in-Some-choose_family-2.ensures.some _ c.in-Some-choose_width.ensures.some _ _ c.width_in.ensures c.ids.ensures
    (λ u is. iff_false c.judge_update.ensures c.if-not-judge_update.true (u, is)))

pub returns-else-not-judge_update-clause-some : goal.returns-else-not-judge_update-clause-some
returns-else-not-judge_update-clause-some c =
    let p = c.judge_update.ensures.0 c.if-not-judge_update.false in (
      p.0,
      subst (λ (x : FormsValue). IsBodyInForms (opens_of c.args.peer.now) c.args.head.now c.args.body.now x (record { bare_v4 = c.in-Some-choose_family.bare_v4; bare_v6 = c.in-Some-choose_family-2.bare_v6; two_octets = c.in-Some-choose_width.two_octets }) p.0) c.last.view_is
          (in_fitting (opens_of c.args.peer.now) c.args.head.now c.args.body.now (the_view c.last.inside) (framed_value c.in-Some.framed) c.in-Some.ensures.some c.id_use-agreed.result c.id_use-agreed.ensures _ _
          c.in-Some-choose_family.ensures.some c.in-Some-choose_family-2.ensures.some _ c.in-Some-choose_width.ensures.some _ _ c.width_in.ensures c.ids.ensures p.0 p.1),
    )

pub returns-in-None-clause-some : goal.returns-in-None-clause-some
returns-in-None-clause-some c =
    subst (λ (x : FormsValue). (u : UpdateValue) × IsBodyInForms (opens_of c.args.peer.now) c.args.head.now c.args.body.now x (record { bare_v4 = c.in-Some-choose_family.bare_v4; bare_v6 = c.in-Some-choose_family-2.bare_v6; two_octets = c.last.inside.two_octets }) u) c.last.view_is
    (withdrawn_so (opens_of c.args.peer.now) c.args.head.now c.args.body.now (the_view c.last.inside) (framed_value c.in-Some.framed) c.in-Some.ensures.some c.id_use-agreed.result c.id_use-agreed.ensures _ _
    c.in-Some-choose_family.ensures.some c.in-Some-choose_family-2.ensures.some c.in-None.ensures.none)
