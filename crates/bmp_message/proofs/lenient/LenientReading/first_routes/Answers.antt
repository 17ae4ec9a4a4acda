use Rattle.std.proofs.Common.{true, ◌∷◌, [], ◌++◌, Err, sym, ap, subst, ◌∙◌}
use Rattle.std.proofs.lemmas.Result.{IfOk-weaker}
use Rattle.std.specs.Arc.{arc_value}
use Rattle.bmp_specs.specs.LenientBody.{OfPeerLeniently}
use Rattle.bmp_specs.specs.MessageBody.{route_monitoring}
use Rattle.bmp_specs.specs.MessageEffects.{effects_of}
use Rattle.bmp_specs.specs.PeerHeader.{view_of}
use Rattle.bmp_specs.specs.Values.{orphan, routes}
use Rattle.bmp_message.specs.Lenient.{KnownPeers, UpPeerValue, known_at, lenient_state, up_if, with_forms}
use Rattle.bmp_message.proofs.LenientRoutes.{first_of_other, first_tells, first_unreadable}
use Rattle.bmp_message.proofs.lenient.LenientReading.first_routes.Goals as goal

pub returns-then-not-is_loc_rib-clause-ok : goal.returns-then-not-is_loc_rib-clause-ok
returns-then-not-is_loc_rib-clause-ok g c =
    IfOk-weaker c.orphan.result _ _
    (λ made is. (orphan ∷ [], is, first_of_other c.args.self.now c.args.head.now c.args.key.now c.args.rest.now c.requires (sym c.is_loc_rib.ensures ∙ c.if-not-is_loc_rib.true))) c.orphan.ensures.ok

pub returns-in-Ok-clause-ok : goal.returns-in-Ok-clause-ok
returns-in-Ok-clause-ok g c =
    let p = c.in-Ok.ensures.ok in
    let info = arc_value c.in_ok-info.info in
    let effects = up_if true c.args.key.now info ++ effects_of (routes c.args.key.now (view_of c.args.head.now) p.0) in (
      effects,
      p.2,
      subst (λ (v : KnownPeers). OfPeerLeniently route_monitoring (lenient_state v) c.args.head.now c.args.key.now c.args.rest.now effects (lenient_state c.insert.new.self.entries)) c.self.view_is
          (first_tells c.self.inside.peers.entries c.args.head.now c.args.key.now c.args.rest.now (ap (λ (v : KnownPeers). known_at v c.args.key.now) c.self.view_is ∙ c.requires) (sym c.is_loc_rib.ensures ∙ c.if-not-is_loc_rib.false) info
          (c.in_ok-info.ensures.ok ∙ c.implied_info.ensures) c.as_agreed-last.result c.as_agreed-last.ensures c.insert.new.self.entries c.show.new.self c.view.result c.in-Ok.taken c.view.ensures
          (c.show.ensures ∙ ap (λ (u : UpPeerValue). record u { shown = with_forms u.shown c.view.result c.in-Ok.taken }) c.new-peer.ensures) c.in_ok-insert-in-Ok.ensures.updates.0 p.0 p.1),
    )

pub returns-in-Err-Broken-clause-ok : goal.returns-in-Err-Broken-clause-ok
returns-in-Err-Broken-clause-ok g c =
    IfOk-weaker c.orphan-in-Err-Broken.result _ _
    (λ made is. (
      orphan ∷ [],
      is,
      subst (λ (v : KnownPeers). OfPeerLeniently route_monitoring (lenient_state c.args.self.now) c.args.head.now c.args.key.now c.args.rest.now (orphan ∷ []) (lenient_state v)) (sym c.self.view_is)
          (first_unreadable c.args.self.now c.args.head.now c.args.key.now c.args.rest.now c.requires (sym c.is_loc_rib.ensures ∙ c.if-not-is_loc_rib.false) (arc_value c.in_ok-info.info) (c.in_ok-info.ensures.ok ∙ c.implied_info.ensures)
          c.as_agreed-last.result c.as_agreed-last.ensures (c.in-Err-Broken.ensures.broken (ap Err c.in-Err-Broken.field-0-is))),
    ))
    c.orphan-in-Err-Broken.ensures.ok
