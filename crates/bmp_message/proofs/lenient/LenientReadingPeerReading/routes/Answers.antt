use Rattle.std.proofs.Common.{◌≡◌, ◌∷◌, [], None, Some, Err, sym, ap, subst, ◌∙◌}
use Rattle.std.specs.Arc.{arc_value}
use Rattle.std.proofs.lemmas.Result.{IfOk-weaker}
use Rattle.bmp_specs.specs.LenientBody.{OfPeerLeniently}
use Rattle.bmp_specs.specs.MessageBody.{route_monitoring}
use Rattle.bmp_specs.specs.Values.{orphan}
use Rattle.bmp_message.specs.Lenient.{KnownPeers, known_at, lenient_state}
use Rattle.bmp_message.specs.State.{opens_of}
use Rattle.bmp_message.proofs.LenientRoutes.{down_orphan, known_broken, known_unreadable}
use Rattle.bmp_message.proofs.lenient.LenientReadingPeerReading.routes.Goals as goal

pub returns-in_default-known-clause-ok : goal.returns-in_default-known-clause-ok
returns-in_default-known-clause-ok g c =
    let there : known_at c.args.self.now c.args.key.now ≡ Some None = sym (ap (λ (v : KnownPeers). known_at v c.args.key.now) c.self.view_is) ∙ sym c.in-Some.ensures.value ∙ ap Some c.in_default-known.is in
    IfOk-weaker c.orphan.result _ _ (λ made is. (orphan ∷ [], is, down_orphan c.args.self.now c.args.head.now c.args.key.now c.args.rest.now there)) c.orphan.ensures.ok

pub returns-then-is_untold-clause-ok : goal.returns-then-is_untold-clause-ok
returns-then-is_untold-clause-ok g c =
    let there : known_at c.args.self.now c.args.key.now ≡ Some (Some c.in-Some-known.peer) = sym (ap (λ (v : KnownPeers). known_at v c.args.key.now) c.self.view_is) ∙ sym c.in-Some.ensures.value ∙ ap Some c.in-Some-known.is in
    IfOk-weaker c.orphan-then-is_untold.result _ _
    (λ made is. (
      orphan ∷ [],
      is,
      subst (λ (v : KnownPeers). OfPeerLeniently route_monitoring (lenient_state c.args.self.now) c.args.head.now c.args.key.now c.args.rest.now (orphan ∷ []) (lenient_state v)) (sym c.self.view_is)
          (known_unreadable c.args.self.now c.args.head.now c.args.key.now c.args.rest.now c.in-Some-known.peer there (opens_of (arc_value c.info.result.now)) c.info.ensures c.shown-last.result c.view-view.result c.shown-last.ensures c.view-view.ensures
          (sym c.is_untold.ensures ∙ c.if-is_untold.true) (c.in-Err-Broken.ensures.broken (ap Err c.in-Err-Broken.field-0-is))),
    ))
    c.orphan-then-is_untold.ensures.ok

pub returns-else-is_untold-clause-broken : goal.returns-else-is_untold-clause-broken
returns-else-is_untold-clause-broken g c _ =
    let there : known_at c.args.self.now c.args.key.now ≡ Some (Some c.in-Some-known.peer) = sym (ap (λ (v : KnownPeers). known_at v c.args.key.now) c.self.view_is) ∙ sym c.in-Some.ensures.value ∙ ap Some c.in-Some-known.is in
    known_broken c.args.self.now c.args.head.now c.args.key.now c.args.rest.now c.in-Some-known.peer there (opens_of (arc_value c.info.result.now)) c.info.ensures c.shown-last.result c.view-view.result c.shown-last.ensures c.view-view.ensures
    (sym c.is_untold.ensures ∙ c.if-is_untold.false) (c.in-Err-Broken.ensures.broken (ap Err c.in-Err-Broken.field-0-is))
