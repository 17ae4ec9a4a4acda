use Rattle.std.proofs.Common.{◌∷◌, [], None, Some, refl, sym, ap, subst, ◌∙◌}
use Rattle.std.proofs.lemmas.Result.{IfOk-weaker}
use Rattle.bmp_specs.specs.MessageBody.{OfPeer, route_monitoring}
use Rattle.bmp_specs.specs.MessageEffects.{effects_of}
use Rattle.bmp_specs.specs.PeerHeader.{view_of}
use Rattle.bmp_specs.specs.Values.{PeerInfoValue, orphan, routes}
use Rattle.bmp_message.specs.Effects.{HasEffects}
use Rattle.bmp_message.specs.State.{UpPeers, opens_of, reading_state}
use Rattle.bmp_message.proofs.Meanings.{known_routes, no_routes, orphan_routes}
use Rattle.bmp_message.proofs.Peers.{found_at}
use Rattle.bmp_message.proofs.reading.ReadingPeerReading.routes.Goals as goal

pub returns-in-Some-clause-ok : goal.returns-in-Some-clause-ok
returns-in-Some-clause-ok g c =
    let found = ap (λ (s : UpPeers). reading_state s c.args.key.now) (sym c.self.view_is) ∙ found_at c.self.inside.peers.entries c.args.key.now (Some c.in-Some.peer.now) c.in-Some.ensures.value
    ∙ ap (λ (i : PeerInfoValue). Some (opens_of i)) (sym c.deref.ensures) in
    IfOk-weaker c.routes.result _ _
    (λ made p.
    let effects = effects_of (routes c.args.key.now (view_of c.args.head.now) p.0) in (
      effects,
      p.2,
      subst (λ (s : UpPeers). HasEffects (OfPeer route_monitoring (reading_state c.args.self.now) c.args.head.now c.args.key.now c.args.rest.now) effects (reading_state s)) (sym c.self.view_is)
          (known_routes (reading_state c.args.self.now) c.args.head.now c.args.key.now c.args.rest.now (opens_of c.deref.result.now) found _ (p.0, p.1, refl)),
    ))
    c.routes.ensures.ok

pub returns-in-Some-clause-broken : goal.returns-in-Some-clause-broken
returns-in-Some-clause-broken g c broken =
    let found = ap (λ (s : UpPeers). reading_state s c.args.key.now) (sym c.self.view_is) ∙ found_at c.self.inside.peers.entries c.args.key.now (Some c.in-Some.peer.now) c.in-Some.ensures.value
    ∙ ap (λ (i : PeerInfoValue). Some (opens_of i)) (sym c.deref.ensures) in
    no_routes (reading_state c.args.self.now) c.args.head.now c.args.key.now c.args.rest.now (opens_of c.deref.result.now) found (c.routes.ensures.broken broken)

pub returns-in-None-clause-ok : goal.returns-in-None-clause-ok
returns-in-None-clause-ok g c =
    let none = ap (λ (s : UpPeers). reading_state s c.args.key.now) (sym c.self.view_is) ∙ found_at c.self.inside.peers.entries c.args.key.now None c.in-None.ensures.value in
    IfOk-weaker c.orphan.result _ _ (λ made is. (orphan ∷ [], is, orphan_routes (reading_state c.args.self.now) c.args.head.now c.args.key.now c.args.rest.now (orphan ∷ []) none refl)) c.orphan.ensures.ok
