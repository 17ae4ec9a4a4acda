use Rattle.std.proofs.Common.{◌≡◌, eqb, ℕ, ◌∷◌, Some, ap, ◌∙◌}
use Rattle.std.specs.Arc.{arc_value}
use Rattle.std.proofs.lemmas.Result.{err_from_is_err_and}
use Rattle.bmp_specs.specs.LenientState.{with_told}
use Rattle.bmp_specs.specs.MessageEffects.{unread_effect}
use Rattle.bmp_specs.specs.PeerHeader.{loc_rib}
use Rattle.bmp_specs.specs.Values.{PeerInfoValue, PeerUpValue, up}
use Rattle.bmp_message.specs.Lenient.{KnownPeers, lenient_state, nothing_shown}
use Rattle.bmp_message.specs.State.{opens_of}
use Rattle.wire_io.proofs.Faults.{broken_below}
use Rattle.bmp_message.proofs.KnownStates.{told_up}
use Rattle.bmp_message.proofs.lenient.LenientReadingPeerReading.peer_up.Goals as goal

pub returns-in_err-up-clause-broken : goal.returns-in_err-up-clause-broken
returns-in_err-up-clause-broken c =
    let p = err_from_is_err_and c.from_residual.result c.from_residual.ensures.1 in
    rw (p.1, p.2) (λ broken effects next q. c.in_err-up.ensures.broken (broken_below _ broken) q.0 q.1)

pub returns-clause-ok : goal.returns-clause-ok
returns-clause-ok c =
    let key = c.args.key.now in
    let told : PeerUpValue = c.in_ok-up.up in
    let kept : PeerInfoValue = arc_value c.in_ok-info.info in
    let info : kept ≡ told.info = c.in_ok-info.ensures.ok ∙ ap (λ (u : PeerUpValue). u.info) c.up.view_is in
    let unread : c.up.inside.unread ≡ told.unread = ap (λ (u : PeerUpValue). u.unread) c.up.view_is in
    let peer : c.new-peer.result ≡ record { opens = opens_of kept; told = eqb c.args.key.now.kind loc_rib; shown = nothing_shown } = c.new-peer.ensures ∙ (λ i. record { opens = opens_of kept; told = c.is_loc_rib.ensures i; shown = nothing_shown }) in (
      told,
      c.in_ok-up.ensures.ok,
      c.in_ok-effects.ensures
          ∙ ap (λ (i : PeerInfoValue). up key i ∷ unread_effect c.up.inside.unread) info
          ∙ ap (λ (n : ℕ). up key told.info ∷ unread_effect n) unread,
      told_up c.self.inside.peers.entries c.insert.new.self.entries key c.new-peer.result (opens_of kept) peer c.in_ok-insert.ensures.updates.0
          ∙ ap (λ (p : KnownPeers). with_told (lenient_state p) key (Some (opens_of kept))) c.self.view_is
          ∙ ap (λ (i : PeerInfoValue). with_told (lenient_state c.args.self.now) key (Some (opens_of i))) info,
    )
