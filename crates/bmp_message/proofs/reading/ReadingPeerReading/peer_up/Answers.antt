use Rattle.std.proofs.Common.{◌≡◌, ℕ, ◌∷◌, Some, refl, ap, ◌∙◌}
use Rattle.std.specs.Arc.{arc_value}
use Rattle.std.proofs.lemmas.Result.{err_from_is_err_and}
use Rattle.bmp_specs.specs.MessageBody.{with_peer}
use Rattle.bmp_specs.specs.MessageEffects.{unread_effect}
use Rattle.bmp_specs.specs.Values.{PeerInfoValue, PeerUpValue, peer_up, up}
use Rattle.bmp_message.specs.State.{UpPeers, opens_of, reading_state}
use Rattle.wire_io.proofs.Faults.{broken_below}
use Rattle.bmp_message.proofs.Peers.{state_after}
use Rattle.bmp_message.proofs.reading.ReadingPeerReading.peer_up.Goals as goal

pub returns-in_err-up-clause-broken : goal.returns-in_err-up-clause-broken
returns-in_err-up-clause-broken c =
    let p = err_from_is_err_and c.from_residual.result c.from_residual.ensures.1 in
    rw (p.1, p.2) (λ broken effects next q. c.in_err-up.ensures.broken (broken_below _ broken) q.means.0 q.means.1)

pub returns-clause-ok : goal.returns-clause-ok
returns-clause-ok c =
    let key = c.args.key.now in
    let told : PeerUpValue = c.in_ok-up.up in
    let kept : PeerInfoValue = arc_value c.in_ok-info.info in
    let info : kept ≡ told.info = c.in_ok-info.ensures.ok ∙ ap (λ (u : PeerUpValue). u.info) c.up.view_is in
    let unread : c.up.inside.unread ≡ told.unread = ap (λ (u : PeerUpValue). u.unread) c.up.view_is in
    record {
      value = peer_up key told;
      means = (
        told,
        c.in_ok-up.ensures.ok,
        refl,
        state_after c.self.inside.peers.entries c.insert.new.self.entries key (Some c.in_ok-info.info) c.in_ok-insert.ensures.updates.0
            ∙ ap (λ (s : UpPeers). with_peer (reading_state s) key (Some (opens_of kept))) c.self.view_is
            ∙ ap (λ (i : PeerInfoValue). with_peer (reading_state c.args.self.now) key (Some (opens_of i))) info,
      );
      effects_are =
          c.in_ok-effects.ensures
          ∙ ap (λ (i : PeerInfoValue). up key i ∷ unread_effect c.up.inside.unread) info
          ∙ ap (λ (n : ℕ). up key told.info ∷ unread_effect n) unread;
    }
