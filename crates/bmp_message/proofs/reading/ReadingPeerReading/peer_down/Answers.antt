use Rattle.std.proofs.Common.{None, refl, ap, ◌∙◌}
use Rattle.bmp_specs.specs.MessageBody.{with_peer}
use Rattle.bmp_specs.specs.Values.{peer_down}
use Rattle.bmp_message.specs.State.{UpPeers, reading_state}
use Rattle.bmp_message.proofs.Peers.{state_after}
use Rattle.bmp_message.proofs.reading.ReadingPeerReading.peer_down.Goals as goal

pub returns-clause-ok : goal.returns-clause-ok
returns-clause-ok c h =
    let key = c.args.key.now in
    let down = c.in_ok-effects.ensures.ok in
    record {
      value = peer_down key down.0;
      means = (
        down.0,
        down.1,
        refl,
        state_after c.self.inside.peers.entries c.remove.new.self.entries key None c.remove.ensures.updates.0 ∙ ap (λ (s : UpPeers). with_peer (reading_state s) key None) c.self.view_is,
      );
      effects_are = down.2;
    }
