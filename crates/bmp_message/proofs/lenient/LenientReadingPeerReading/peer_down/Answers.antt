use Rattle.std.proofs.Common.{None, sym, ap, ◌∙◌}
use Rattle.bmp_specs.specs.LenientState.{with_told}
use Rattle.bmp_message.specs.Lenient.{KnownPeers, lenient_state}
use Rattle.bmp_message.proofs.KnownStates.{told_down, told_gone}
use Rattle.bmp_message.proofs.lenient.LenientReadingPeerReading.peer_down.Goals as goal

pub returns-then-not-is_loc_rib-clause-ok : goal.returns-then-not-is_loc_rib-clause-ok
returns-then-not-is_loc_rib-clause-ok c h =
    let down = c.in_ok-effects.ensures.ok in (
      down.0,
      down.1,
      down.2,
      told_gone c.self.inside.peers.entries c.remove.new.self.entries c.args.key.now (sym c.is_loc_rib.ensures ∙ c.if-not-is_loc_rib.true) c.remove.ensures.updates.0
          ∙ ap (λ (p : KnownPeers). with_told (lenient_state p) c.args.key.now None) c.self.view_is,
    )

pub returns-clause-ok : goal.returns-clause-ok
returns-clause-ok c h =
    let down = c.in_ok-effects.ensures.ok in (
      down.0,
      down.1,
      down.2,
      told_down c.self.inside.peers.entries c.insert.new.self.entries c.args.key.now (sym c.is_loc_rib.ensures ∙ c.if-not-is_loc_rib.false) c.in_ok-insert.ensures.updates.0
          ∙ ap (λ (p : KnownPeers). with_told (lenient_state p) c.args.key.now None) c.self.view_is,
    )
