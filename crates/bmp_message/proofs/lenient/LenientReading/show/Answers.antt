use Rattle.std.proofs.Common.{◌≡◌, Option, Some, refl, ap, subst, ◌∙◌}
use Rattle.std.specs.Option.{IsSome}
use Rattle.bmp_specs.specs.LenientState.{with_shown}
use Rattle.bmp_message.specs.Lenient.{KnownPeers, UpPeerValue, known_at, lenient_state, opens_known}
use Rattle.bmp_message.specs.contracts.lenient.LenientReading.{the_view}
use Rattle.bmp_message.proofs.KnownStates.{not_up, shows_so}
use Rattle.bmp_message.proofs.lenient.LenientReading.show.Goals as goal
use Rattle.bmp_message.proofs.lenient.LenientReading.show.Goals.{in-Some, in-None}

pub returns : goal.returns
returns c opens =
    subst (λ (v : KnownPeers). opens_known (known_at v c.args.key.now) ≡ Some opens → lenient_state (the_view c.match-get_mut.self-inside) ≡ with_shown (lenient_state v) c.args.key.now c.args.view opens c.args.taken.now) c.self.view_is
    (λ is_up. elim c.match-get_mut.branch [
      | in-Some w ↦ shows_so c.self.inside.peers.entries (the_view c.match-get_mut.self-inside) c.args.key.now w.in-Some.peer.now w.show_in.new.peer c.args.view c.args.taken.now w.in-Some.ensures.value w.show_in.ensures
          (λ q. ap (λ (es : KnownPeers). known_at es q) (ap the_view w.self-inside-is) ∙ ((c.get_mut.follows.holds w.show_in.new.peer).3 (subst (λ (o : Option (Option UpPeerValue)). IsSome o) w.in-Some.ensures.value refl)).0 q) opens is_up
      | in-None w ↦ not_up c.self.inside.peers.entries (the_view c.match-get_mut.self-inside) c.args.key.now c.args.view c.args.taken.now w.in-None.ensures.value opens is_up
    ])
