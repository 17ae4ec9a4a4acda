use Rattle.std.proofs.Common.{◌≡◌}
use Rattle.feed_worker.proofs.peers.tell_effects.Given as goal

abbrev pub invariant-loop-effect : goal.invariant-loop-effect
invariant-loop-effect g l = record {
  aside : g.P.Port.aside l.port ≡ g.P.Port.aside l.initial.port;
  calls : g.P.Port.calls l.port ≡ g.P.Port.calls l.initial.port;
  causes : g.P.Port.causes l.port ≡ g.P.Port.causes l.initial.port;
  tells : g.P.Port.tells l.port ≡ g.P.Port.tells l.initial.port;
}
