use Rattle.std.proofs.Common.{◌≡◌}
use Rattle.feed_worker.proofs.peers.tell_entries.Given as goal

abbrev pub invariant-loop-entry : goal.invariant-loop-entry
invariant-loop-entry g l = record {
  aside : g.P.Port.aside l.port ≡ g.P.Port.aside l.initial.port;
  calls : g.P.Port.calls l.port ≡ g.P.Port.calls l.initial.port;
  causes : g.P.Port.causes l.port ≡ g.P.Port.causes l.initial.port;
  tells : g.P.Port.tells l.port ≡ g.P.Port.tells l.initial.port;
}
