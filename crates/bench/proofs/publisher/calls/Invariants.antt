use Rattle.std.proofs.Common.{◌≡◌}
use Rattle.bench.proofs.publisher.calls.Given as goal

abbrev pub invariant-loop : goal.invariant-loop
invariant-loop g l = l.feed.station ≡ g.J.Naming.site
