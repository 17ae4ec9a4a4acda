use Rattle.std.proofs.Common.{◌≡◌}
use Rattle.station_tests.proofs.publications.threads.run_lane.Given as goal

abbrev pub invariant-loop-number : goal.invariant-loop-number
invariant-loop-number g l = l.feed.station ≡ g.J.Naming.site
