use Rattle.std.proofs.Common.{◌≡◌}
use Rattle.station_tests.proofs.publications.threads.run_asker.Given as goal

abbrev pub invariant-loop : goal.invariant-loop
invariant-loop l = l.ask.station ≡ l.initial.ask.station
