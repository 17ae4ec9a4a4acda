use Rattle.std.proofs.Common.{◌≡◌, ◌+◌, ◌≤◌, drop, map}
use Rattle.ip_prefix.proofs.Runs.{is_zero, ones, longest}
use Rattle.ip_prefix.proofs.texts.shortened_run.Given as goal

abbrev pub invariant-loop-i : goal.invariant-loop-i
invariant-loop-i l = record {
  start_is : l.start ≡ l.i + (longest (map is_zero (drop l.i l.groups))).0;
  longest_is : l.longest ≡ (longest (map is_zero (drop l.i l.groups))).1;
  run_is : l.run ≡ ones (map is_zero (drop l.i l.groups));
  run_within : l.i + l.run ≤ 8;
  within : l.start + l.longest ≤ 8;
}
