use Rattle.std.proofs.Common.{◌≤◌}
use Rattle.route_runs.proofs.cursor.few_on.Given as goal

abbrev pub invariant-loop-step : goal.invariant-loop-step
invariant-loop-step g l = l.passed ≤ l.step
