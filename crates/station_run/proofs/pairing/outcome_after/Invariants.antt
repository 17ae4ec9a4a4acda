use Rattle.std.proofs.Common.{◌≡◌, take}
use Rattle.station_run.specs.Pairing.{ends, lanes_of, outcome_of}
use Rattle.station_run.proofs.pairing.outcome_after.Given as goal

abbrev pub invariant-loop-task : goal.invariant-loop-task
invariant-loop-task g l = l.outcome ≡ outcome_of (ends (lanes_of (take l.task-index l.tasks)))
