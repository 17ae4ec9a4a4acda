use Rattle.std.proofs.Common.{length}
use Rattle.station_run.proofs.Drilled.{Asking}
use Rattle.station_run.proofs.drilling.add_askers.Given as goal

abbrev pub invariant-loop-pass : goal.invariant-loop-pass
invariant-loop-pass l = Asking l.fn.tasks.items l.tasks.items l.fn.asks l.asks

abbrev pub decreases-loop-pass : goal.decreases-loop-pass
decreases-loop-pass l = length l.asks
