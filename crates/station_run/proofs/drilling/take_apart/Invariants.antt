use Rattle.std.proofs.Common.{ℕ, length}
use Rattle.cut_publisher.specs.History.{Site}
use Rattle.station_run.specs.Drill.{AreWorks, Ends}
use Rattle.station_run.proofs.Drilled.{Apart}
use Rattle.station_run.proofs.drilling.take_apart.Given as goal

abbrev pub invariant-loop-task : goal.invariant-loop-task
invariant-loop-task l = (seed messages : ℕ) (b : Site) (lanes : ℕ) → AreWorks (Ends seed messages b) lanes l.fn.tasks.items → Apart seed messages b lanes l.tasks.items l.feeds l.asks

abbrev pub decreases-loop-task : goal.decreases-loop-task
decreases-loop-task l = length l.tasks.items
