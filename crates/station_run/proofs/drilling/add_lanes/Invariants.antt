use Rattle.std.proofs.Common.{ℕ, length}
use Rattle.cut_publisher.specs.History.{Site}
use Rattle.cut_publisher.specs.Opening.{AreFreshFeeds}
use Rattle.station_run.proofs.Drilled.{Adding}
use Rattle.station_run.proofs.drilling.add_lanes.Given as goal

abbrev pub invariant-loop-pass : goal.invariant-loop-pass
invariant-loop-pass l = (b : Site) (lanes : ℕ) → AreFreshFeeds b lanes l.fn.feeds → Adding l.seed l.messages b lanes l.feeds l.tasks.items

abbrev pub decreases-loop-pass : goal.decreases-loop-pass
decreases-loop-pass l = length l.feeds
