use Rattle.std.proofs.Common.{length}
use Rattle.cut_publisher.specs.Opening.{AreFeedsOf}
use Rattle.bench.proofs.serving.lanes.lanes_of.Given as goal

abbrev pub invariant-loop-pass : goal.invariant-loop-pass
invariant-loop-pass g l = AreFeedsOf g.J.Naming.site l.feeds

abbrev pub decreases-loop-pass : goal.decreases-loop-pass
decreases-loop-pass g l = length l.feeds
