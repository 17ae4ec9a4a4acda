use Rattle.std.proofs.Common.{length}
use Rattle.bgp_update.proofs.Counting.{CountsItems}
use Rattle.bgp_update.proofs.sizes.item_count.Given as goal

abbrev pub invariant-loop-rest : goal.invariant-loop-rest
invariant-loop-rest l = CountsItems l.family l.identified l.bytes l.rest l.count

abbrev pub decreases-loop-rest : goal.decreases-loop-rest
decreases-loop-rest l = length l.rest
