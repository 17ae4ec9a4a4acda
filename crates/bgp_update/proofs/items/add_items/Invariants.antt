use Rattle.std.proofs.Common.{length}
use Rattle.bgp_update.proofs.Reading.{ReadsItems}
use Rattle.bgp_update.proofs.items.add_items.Given as goal

abbrev pub invariant-loop-nlri : goal.invariant-loop-nlri
invariant-loop-nlri l = ReadsItems l.family l.identified l.bytes l.rest l.initial.list l.list

abbrev pub decreases-loop-nlri : goal.decreases-loop-nlri
decreases-loop-nlri l = length l.rest
