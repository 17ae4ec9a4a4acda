use Rattle.std.proofs.Common.{length, false}
use Rattle.bmp_specs.specs.declared.wire.Family.TheVariants.{V4}
use Rattle.bgp_update.proofs.Reading.{ReadsItems}
use Rattle.bgp_update.proofs.items.add_plain_v4.Given as goal

abbrev pub invariant-loop-prefix : goal.invariant-loop-prefix
invariant-loop-prefix l = ReadsItems V4 false l.bytes l.rest l.initial.list l.list

abbrev pub decreases-loop-prefix : goal.decreases-loop-prefix
decreases-loop-prefix l = length l.rest
