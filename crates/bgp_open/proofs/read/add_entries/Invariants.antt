use Rattle.std.proofs.Common.{◌≡◌, ◌++◌, length}
use Rattle.bmp_specs.specs.Open.{entries}
use Rattle.bgp_open.proofs.read.add_entries.Given as goal

abbrev pub invariant-loop-rest : goal.invariant-loop-rest
invariant-loop-rest l = l.initial.paths ++ entries l.value ≡ l.paths ++ entries l.rest

abbrev pub decreases-loop-rest : goal.decreases-loop-rest
decreases-loop-rest l = length l.rest
