use Rattle.std.proofs.Common.{◌≡◌, length}
use Rattle.rov_table.specs.Index.{AreParents}
use Rattle.rov_table.proofs.table.parents_of.Given as goal

abbrev pub invariant-loop-i : goal.invariant-loop-i
invariant-loop-i l = AreParents l.sorted l.parents.items × (length l.parents.items ≡ l.i)
