use Rattle.std.proofs.Common.{map, take}
use Rattle.std.specs.Arc.{arc_value}
use Rattle.std.specs.List.{AllByRecursion}
use Rattle.route_runs.proofs.sets.sets_pass.Given as goal

abbrev pub invariant-loop-set : goal.invariant-loop-set
invariant-loop-set g l = AllByRecursion g.T.SetTest.passes (map arc_value (take l.set-index l.sets))
