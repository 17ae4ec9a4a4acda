use Rattle.std.proofs.Common.{map, take}
use Rattle.std.specs.Arc.{arc_value}
use Rattle.std.specs.List.{AllByRecursion}
use Rattle.route_runs.specs.Sets.{RowPasses}
use Rattle.route_runs.proofs.sets.runs_pass.Given as goal

abbrev pub invariant-loop-run : goal.invariant-loop-run
invariant-loop-run g l = AllByRecursion (λ rows. AllByRecursion (RowPasses g.K.TableKey.is_marked l.ids g.T.SetTest.passes) rows) (map arc_value (take l.run-index l.runs))
