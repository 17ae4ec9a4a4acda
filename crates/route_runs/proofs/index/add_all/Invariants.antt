use Rattle.std.proofs.Common.{map, take}
use Rattle.std.specs.Arc.{arc_value}
use Rattle.route_runs.specs.Origins.{attrs_origin, AreAll}
use Rattle.route_runs.proofs.index.add_all.Given as goal

abbrev pub invariant-loop-run : goal.invariant-loop-run
invariant-loop-run g l = AreAll g.K.Ord.cmp g.K.TableKey.spot_of attrs_origin (take l.run-index (map arc_value l.runs)) l.pairs.items
