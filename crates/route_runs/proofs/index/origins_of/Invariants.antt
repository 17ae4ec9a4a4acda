use Rattle.std.proofs.Common.{◌≡◌, map, take}
use Rattle.std.specs.Arc.{arc_value}
use Rattle.route_runs.specs.Origins.{attrs_origin}
use Rattle.route_runs.proofs.index.origins_of.Given as goal

abbrev pub invariant-loop-set : goal.invariant-loop-set
invariant-loop-set l = l.list.items ≡ map attrs_origin (map arc_value (take l.set-index l.pack))
