use Rattle.std.proofs.Common.{map, take}
use Rattle.std.specs.Arc.{arc_value}
use Rattle.std.specs.Option.{option_map}
use Rattle.route_runs.specs.Places.{told, turned, is_from, IsFirst}
use Rattle.route_runs.specs.Runs.{latest}
use Rattle.route_runs.proofs.back.last_row.Given as goal

abbrev pub invariant-loop-run : goal.invariant-loop-run
invariant-loop-run g l = IsFirst (turned g.K.Ord.cmp) (is_from (turned g.K.Ord.cmp) l.place) (λ q. latest g.K.Ord.cmp q (take l.run-index (map arc_value l.runs))) (option_map told l.last)
