use Rattle.std.proofs.Common.{map, take}
use Rattle.std.specs.Arc.{arc_value}
use Rattle.route_runs.specs.Places.{turned, IsNext, has_latest}
use Rattle.route_runs.proofs.back.greatest.Given as goal

abbrev pub invariant-loop-run : goal.invariant-loop-run
invariant-loop-run g l = IsNext (turned g.K.Ord.cmp) l.place (has_latest g.K.Ord.cmp (take l.run-index (map arc_value l.runs))) l.best
