use Rattle.std.proofs.Common.{length, map}
use Rattle.std.specs.Arc.{arc_value}
use Rattle.std.specs.List.{filter}
use Rattle.route_runs.specs.Places.{IsPassed, is_after}
use Rattle.route_runs.specs.Runs.{joined, latest}
use Rattle.route_runs.proofs.cursor.first_near.Given as goal

abbrev pub invariant-loop-row : goal.invariant-loop-row
invariant-loop-row g l = IsPassed g.K.Ord.cmp (λ q. latest g.K.Ord.cmp q (map arc_value l.runs)) l.initial.at l.at

abbrev pub decreases-loop-row : goal.decreases-loop-row
decreases-loop-row g l = length (filter (λ e. is_after g.K.Ord.cmp l.at e.0) (joined (map arc_value l.runs)))
