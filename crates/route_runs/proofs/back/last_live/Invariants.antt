use Rattle.std.proofs.Common.{length, map}
use Rattle.std.specs.Arc.{arc_value}
use Rattle.std.specs.List.{filter}
use Rattle.route_runs.specs.Places.{IsPassed, is_after, turned}
use Rattle.route_runs.specs.Runs.{joined, latest}
use Rattle.route_runs.proofs.back.last_live.Given as goal

abbrev pub invariant-loop-key : goal.invariant-loop-key
invariant-loop-key g l = IsPassed (turned g.K.Ord.cmp) (λ q. latest g.K.Ord.cmp q (map arc_value l.runs)) l.initial.at l.at

abbrev pub decreases-loop-key : goal.decreases-loop-key
decreases-loop-key g l = length (filter (λ e. is_after (turned g.K.Ord.cmp) l.at e.0) (joined (map arc_value l.runs)))
