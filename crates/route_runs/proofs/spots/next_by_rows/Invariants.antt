use Rattle.std.proofs.Common.{Some, length, map}
use Rattle.std.specs.Arc.{arc_value}
use Rattle.std.specs.List.{filter}
use Rattle.route_runs.specs.Places.{is_after, IsPassed}
use Rattle.route_runs.specs.Runs.{joined, latest, seen}
use Rattle.route_runs.specs.Sift.{passing}
use Rattle.route_runs.proofs.spots.next_by_rows.Given as goal

abbrev pub invariant-loop-found : goal.invariant-loop-found
invariant-loop-found g l = IsPassed g.K.Ord.cmp (λ q. Some (passing (g.T.RouteTest.passes l.test) (seen (latest g.K.Ord.cmp q (map arc_value l.runs))))) l.fn.place l.at

abbrev pub decreases-loop-found : goal.decreases-loop-found
decreases-loop-found g l = length (filter (λ e. is_after g.K.Ord.cmp l.at e.0) (joined (map arc_value l.runs)))
