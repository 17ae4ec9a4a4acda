use Rattle.std.proofs.Common.{map}
use Rattle.std.specs.Arc.{arc_value}
use Rattle.route_runs.specs.Sift.{rows_left, AreSpots}
use Rattle.route_runs.proofs.spots.next_by_spots.Given as goal

abbrev pub invariant-loop-found : goal.invariant-loop-found
invariant-loop-found g l = AreSpots g.K.Ord.cmp (g.T.RouteTest.passes l.test) l.fn.place (map arc_value l.runs) l.spots

abbrev pub decreases-loop-found : goal.decreases-loop-found
decreases-loop-found g l = rows_left (map arc_value l.runs) l.spots
