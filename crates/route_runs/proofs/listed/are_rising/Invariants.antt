use Rattle.std.specs.Map.{keys_of}
use Rattle.route_runs.proofs.Rising.{RisesTo}
use Rattle.route_runs.proofs.listed.are_rising.Given as goal

abbrev pub invariant-loop-at : goal.invariant-loop-at
invariant-loop-at g l = RisesTo g.K.Ord.cmp (keys_of l.rows) l.at
