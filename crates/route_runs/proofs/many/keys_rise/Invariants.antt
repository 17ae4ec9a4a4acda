use Rattle.route_runs.proofs.Rising.{RisesTo}
use Rattle.route_runs.proofs.many.keys_rise.Given as goal

abbrev pub invariant-loop-at : goal.invariant-loop-at
invariant-loop-at g l = RisesTo g.K.Ord.cmp (l.keys) l.at
