use Rattle.std.proofs.Common.{map}
use Rattle.std.specs.Arc.{arc_value}
use Rattle.route_runs.specs.Runs.{IsSettled}
use Rattle.route_runs.proofs.runs.settle.Given as goal

abbrev pub invariant-loop-kept : goal.invariant-loop-kept
invariant-loop-kept g l = IsSettled g.K.Ord.cmp (map arc_value l.runs) l.initial.own l.own l.kept

abbrev pub decreases-loop-kept : goal.decreases-loop-kept
decreases-loop-kept g l = l.kept
