use Rattle.bmp_specs.specs.Query.{count}
use Rattle.query_lang.specs.TraitValues.{traits_value}
use Rattle.query_eval.proofs.LaneSteps.{CountsSoFar}
use Rattle.query_eval.proofs.lanes.count_all.Given as goal

abbrev pub invariant-loop-lane : goal.invariant-loop-lane
invariant-loop-lane l = CountsSoFar l.cut (count l.select) (traits_value l.traits) l.lane l.count
