use Rattle.query_lang.specs.TraitValues.{traits_value}
use Rattle.std.proofs.Common.{◌≡◌, length}
use Rattle.std.specs.List.{filter}
use Rattle.query_eval.specs.Rows.{passes}
use Rattle.query_eval.specs.RowRuns.{front_of}
use Rattle.query_eval.proofs.kept.next_kept.Given as goal

abbrev pub invariant-loop-found : goal.invariant-loop-found
invariant-loop-found g l = filter (passes (traits_value l.traits)) (front_of l.run (g.W.Pairs.left l.fn.walk)) ≡ filter (passes (traits_value l.traits)) (front_of l.run (g.W.Pairs.left l.walk))

abbrev pub decreases-loop-found : goal.decreases-loop-found
decreases-loop-found g l = length (g.W.Pairs.left l.walk)
