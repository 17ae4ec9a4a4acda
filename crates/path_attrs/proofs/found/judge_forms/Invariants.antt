use Rattle.std.proofs.Common.{length}
use Rattle.std.specs.Prelude.{option_copied}
use Rattle.path_attrs.proofs.Gathering.{Judges}
use Rattle.path_attrs.proofs.found.judge_forms.Given as goal

abbrev pub invariant-loop-rest : goal.invariant-loop-rest
invariant-loop-rest l = Judges l.width l.field l.rest l.seen l.count (option_copied l.reach) (option_copied l.unreach)

abbrev pub decreases-loop-rest : goal.decreases-loop-rest
decreases-loop-rest l = length l.rest
