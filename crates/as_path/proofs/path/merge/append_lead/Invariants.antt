use Rattle.std.proofs.Common.{◌≡◌, ◌++◌, drop}
use Rattle.bmp_specs.specs.MergedPath.{lead}
use Rattle.as_path.proofs.path.merge.append_lead.Given as goal

abbrev pub invariant-loop-segment : goal.invariant-loop-segment
invariant-loop-segment l = l.initial.path ++ lead l.count l.segments ≡ l.path ++ lead l.left (drop l.segment-index l.segments)
