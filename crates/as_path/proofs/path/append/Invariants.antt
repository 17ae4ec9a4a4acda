use Rattle.std.proofs.Common.{◌≡◌, ◌++◌, take}
use Rattle.as_path.proofs.path.append.Given as goal

abbrev pub invariant-loop-segment : goal.invariant-loop-segment
invariant-loop-segment l = l.segments ≡ l.initial.segments ++ take l.segment-index l.more
