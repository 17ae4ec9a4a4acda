use Rattle.std.proofs.Common.{◌≡◌, take}
use Rattle.path_attrs.proofs.others.copy_others.Given as goal

abbrev pub invariant-loop-other : goal.invariant-loop-other
invariant-loop-other l = l.copy ≡ take l.other-index l.others
