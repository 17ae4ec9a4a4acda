use Rattle.std.proofs.Common.{◌≡◌, ◌+◌, take}
use Rattle.bmp_writer.specs.WrittenAttributes.{others_size}
use Rattle.bmp_writer.proofs.others.left_by_others.Given as goal

abbrev pub invariant-loop-other : goal.invariant-loop-other
invariant-loop-other l = l.left + others_size (take l.other-index l.others) ≡ l.room
