use Rattle.std.proofs.Common.{take}
use Rattle.bmp_writer.specs.Written.{Appends}
use Rattle.bmp_writer.specs.WrittenAttributes.{AreOthers}
use Rattle.bmp_writer.proofs.others.put_others.Given as goal

abbrev pub invariant-loop-other : goal.invariant-loop-other
invariant-loop-other l = Appends (AreOthers (take l.other-index l.others)) l.fn.out l.out
