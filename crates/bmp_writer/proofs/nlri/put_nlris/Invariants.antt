use Rattle.std.proofs.Common.{take}
use Rattle.bmp_writer.specs.Written.{Appends}
use Rattle.bmp_writer.specs.WrittenNlri.{AreOwnNlri}
use Rattle.bmp_writer.proofs.nlri.put_nlris.Given as goal

abbrev pub invariant-loop-nlri : goal.invariant-loop-nlri
invariant-loop-nlri l = Appends (AreOwnNlri (take l.nlri-index l.list)) l.fn.out l.out
