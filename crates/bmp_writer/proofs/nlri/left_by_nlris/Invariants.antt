use Rattle.std.proofs.Common.{◌≡◌, ◌+◌, take}
use Rattle.bmp_writer.specs.WrittenNlri.{nlris_size}
use Rattle.bmp_writer.proofs.nlri.left_by_nlris.Given as goal

abbrev pub invariant-loop-nlri : goal.invariant-loop-nlri
invariant-loop-nlri l = l.left + nlris_size (take l.nlri-index l.list) ≡ l.room
