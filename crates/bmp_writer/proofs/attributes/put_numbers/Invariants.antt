use Rattle.std.proofs.Common.{take}
use Rattle.bmp_specs.specs.Number.{IsNumber}
use Rattle.bmp_specs.specs.Parts.{AreParts}
use Rattle.bmp_writer.specs.Written.{Appends}
use Rattle.bmp_writer.proofs.attributes.put_numbers.Given as goal

abbrev pub invariant-loop-number : goal.invariant-loop-number
invariant-loop-number l = Appends (λ bytes. AreParts (IsNumber 4) bytes (take l.number-index l.numbers)) l.fn.out l.out
