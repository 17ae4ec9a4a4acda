use Rattle.std.proofs.Common.{take}
use Rattle.bmp_specs.specs.Parts.{AreParts}
use Rattle.bmp_writer.specs.Capabilities.{IsPathEntry}
use Rattle.bmp_writer.specs.Written.{Appends}
use Rattle.bmp_writer.proofs.capabilities.put_entries.Given as goal

abbrev pub invariant-loop-cap : goal.invariant-loop-cap
invariant-loop-cap l = Appends (λ bytes. AreParts IsPathEntry bytes (take l.cap-index l.paths)) l.fn.out l.out
