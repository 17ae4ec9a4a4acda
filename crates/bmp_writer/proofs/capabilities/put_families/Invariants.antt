use Rattle.std.proofs.Common.{take}
use Rattle.bmp_specs.specs.Parts.{AreParts}
use Rattle.bmp_writer.specs.Capabilities.{IsFamilyCapability}
use Rattle.bmp_writer.specs.Written.{Appends}
use Rattle.bmp_writer.proofs.capabilities.put_families.Given as goal

abbrev pub invariant-loop-cap : goal.invariant-loop-cap
invariant-loop-cap l = Appends (λ bytes. AreParts IsFamilyCapability bytes (take l.cap-index l.families)) l.fn.out l.out
