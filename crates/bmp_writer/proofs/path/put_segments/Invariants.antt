use Rattle.std.proofs.Common.{take}
use Rattle.bmp_specs.specs.declared.wire.Width.TheVariants.{Four}
use Rattle.bmp_specs.specs.AsPath.{ArePath}
use Rattle.bmp_writer.specs.Written.{Appends}
use Rattle.bmp_writer.proofs.path.put_segments.Given as goal

abbrev pub invariant-loop-segment : goal.invariant-loop-segment
invariant-loop-segment l = Appends (λ bytes. ArePath Four bytes (take l.segment-index l.path)) l.fn.out l.out
