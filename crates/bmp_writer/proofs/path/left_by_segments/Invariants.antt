use Rattle.std.proofs.Common.{◌≡◌, ◌+◌, take}
use Rattle.bmp_writer.specs.WrittenAttributes.{segments_size}
use Rattle.bmp_writer.proofs.path.left_by_segments.Given as goal

abbrev pub invariant-loop-segment : goal.invariant-loop-segment
invariant-loop-segment l = l.left + segments_size (take l.segment-index l.path) ≡ l.room
