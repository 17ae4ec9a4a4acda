use Rattle.std.proofs.Common.{take}
use Rattle.std.specs.List.{AllByRecursion}
use Rattle.bmp_writer.specs.WrittenAttributes.{IsShortSegment}
use Rattle.bmp_writer.proofs.path.are_short_segments.Given as goal

abbrev pub invariant-loop-segment : goal.invariant-loop-segment
invariant-loop-segment l = AllByRecursion IsShortSegment (take l.segment-index l.path)
