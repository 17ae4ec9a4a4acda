use Rattle.std.proofs.Common.{take}
use Rattle.std.specs.List.{AllByRecursion}
use Rattle.bmp_writer.specs.WrittenRoutes.{IsAlike}
use Rattle.bmp_writer.proofs.limits.are_alike.Given as goal

abbrev pub invariant-loop-nlri : goal.invariant-loop-nlri
invariant-loop-nlri l = AllByRecursion (IsAlike l.family l.ids) (take l.nlri-index l.list)
