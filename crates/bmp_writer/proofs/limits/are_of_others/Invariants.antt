use Rattle.std.proofs.Common.{take}
use Rattle.std.specs.List.{AllByRecursion}
use Rattle.bmp_writer.specs.WrittenRoutes.{IsOtherCode}
use Rattle.bmp_writer.proofs.limits.are_of_others.Given as goal

abbrev pub invariant-loop-other : goal.invariant-loop-other
invariant-loop-other l = AllByRecursion (IsOtherCode l.code) (take l.other-index l.others)
