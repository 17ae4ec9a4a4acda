use Rattle.std.proofs.Common.{take}
use Rattle.std.specs.List.{AllByRecursion}
use Rattle.bmp_writer.specs.WrittenRoutes.{IsKeptForm}
use Rattle.bmp_writer.proofs.limits.are_kept.Given as goal

abbrev pub invariant-loop-other : goal.invariant-loop-other
invariant-loop-other l = AllByRecursion IsKeptForm (take l.other-index l.others)
