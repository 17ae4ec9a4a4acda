use Rattle.std.proofs.Common.{◌-◌, drop, length}
use Rattle.bmp_writer.proofs.Carrying.{Distinct}
use Rattle.bmp_writer.proofs.limits.are_distinct.Given as goal

abbrev pub invariant-loop-place : goal.invariant-loop-place
invariant-loop-place l = Distinct (drop (length l.others - l.place) l.others)
