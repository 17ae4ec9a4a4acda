use Rattle.std.proofs.Common.{◌≡◌, ◌%◌, length}
use Rattle.bmp_specs.specs.Number.{IsNumber}
use Rattle.bmp_specs.proofs.PartsRead.{HasRead}
use Rattle.path_attrs.proofs.values.numbers_of.Given as goal

abbrev pub invariant-loop-rest : goal.invariant-loop-rest
invariant-loop-rest l = record {
  read : HasRead (IsNumber 4) l.bytes l.numbers l.rest;
  whole : length l.rest % 4 ≡ 0;
}

abbrev pub decreases-loop-rest : goal.decreases-loop-rest
decreases-loop-rest l = length l.rest
