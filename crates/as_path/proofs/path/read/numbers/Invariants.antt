use Rattle.std.proofs.Common.{◌≡◌, ◌*◌, ◌-◌, length}
use Rattle.bmp_specs.specs.AsPath.{as_width, IsAsNumber}
use Rattle.bmp_specs.proofs.PartsRead.{HasRead}
use Rattle.as_path.proofs.path.read.numbers.Given as goal

abbrev pub invariant-loop : goal.invariant-loop
invariant-loop l = record {
  read : HasRead (IsAsNumber l.width) l.bytes l.numbers l.rest;
  left : length l.rest ≡ as_width l.width * (l.count - l.counter);
}
