use Rattle.std.proofs.Common.{◌≡◌, ◌*◌, ◌-◌, length}
use Rattle.bmp_specs.specs.AsPath.{as_width}
use Rattle.as_path.proofs.Passing.{PassesNumbers}
use Rattle.as_path.proofs.path.zero.none_zero.Given as goal

abbrev pub invariant-loop : goal.invariant-loop
invariant-loop l = record {
  passes : PassesNumbers l.width l.bytes l.rest;
  left : length l.rest ≡ as_width l.width * (l.count - l.counter);
}
