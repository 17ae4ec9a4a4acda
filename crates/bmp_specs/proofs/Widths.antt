-- No address has more than 128 bits.
use Rattle.std.proofs.Common.{◌≤◌, arith}
use Rattle.bmp_specs.specs.declared.wire.Family.{Family}
use Rattle.bmp_specs.specs.declared.wire.Family.TheVariants.{V4, V6}
use Rattle.bmp_specs.specs.Prefix.{width_of}

pub width_within : (family : Family) → width_of family ≤ 128
width_within V4 = omega arith
width_within V6 = omega arith
