-- Counts that end at the greatest number of 64 bits, added up one after another.
use Rattle.std.proofs.Common.{◌≡◌, ℕ, ◌+◌, ◌-◌, arith}
use Rattle.bmp_specs.specs.Reply.{told_count}

-- adding to a count that has ended leaves it there
pub told_sum : (m n : ℕ) → told_count (told_count m + n) ≡ told_count (m + n)
told_sum m n = omega arith
