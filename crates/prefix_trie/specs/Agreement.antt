-- How many first bits two lists of bytes share.
use Rattle.std.specs.Prelude.{◌≡◌, ℕ, ◌*◌, ◌≤◌, List, length}
use Rattle.bmp_specs.specs.Prefix.{first_bits}

-- the first n bits of both are the same, and no more
pub record AgreesFor (xs ys : List ℕ) (n : ℕ) : Type 0 where
  pub within : n ≤ 8 * length xs
  pub agree : first_bits n xs ≡ first_bits n ys
  pub most : (m : ℕ) → m ≤ 8 * length xs → first_bits m xs ≡ first_bits m ys → m ≤ n
