-- A number on the wire: so many bytes, the highest first.
use Rattle.std.specs.Prelude.{◌≡◌, ℕ, List, length}
use Rattle.byteorder.specs.Endian.{big_number}

-- these many bytes are the number
pub record IsNumber (n : ℕ) (bytes : List ℕ) (value : ℕ) : Type 0 where
  pub len : length bytes ≡ n
  pub value_is : big_number n bytes ≡ value
