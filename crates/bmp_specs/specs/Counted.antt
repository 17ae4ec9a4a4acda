-- A field after its length in two octets, as the Withdrawn Routes and the Path Attributes of an UPDATE message (RFC
-- 4271, section 4.3).
use Rattle.std.specs.Prelude.{◌≡◌, ℕ, ◌+◌, ◌≤◌, List, length, drop}
use Rattle.byteorder.specs.Endian.{big_number}

pub record IsCounted (bytes value : List ℕ) : Type 0 where
  pub header : 2 ≤ length bytes
  pub length_is : big_number 2 bytes + 2 ≡ length bytes
  pub value_is : drop 2 bytes ≡ value

-- all of the bytes, as they are
abbrev pub IsRest : List ℕ → List ℕ → Type 0
IsRest bytes value = bytes ≡ value
