-- A code of one byte, a length of one byte, and a value: the form of an optional parameter (RFC 4271,
-- section 4.2) and of a capability (RFC 5492, section 4).
use Rattle.std.specs.Prelude.{◌≡◌, ℕ, ◌+◌, ◌≤◌, List, length, drop, slice_index}
use Rattle.bmp_specs.specs.Values.{CodedValue}

pub record IsCoded (bytes : List ℕ) (c : CodedValue) : Type 0 where
  pub header : 2 ≤ length bytes
  pub code_is : slice_index bytes 0 ≡ c.code
  pub length_is : slice_index bytes 1 + 2 ≡ length bytes
  pub value_is : drop 2 bytes ≡ c.value
