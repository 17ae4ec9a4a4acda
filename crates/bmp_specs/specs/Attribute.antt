-- A path attribute: its flags, its type, its length and its value (RFC 4271, section 4.3). Its flags aren't judged.
use Rattle.std.specs.Prelude.{◌≡◌, ℕ, ◌+◌, ◌≤◌, Bool, if◌then◌else◌, List, length, drop, slice_index}
use Rattle.byteorder.specs.Endian.{big_number}
use Rattle.bmp_specs.specs.PeerHeader.{is_set}
use Rattle.bmp_specs.specs.Values.{OtherValue}

-- "Extended Length bit": the length has two octets in place of one
abbrev pub extended_length : ℕ
extended_length = 0x10

abbrev pub has_extended_length : List ℕ → Bool
has_extended_length bytes = is_set extended_length (slice_index bytes 0)

-- how many bytes stand before the value
abbrev pub attribute_header : List ℕ → ℕ
attribute_header bytes = if has_extended_length bytes then 4 else 3

-- "Attribute Length"
abbrev pub value_length : List ℕ → ℕ
value_length bytes = if has_extended_length bytes then big_number 2 (drop 2 bytes) else slice_index bytes 2

-- "Attribute Flags", "Attribute Type Code", "Attribute Length" and "Attribute Value"
pub record IsAttribute (bytes : List ℕ) (a : OtherValue) : Type 0 where
  pub header : attribute_header bytes ≤ length bytes
  pub flags_is : slice_index bytes 0 ≡ a.flags
  pub code_is : slice_index bytes 1 ≡ a.code
  pub length_is : value_length bytes + attribute_header bytes ≡ length bytes
  pub value_is : drop (attribute_header bytes) bytes ≡ a.value
