-- The values of MP_REACH_NLRI and MP_UNREACH_NLRI (RFC 4760, sections 3 and 4), their prefixes as bytes.
use Rattle.std.specs.Prelude.{◌≡◌, ℕ, ◌+◌, ◌≤◌, List, [], length, take, drop, slice_index}
use Rattle.byteorder.specs.Endian.{big_number}
use Rattle.bmp_specs.specs.Values.{MpValue}

-- "Length of Next Hop Network Address (1 octet)"
abbrev pub hop_length : List ℕ → ℕ
hop_length value = slice_index value 3

-- "AFI (2 octets)", "SAFI (1 octet)", the length, "Network Address of Next Hop", "Reserved (1 octet)" and "NLRI"
pub record IsMpReach (value : List ℕ) (m : MpValue) : Type 0 where
  pub header : hop_length value + 5 ≤ length value
  pub afi_is : big_number 2 value ≡ m.afi
  pub safi_is : slice_index value 2 ≡ m.safi
  pub hop_is : take (hop_length value) (drop 4 value) ≡ m.hop
  pub prefixes_are : drop (hop_length value + 5) value ≡ m.prefixes

-- "AFI (2 octets)", "SAFI (1 octet)" and "Withdrawn Routes"
pub record IsMpUnreach (value : List ℕ) (m : MpValue) : Type 0 where
  pub header : 3 ≤ length value
  pub afi_is : big_number 2 value ≡ m.afi
  pub safi_is : slice_index value 2 ≡ m.safi
  pub hop_is : m.hop ≡ []
  pub prefixes_are : drop 3 value ≡ m.prefixes
