-- A BGP message: its marker, its length, its type and its body (RFC 4271, section 4.1). The longest may
-- have 65,535 bytes (RFC 8654, section 3).
use Rattle.std.specs.Prelude.{◌≡◌, ℕ, ◌≤◌, List, length, take, drop, replicate, slice_index}
use Rattle.byteorder.specs.Endian.{big_number}
use Rattle.bmp_specs.specs.Values.{BgpMessageValue}

-- the fixed header is 19 octets
abbrev pub header_length : ℕ
header_length = 19

-- "Marker": 16 octets, all ones
abbrev pub marker : List ℕ
marker = replicate 16 255

-- "Length": the two octets after the marker, the whole message with its header
abbrev pub stated_length : List ℕ → ℕ
stated_length bytes = big_number 2 (drop 16 bytes)

-- "Type"
abbrev pub open_type : ℕ
open_type = 1

abbrev pub update_type : ℕ
update_type = 2

abbrev pub notification_type : ℕ
notification_type = 3

-- the bytes are one whole message
pub record IsBgpMessage (bytes : List ℕ) (m : BgpMessageValue) : Type 0 where
  pub header : header_length ≤ length bytes
  pub marker_is : take 16 bytes ≡ marker
  pub length_is : stated_length bytes ≡ length bytes
  pub kind_is : slice_index bytes 18 ≡ m.kind
  pub body_is : drop header_length bytes ≡ m.body

-- a message of this type and of so many bytes stands at the front
pub record BeginsWithMessage (bytes : List ℕ) (kind size : ℕ) : Type 0 where
  pub within : size ≤ length bytes
  pub header : header_length ≤ size
  pub marker_is : take 16 bytes ≡ marker
  pub length_is : stated_length bytes ≡ size
  pub kind_is : slice_index bytes 18 ≡ kind
