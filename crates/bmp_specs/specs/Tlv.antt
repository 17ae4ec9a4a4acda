-- Information TLVs: two bytes of type, two of length, and the value (RFC 7854, section 4.4).
use Rattle.std.specs.Prelude.{◌≡◌, ℕ, ◌+◌, ◌≤◌, ◌==◌, List, length, drop, map, Option, None, filter}
use Rattle.std.specs.List.{last_or}
use Rattle.byteorder.specs.Endian.{big_number}
use Rattle.bmp_specs.specs.Values.{TlvValue}
use Rattle.bmp_specs.specs.Parts.{AreParts}

-- "Information Type", "Information Length", "Information"
pub record IsTlv (bytes : List ℕ) (t : TlvValue) : Type 0 where
  pub header : 4 ≤ length bytes
  pub kind_is : big_number 2 bytes ≡ t.kind
  pub length_is : big_number 2 (drop 2 bytes) + 4 ≡ length bytes
  pub value_is : drop 4 bytes ≡ t.value

-- the bytes are these TLVs, one after another
abbrev pub AreTlvs : List ℕ → List TlvValue → Type 0
AreTlvs bytes ts = AreParts IsTlv bytes ts

-- the values of one type, in order
abbrev pub values_of : ℕ → List TlvValue → List (List ℕ)
values_of kind ts = map (λ t. t.value) (filter (λ t. t.kind == kind) ts)

-- the last of them, where there is one
abbrev pub last_value : ℕ → List TlvValue → Option (List ℕ)
last_value kind ts = last_or None (values_of kind ts)
