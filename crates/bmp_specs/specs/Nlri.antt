-- Network Layer Reachability Information: prefixes, without path identifiers (RFC 4271, section 4.3) or
-- with them (RFC 7911, section 3).
use Rattle.std.specs.Prelude.{◌≡◌, ℕ, ◌≤◌, Bool, true, false, List, length, drop, Some, None}
use Rattle.byteorder.specs.Endian.{big_number}
use Rattle.bmp_specs.specs.declared.wire.Family.{Family}
use Rattle.bmp_specs.specs.Values.{NlriValue}
use Rattle.bmp_specs.specs.Parts.{AreParts}
use Rattle.bmp_specs.specs.Prefix.{IsPrefix}

-- "Length (1 octet)", "Prefix (variable)"
pub record IsBareNlri (family : Family) (bytes : List ℕ) (n : NlriValue) : Type 0 where
  pub prefix_is : IsPrefix family bytes n.prefix
  pub id_is : n.id ≡ None

-- "Path Identifier (4 octets)", "Length (1 octet)", "Prefix (variable)"
pub record IsIdentifiedNlri (family : Family) (bytes : List ℕ) (n : NlriValue) : Type 0 where
  pub header : 4 ≤ length bytes
  pub id_is : n.id ≡ Some (big_number 4 bytes)
  pub prefix_is : IsPrefix family (drop 4 bytes) n.prefix

-- one item, with an identifier where they are used
abbrev pub IsNlri : Family → Bool → List ℕ → NlriValue → Type 0
IsNlri family false bytes n = IsBareNlri family bytes n
IsNlri family true bytes n = IsIdentifiedNlri family bytes n

-- the bytes are these items, one after another
abbrev pub AreNlri : Family → Bool → List ℕ → List NlriValue → Type 0
AreNlri family identified bytes ns = AreParts (IsNlri family identified) bytes ns
