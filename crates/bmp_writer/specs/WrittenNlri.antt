-- Prefixes of an UPDATE message, as they are written (RFC 4271, section 4.3): each with the path identifier that it has
-- (RFC 7911, section 3).
use Rattle.std.specs.Prelude.{◌≡◌, ℕ, ◌+◌, List, [], ◌∷◌, take, drop, sum_by, Option, Some, None}
use Rattle.std.specs.Option.{is_some}
use Rattle.bmp_specs.specs.Nlri.{IsNlri}
use Rattle.bmp_specs.specs.Number.{IsNumber}
use Rattle.bmp_specs.specs.Parts.{AreParts}
use Rattle.bmp_specs.specs.Prefix.{IsPrefix, bytes_for}
use Rattle.bmp_specs.specs.Values.{NlriValue, PrefixValue}

-- "Path Identifier (4 octets)", where there is one
abbrev pub IsId : Option ℕ → List ℕ → Type 0
IsId None bytes = bytes ≡ []
IsId (Some id) bytes = IsNumber 4 bytes id

-- "Length (1 octet)", "Prefix (variable)": the octets that hold the bits, of which no further one is set
abbrev pub prefix_bytes : PrefixValue → List ℕ
prefix_bytes p = p.bits ∷ take (bytes_for p.bits) p.address.octets

-- a prefix of its own family, in these bytes
pub record IsOwnPrefix (p : PrefixValue) (bytes : List ℕ) : Type 0 where
  pub is : IsPrefix p.address.family bytes p
  pub exact : bytes ≡ prefix_bytes p

-- how many bytes an identifier takes, where there is one
abbrev pub id_size : Option ℕ → ℕ
id_size None = 0
id_size (Some id) = 4

-- one prefix of its own family, after an identifier where it has one
pub record IsOwnNlri (bytes : List ℕ) (n : NlriValue) : Type 0 where
  pub is : IsNlri n.prefix.address.family (is_some n.id) bytes n
  pub exact : drop (id_size n.id) bytes ≡ prefix_bytes n.prefix

-- such prefixes, one after another
abbrev pub AreOwnNlri : List NlriValue → List ℕ → Type 0
AreOwnNlri ns bytes = AreParts IsOwnNlri bytes ns

-- how many bytes a prefix takes with its identifier
abbrev pub nlri_size : NlriValue → ℕ
nlri_size n = id_size n.id + (1 + bytes_for n.prefix.bits)

-- how many bytes all take
abbrev pub nlris_size : List NlriValue → ℕ
nlris_size ns = sum_by nlri_size ns
