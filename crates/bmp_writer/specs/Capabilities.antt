-- The capabilities of an OPEN message, as they are written (RFC 5492, section 4).
use Rattle.std.specs.Prelude.{◌≡◌, ℕ, ◌+◌, ◌*◌, false, List, [], ◌∷◌, ◌++◌, length, map, slice_index, Option, Some, None}
use Rattle.byteorder.specs.Endian.{big_bytes, big_number}
use Rattle.bmp_specs.specs.Coded.{IsCoded}
use Rattle.bmp_specs.specs.Open.{Announces, add_path, entries, family_in, four_octet_as, multiprotocol}
use Rattle.bmp_specs.specs.Parts.{AreParts}
use Rattle.bmp_specs.specs.Values.{CapValue, CodedValue, OpenValue}

-- a family, of which a multiprotocol capability says nothing more
abbrev pub as_family : CapValue → CapValue
as_family cap = record cap { value = 0 }

-- what whoever reads the OPEN message takes from it; its parameters have no extended length
abbrev pub as_read : OpenValue → OpenValue
as_read o = record o { families = map as_family o.families; extended = false }

-- how many bytes a four-octet AS number capability takes, where there is one
abbrev pub as_size : Option ℕ → ℕ
as_size None = 0
as_size (Some asn) = 6

-- how many bytes an ADD-PATH capability takes, where there is one: four for each entry
abbrev pub paths_size : List CapValue → ℕ
paths_size [] = 0
paths_size (cap ∷ caps) = 2 + 4 * length (cap ∷ caps)

-- how many bytes the capabilities take: six for each family, those of the AS number, and those of all ADD-PATH entries
abbrev pub capabilities_size : OpenValue → ℕ
capabilities_size o = 6 * length o.families + as_size o.four + paths_size o.paths

-- a multiprotocol capability (RFC 4760, section 8): "AFI", a reserved octet and "SAFI"
abbrev pub family_bytes : CapValue → List ℕ
family_bytes cap = multiprotocol ∷ 4 ∷ (big_bytes 2 cap.afi ++ 0 ∷ cap.safi ∷ [])

-- a four-octet AS number capability (RFC 6793, section 3)
abbrev pub as_bytes : ℕ → List ℕ
as_bytes asn = four_octet_as ∷ 4 ∷ big_bytes 4 asn

-- an entry of an ADD-PATH capability (RFC 7911, section 4): "AFI", "SAFI" and "Send/Receive"
abbrev pub entry_bytes : CapValue → List ℕ
entry_bytes cap = big_bytes 2 cap.afi ++ cap.safi ∷ cap.value ∷ []

-- a capability that is read as this family, with a reserved octet of 0
pub record IsFamilyCapability (bytes : List ℕ) (cap : CapValue) : Type 0 where
  pub value : List ℕ
  pub is : IsCoded bytes (record { code = multiprotocol; value = value })
  pub family_is : family_in (record { code = multiprotocol; value = value }) ≡ Some (as_family cap)
  pub reserved : slice_index bytes 4 ≡ 0
  pub len : length bytes ≡ 6

-- a capability that is read as this AS number
pub record HasNumber (asn : ℕ) (bytes : List ℕ) : Type 0 where
  pub value : List ℕ
  pub is : IsCoded bytes (record { code = four_octet_as; value = value })
  pub len : length value ≡ 4
  pub asn_is : big_number 4 value ≡ asn

-- one where there is a number
abbrev pub IsAsCapability : Option ℕ → List ℕ → Type 0
IsAsCapability None bytes = bytes ≡ []
IsAsCapability (Some asn) bytes = HasNumber asn bytes

-- bytes that are read as this entry of an ADD-PATH capability
pub record IsPathEntry (bytes : List ℕ) (cap : CapValue) : Type 0 where
  pub len : length bytes ≡ 4
  pub entry_is : entries bytes ≡ cap ∷ []

-- a capability that is read as these ADD-PATH entries
pub record HasEntries (caps : List CapValue) (bytes : List ℕ) : Type 0 where
  pub value : List ℕ
  pub is : IsCoded bytes (record { code = add_path; value = value })
  pub are : AreParts IsPathEntry value caps

-- one where there are any
abbrev pub IsPathCapability : List CapValue → List ℕ → Type 0
IsPathCapability [] bytes = bytes ≡ []
IsPathCapability (cap ∷ caps) bytes = HasEntries (cap ∷ caps) bytes

-- The capabilities, one after another: one for each family, that of the AS number, and one of all ADD-PATH entries; and
-- what whoever reads them takes from them.
pub record AreCapabilities (o : OpenValue) (bytes : List ℕ) : Type 0 where
  pub families : List ℕ
  pub four : List ℕ
  pub paths : List ℕ
  pub joined : bytes ≡ families ++ (four ++ paths)
  pub families_are : AreParts IsFamilyCapability families o.families
  pub four_is : IsAsCapability o.four four
  pub paths_are : IsPathCapability o.paths paths
  pub capabilities : List CodedValue
  pub are : AreParts IsCoded bytes capabilities
  pub announces : Announces capabilities (as_read o)
  pub size : length bytes ≡ capabilities_size o
