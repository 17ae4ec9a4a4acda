-- The body of an OPEN message (RFC 4271, section 4.2) with its capabilities (RFC 5492, section 4). Of these
-- three are read: multiprotocol extensions (RFC 4760, section 8), four-octet AS numbers (RFC 6793, section 3)
-- and ADD-PATH (RFC 7911, section 4). Extended parameters (RFC 9072, section 2) are noticed and not read.
use Rattle.std.specs.Prelude.{◌≡◌, ℕ, ◌≤◌, ◌%◌, Bool, true, false, ◌==◌, ◌&&◌, if◌then◌else◌, MatchBool, List, [], ◌∷◌, length, take, drop, slice_index, Option, Some, None, find}
use Rattle.std.specs.List.{filter_map, flat_map}
use Rattle.std.specs.Option.{option_map}
use Rattle.byteorder.specs.Endian.{big_number}
use Rattle.bmp_specs.specs.Values.{OpenValue, CapValue, CodedValue, BgpMessageValue}
use Rattle.bmp_specs.specs.Parts.{AreParts}
use Rattle.bmp_specs.specs.Coded.{IsCoded}
use Rattle.bmp_specs.specs.BgpMessage.{IsBgpMessage, open_type}

-- "Parameter Type": the one that holds capabilities (RFC 5492, section 4)
abbrev pub capabilities_type : ℕ
capabilities_type = 2

-- "Capability Code"
abbrev pub multiprotocol : ℕ
multiprotocol = 1

abbrev pub four_octet_as : ℕ
four_octet_as = 65

abbrev pub add_path : ℕ
add_path = 69

-- "Length" and "Value" of a multiprotocol capability: AFI (2 octets), a reserved octet, SAFI (1 octet)
abbrev pub family_in : CodedValue → Option CapValue
family_in c = if c.code == multiprotocol && length c.value == 4 then Some (record { afi = big_number 2 c.value; safi = slice_index c.value 3; value = 0 }) else None

-- whether it is a four-octet AS number capability
abbrev pub is_four_octet : CodedValue → Bool
is_four_octet c = c.code == four_octet_as && length c.value == 4

-- AFI (2 octets), SAFI (1 octet) and "Send/Receive" (1 octet), as many times as they stand there
abbrev pub entries : List ℕ → List CapValue
entries (a ∷ b ∷ safi ∷ value ∷ rest) = record { afi = big_number 2 (a ∷ b ∷ []); safi = safi; value = value } ∷ entries rest
entries _ = []

-- the entries of an ADD-PATH capability whose length is a multiple of 4
abbrev pub paths_in : CodedValue → List CapValue
paths_in c = if c.code == add_path && length c.value % 4 == 0 then entries c.value else []

-- what the capabilities announce: of several AS numbers the first counts
pub record Announces (cs : List CodedValue) (o : OpenValue) : Type 0 where
  pub four_is : o.four ≡ option_map (λ c. big_number 4 c.value) (find is_four_octet cs)
  pub families_are : o.families ≡ filter_map family_in cs
  pub paths_are : o.paths ≡ flat_map paths_in cs

-- a parameter, and the capabilities in it; a parameter of another type has none
pub record IsParameter (bytes : List ℕ) (cs : List CodedValue) : Type 0 where
  pub parameter : CodedValue
  pub is : IsCoded bytes parameter
  pub capabilities : MatchBool (parameter.code == capabilities_type) (AreParts IsCoded parameter.value cs) (cs ≡ [])

-- "Optional Parameters" that fill the rest of the body
pub record HasParameters (rest : List ℕ) (o : OpenValue) : Type 0 where
  pub lists : List (List CodedValue)
  pub are : AreParts IsParameter rest lists
  pub announces : Announces (flat_map (λ cs. cs) lists) o

-- "Opt Parm Len" and the first octet after it are both 255 (RFC 9072, section 2)
abbrev pub has_extended_length : ℕ → List ℕ → Bool
has_extended_length stated rest = stated == 255 && slice_index rest 0 == 255

-- the parameters in the rest of the body, after their stated length
abbrev pub AreParameters : ℕ → List ℕ → OpenValue → Type 0
AreParameters stated rest o = MatchBool (has_extended_length stated rest)
    ((o.extended ≡ true) × Announces [] o)
    ((o.extended ≡ false) × (length rest ≡ stated) × HasParameters rest o)

-- "Version", "My Autonomous System", "Hold Time", "BGP Identifier", "Optional Parameters Length" and
-- "Optional Parameters"
pub record IsOpen (body : List ℕ) (o : OpenValue) : Type 0 where
  pub header : 10 ≤ length body
  pub version_is : slice_index body 0 ≡ o.version
  pub my_as_is : big_number 2 (drop 1 body) ≡ o.my_as
  pub hold_is : big_number 2 (drop 3 body) ≡ o.hold
  pub identifier_is : take 4 (drop 5 body) ≡ o.identifier
  pub parameters : AreParameters (slice_index body 9) (drop 10 body) o

-- the bytes are a whole OPEN message
pub record IsOpenMessage (bytes : List ℕ) (o : OpenValue) : Type 0 where
  pub message : BgpMessageValue
  pub is : IsBgpMessage bytes message
  pub is_open : message.kind ≡ open_type
  pub body_is : IsOpen message.body o
