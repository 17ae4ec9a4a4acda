-- What has been read of the optional parameters of an OPEN message so far.
use Rattle.std.specs.Prelude.{◌≡◌, ℕ, ◌==◌, MatchBool, List, [], ◌++◌, length, find}
use Rattle.std.specs.List.{filter_map, flat_map}
use Rattle.std.specs.Option.{option_map}
use Rattle.byteorder.specs.Endian.{big_number}
use Rattle.bmp_specs.specs.Coded.{IsCoded}
use Rattle.bmp_specs.specs.Open.{IsParameter, capabilities_type, family_in, has_extended_length, is_four_octet, paths_in}
use Rattle.bmp_specs.specs.Parts.{AreParts}
use Rattle.bmp_specs.specs.Values.{CodedValue}
use Rattle.bgp_open.specs.declared.read.Announced.{Announced}

-- it is what these capabilities announce
pub record Tells (cs : List CodedValue) (a : Announced) : Type 0 where
  pub four_is : a.four ≡ option_map (λ c. big_number 4 c.value) (find is_four_octet cs)
  pub families_are : a.families ≡ filter_map family_in cs
  pub paths_are : a.paths ≡ flat_map paths_in cs

-- the capabilities in a parameter of this type
abbrev pub HasCapabilities : ℕ → List ℕ → List CodedValue → Type 0
HasCapabilities code value cs = MatchBool (code == capabilities_type) (AreParts IsCoded value cs) (cs ≡ [])

-- what these capabilities announce was added
abbrev pub Adds : List CodedValue → Announced → Announced → Type 0
Adds cs old new = (bs : List CodedValue) → Tells bs old → Tells (bs ++ cs) new

-- what the parameters that fill these bytes announce was added
pub record AddsParameters (bytes : List ℕ) (old new : Announced) : Type 0 where
  pub lists : List (List CodedValue)
  pub are : AreParts IsParameter bytes lists
  pub adds : Adds (flat_map (λ cs. cs) lists) old new

-- it is what the parameters that fill these bytes announce
pub record TellsParameters (bytes : List ℕ) (a : Announced) : Type 0 where
  pub lists : List (List CodedValue)
  pub are : AreParts IsParameter bytes lists
  pub tells : Tells (flat_map (λ cs. cs) lists) a

-- it is what the rest of the body announces, after the stated length
abbrev pub TellsRest : ℕ → List ℕ → Announced → Type 0
TellsRest stated rest a = MatchBool (has_extended_length stated rest) (Tells [] a) ((length rest ≡ stated) × TellsParameters rest a)
