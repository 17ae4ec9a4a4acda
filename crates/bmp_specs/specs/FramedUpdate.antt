-- The frame of an UPDATE message (RFC 4271, section 4.3): its fields and its multiprotocol attributes (RFC 4760), with
-- no other attribute judged. For its routes to be withdrawn in place of a session reset, "the entire NLRI field and/or
-- the MP_REACH_NLRI and MP_UNREACH_NLRI attributes need to be successfully parsed", and neither of these two attributes
-- may stand there twice (RFC 7606, section 3).
use Rattle.std.specs.Prelude.{ℕ, Bool, ◌≡◌, ◌==◌, ◌||◌, List, [], ◌∷◌, ◌++◌, map, filter, Option, Some, None, option_map, option_to_list}
use Rattle.std.specs.List.{AllByRecursion, IsDistinct}
use Rattle.bmp_specs.specs.declared.wire.Family.{Family}
use Rattle.bmp_specs.specs.declared.wire.Family.TheVariants.{V4}
use Rattle.bmp_specs.specs.AddressFamily.{unicast_family}
use Rattle.bmp_specs.specs.Attribute.{IsAttribute}
use Rattle.bmp_specs.specs.Attributes.{Optional, mp_reach_nlri, mp_unreach_nlri, value_of}
use Rattle.bmp_specs.specs.Counted.{IsCounted, IsRest}
use Rattle.bmp_specs.specs.MpNlri.{IsMpReach, IsMpUnreach}
use Rattle.bmp_specs.specs.Nlri.{AreNlri}
use Rattle.bmp_specs.specs.Parts.{AreParts}
use Rattle.bmp_specs.specs.Sequence.{Then}
use Rattle.bmp_specs.specs.Values.{MpValue, NlriValue, OtherValue}

-- the three fields as bytes, and the multiprotocol attributes with their prefixes as bytes
pub record FramedValue : Type 0 where
  pub withdrawn_routes : List ℕ
  pub path_attributes : List ℕ
  pub nlri : List ℕ
  pub reach : Option MpValue
  pub unreach : Option MpValue

-- the type is that of a multiprotocol attribute
abbrev pub is_multiprotocol : ℕ → Bool
is_multiprotocol code = code == mp_reach_nlri || code == mp_unreach_nlri

-- "Withdrawn Routes", "Path Attributes" and "Network Layer Reachability Information"; attributes of any value, no two
-- multiprotocol ones of one type, and these of their form
pub record IsFramed (body : List ℕ) (f : FramedValue) : Type 0 where
  pub fields : Then IsCounted (Then IsCounted IsRest) body (f.withdrawn_routes, (f.path_attributes, f.nlri))
  pub parts : List OtherValue
  pub are : AreParts IsAttribute f.path_attributes parts
  pub distinct : IsDistinct (λ j k. j == k) (filter is_multiprotocol (map (λ a. a.code) parts))
  pub reach_is : Optional IsMpReach (value_of mp_reach_nlri parts) f.reach
  pub unreach_is : Optional IsMpUnreach (value_of mp_unreach_nlri parts) f.unreach

-- a place where prefixes of a family stand, as bytes
pub record PlaceValue : Type 0 where
  pub family : Family
  pub prefixes : List ℕ

-- the place in a multiprotocol attribute, where it is of a family that is read
abbrev pub place_in : Option MpValue → List PlaceValue
place_in None = []
place_in (Some m) = option_to_list (option_map (λ family. record { family = family; prefixes = m.prefixes }) (unicast_family m.afi m.safi))

-- all places of an UPDATE message: those of withdrawn routes and then those of announced ones, IPv4 by the fields first
abbrev pub places : FramedValue → List PlaceValue
places f =
    (record { family = V4; prefixes = f.withdrawn_routes } ∷ place_in f.unreach)
    ++ (record { family = V4; prefixes = f.nlri } ∷ place_in f.reach)

-- what stands at a place of the family is prefixes, with path identifiers or without
abbrev pub FitsPlace : Family → Bool → PlaceValue → Type 0
FitsPlace family identified place = place.family ≡ family → (ns : List NlriValue) × AreNlri family identified place.prefixes ns

-- all places of the family have prefixes of this form
abbrev pub FitsFamily : FramedValue → Family → Bool → Type 0
FitsFamily f family identified = AllByRecursion (FitsPlace family identified) (places f)
