-- A field of path attributes that is judged where it stands: the form of each value, and what is lent of two of them.
use Rattle.std.specs.Prelude.{◌≡◌, ◌==◌, ℕ, MatchBool, List, length, map, Option}
use Rattle.std.specs.List.{AllByRecursion, IsDistinct}
use Rattle.std.specs.Option.{option_map}
use Rattle.bmp_specs.specs.declared.wire.Width.{Width}
use Rattle.bmp_specs.specs.AsPath.{ArePath}
use Rattle.bmp_specs.specs.Attribute.{IsAttribute}
use Rattle.bmp_specs.specs.Attributes.{AreAttributes, IsAggregator, aggregator, as_path, mp_reach_nlri, mp_unreach_nlri, value_of}
use Rattle.bmp_specs.specs.Parts.{AreParts}
use Rattle.bmp_specs.specs.Values.{AggregatorValue, AttrsReadValue, MpValue, OtherValue, SegmentValue}
use Rattle.path_attrs.specs.Field.{HasShape}
use Rattle.path_attrs.specs.declared.judge.Judged.{Judged}
use Rattle.path_attrs.specs.declared.mp.MpSlice.{MpSlice}

-- The value has the form of its type: AS_PATH has path segments, AGGREGATOR an AS number and an address, and any
-- other type the shape that the registry has for it. Those of MP_REACH_NLRI and MP_UNREACH_NLRI are judged apart.
abbrev pub FitsType : Width → ℕ → List ℕ → Type 0
FitsType width code value =
    MatchBool (code == as_path) ((path : List SegmentValue) × ArePath width value path)
    (MatchBool (code == aggregator) ((a : AggregatorValue) × IsAggregator width value a) (HasShape code (length value)))

-- the field is so many attributes, no two of one type, each of the form of its type
pub record HasForms (width : Width) (field : List ℕ) (count : ℕ) : Type 0 where
  pub parts : List OtherValue
  pub are : AreParts IsAttribute field parts
  pub distinct : IsDistinct (λ j k. j == k) (map (λ a. a.code) parts)
  pub forms : AllByRecursion (λ a. FitsType width a.code a.value) parts
  pub count_is : count ≡ length parts

-- the field is such attributes, and these are the values of its MP_REACH_NLRI and MP_UNREACH_NLRI
pub record IsFound (width : Width) (field : List ℕ) (count : ℕ) (reach unreach : Option (List ℕ)) : Type 0 where
  pub forms : HasForms width field count
  pub reach_is : reach ≡ value_of mp_reach_nlri forms.parts
  pub unreach_is : unreach ≡ value_of mp_unreach_nlri forms.parts

-- a multiprotocol attribute that is lent
abbrev pub mp_value : MpSlice → MpValue
mp_value m = record { afi = m.afi; safi = m.safi; hop = m.hop.now; prefixes = m.prefixes.now }

-- the field has these attributes, each of the form of its type, and their multiprotocol attributes are those that are
-- lent
pub record IsJudged (width : Width) (field : List ℕ) (judged : Judged) : Type 0 where
  pub read : AttrsReadValue
  pub are : AreAttributes width field read
  pub reach_is : read.reach ≡ option_map mp_value judged.reach
  pub unreach_is : read.unreach ≡ option_map mp_value judged.unreach
  pub count_is : read.count ≡ judged.count
  pub forms : HasForms width field judged.count
