-- The frame of a field of path attributes: its attributes, whatever their values, and where three of them stand.
use Rattle.std.specs.Prelude.{◌≡◌, ◌==◌, ◌⊎◌, ℕ, Bool, MatchBool, ⊤, if◌then◌else◌, List, map, filter, Option, Some, None, option_copied}
use Rattle.std.specs.List.{IsDistinct}
use Rattle.std.specs.Option.{option_map, option_or}
use Rattle.bmp_specs.specs.declared.wire.Width.{Width}
use Rattle.bmp_specs.specs.Attribute.{IsAttribute}
use Rattle.bmp_specs.specs.Attributes.{AreAttributes, Optional, as_path, mp_reach_nlri, mp_unreach_nlri, value_of}
use Rattle.bmp_specs.specs.FramedUpdate.{is_multiprotocol}
use Rattle.bmp_specs.specs.MpNlri.{IsMpReach, IsMpUnreach}
use Rattle.bmp_specs.specs.Parts.{AreParts}
use Rattle.bmp_specs.specs.UpdateForms.{HasNoAsZero}
use Rattle.bmp_specs.specs.Values.{AttrsReadValue, MpValue, OtherValue}
use Rattle.path_attrs.specs.Judged.{mp_value}
use Rattle.path_attrs.specs.declared.frame.FramedAttrs.{FramedAttrs}
use Rattle.path_attrs.specs.declared.frame.Places.{Places}
use Rattle.path_attrs.specs.declared.part.Part.{Part}

-- the field is these attributes, no two multiprotocol ones of one type
pub record HasParts (field : List ℕ) (parts : List OtherValue) : Type 0 where
  pub are : AreParts IsAttribute field parts
  pub distinct : IsDistinct (λ j k. j == k) (filter is_multiprotocol (map (λ a. a.code) parts))

-- the places are those of the values of MP_REACH_NLRI, of MP_UNREACH_NLRI and of the first AS_PATH among the attributes
pub record AreAt (parts : List OtherValue) (places : Places) : Type 0 where
  pub reach_is : option_copied places.reach ≡ value_of mp_reach_nlri parts
  pub unreach_is : option_copied places.unreach ≡ value_of mp_unreach_nlri parts
  pub path_is : option_copied places.as_path ≡ value_of as_path parts

-- the places with one attribute more
pub record HasPut (old : Places) (part : Part) (new : Places) : Type 0 where
  pub reach_is : option_copied new.reach ≡ (if part.code == mp_reach_nlri then Some part.value.now else option_copied old.reach)
  pub unreach_is : option_copied new.unreach ≡ (if part.code == mp_unreach_nlri then Some part.value.now else option_copied old.unreach)
  pub path_is : option_copied new.as_path ≡ (if part.code == as_path then option_or (option_copied old.as_path) (Some part.value.now) else option_copied old.as_path)
  pub reach_first : part.code ≡ mp_reach_nlri → option_copied old.reach ≡ None
  pub unreach_first : part.code ≡ mp_unreach_nlri → option_copied old.unreach ≡ None

-- a multiprotocol attribute of this type stands there already
abbrev pub Doubles : Places → Part → Type 0
Doubles old part = ((part.code ≡ mp_reach_nlri) × (option_copied old.reach ≡ None → ⊥)) ⊎ ((part.code ≡ mp_unreach_nlri) × (option_copied old.unreach ≡ None → ⊥))

-- the field has this frame
pub record IsFrame (field : List ℕ) (framed : FramedAttrs) : Type 0 where
  pub parts : List OtherValue
  pub has : HasParts field parts
  pub reach_is : Optional IsMpReach (value_of mp_reach_nlri parts) (option_map mp_value framed.reach)
  pub unreach_is : Optional IsMpUnreach (value_of mp_unreach_nlri parts) (option_map mp_value framed.unreach)
  pub path_is : option_copied framed.as_path ≡ value_of as_path parts

-- the field has no frame
abbrev pub HasNoFrame : List ℕ → Type 0
HasNoFrame field = (parts : List OtherValue) (reach unreach : Option MpValue) → HasParts field parts → Optional IsMpReach (value_of mp_reach_nlri parts) reach → Optional IsMpUnreach (value_of mp_unreach_nlri parts) unreach → ⊥

-- the attributes have a value in this width, and where it is asked AS_PATH has no AS number 0
pub record HasValueIn (width : Width) (field : List ℕ) (nonzero : Bool) : Type 0 where
  pub read : AttrsReadValue
  pub are : AreAttributes width field read
  pub no_zero : MatchBool nonzero (HasNoAsZero are.stated.as_path) ⊤
