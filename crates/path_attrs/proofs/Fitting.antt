-- Whether path attributes have a value in a width, by the AS_PATH in their frame.
use Rattle.std.proofs.Common.{◌≡◌, ◌↔◌, ℕ, Bool, true, List, map, Option, sym, ap, subst, ◌∙◌}
use Rattle.std.specs.Prelude.{◌==◌, IsTrue, MatchBool, ⊤, option_copied}
use Rattle.bmp_specs.specs.declared.wire.Width.{Width}
use Rattle.bmp_specs.specs.AsPath.{ArePath}
use Rattle.bmp_specs.specs.Attribute.{IsAttribute}
use Rattle.bmp_specs.specs.Attributes.{AreAttributes, Optional, as_path, value_of}
use Rattle.bmp_specs.specs.FramedUpdate.{is_multiprotocol}
use Rattle.bmp_specs.specs.UpdateForms.{HasNoAsZero}
use Rattle.bmp_specs.specs.Values.{AttrsReadValue, OtherValue, SegmentValue}
use Rattle.bmp_specs.proofs.AttributesOne.{attribute_code}
use Rattle.bmp_specs.proofs.FramedOne.{distinct_filter}
use Rattle.bmp_specs.proofs.PartsRead.{AreParts-one}
use Rattle.path_attrs.specs.Framed.{HasNoFrame, HasParts, HasValueIn, IsFrame}
use Rattle.path_attrs.specs.Judged.{IsJudged}
use Rattle.path_attrs.specs.declared.judge.Judged.{Judged}
use Rattle.path_attrs.specs.declared.frame.FramedAttrs.{FramedAttrs}

module _ (width : Width) (field : List ℕ) (read : AttrsReadValue) (are : AreAttributes width field read) where
  -- the attributes are in a frame
  has_parts : HasParts field are.parts
  has_parts = record { are = are.are; distinct = distinct_filter (λ j k. j == k) is_multiprotocol (map (λ (a : OtherValue). a.code) are.parts) are.distinct }

  pub framed_somehow : ¬ (HasNoFrame field)
  framed_somehow none = none are.parts read.reach read.unreach has_parts are.reach_is are.unreach_is

  -- what is told of the AS_PATH in the frame is told of that of the attributes
  pub path_told : (framed : FramedAttrs) → IsFrame field framed → (told : Bool) → ((path : Option (List SegmentValue)) → Optional (ArePath width) (option_copied framed.as_path) path → IsTrue told ↔ HasNoAsZero path)
      → IsTrue told ↔ HasNoAsZero are.stated.as_path
  path_told framed frame told tells =
      let same : are.parts ≡ frame.parts = AreParts-one IsAttribute attribute_code field are.parts frame.parts are.are frame.has.are in
      let place : value_of as_path are.parts ≡ option_copied framed.as_path = ap (λ (l : List OtherValue). value_of as_path l) same ∙ sym frame.path_is in
      tells are.stated.as_path (subst (λ (o : Option (List ℕ)). Optional (ArePath width) o are.stated.as_path) place are.as_path_is)

pub value_told : (width : Width) (field : List ℕ) (nonzero : Bool) → nonzero ≡ true → (judged : Judged) → IsJudged width field judged → (framed : FramedAttrs) → IsFrame field framed → (told : Bool)
    → ((path : Option (List SegmentValue)) → Optional (ArePath width) (option_copied framed.as_path) path → IsTrue told ↔ HasNoAsZero path) → IsTrue told ↔ HasValueIn width field nonzero
value_told width field nonzero asked judged j framed frame told tells = (
  λ yes. record { read = j.read; are = j.are; no_zero = subst (λ (b : Bool). MatchBool b (HasNoAsZero j.are.stated.as_path) ⊤) (sym asked) ((path_told width field j.read j.are framed frame told tells).0 yes) },
  λ v. (path_told width field v.read v.are framed frame told tells).1 (subst (λ (b : Bool). MatchBool b (HasNoAsZero v.are.stated.as_path) ⊤) asked v.no_zero),
)
