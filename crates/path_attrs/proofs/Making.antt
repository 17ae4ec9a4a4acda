-- The attributes that are made of what judging found.
use Rattle.std.proofs.Common.{◌≡◌, ◌≤◌, ◌+◌, ℕ, List, length, map, Option, sym, ap, subst, ◌∙◌, arith}
use Rattle.std.specs.Borrow.{Bor}
use Rattle.std.specs.List.{IsDistinct}
use Rattle.std.specs.Prelude.{◌==◌, IfSome}
use Rattle.std.specs.Option.{option_map}
use Rattle.std.proofs.lemmas.Option.{IfSome_then}
use Rattle.bmp_specs.specs.declared.wire.Width.{Width}
use Rattle.bmp_specs.specs.AsPath.{ArePath, as_width}
use Rattle.bmp_specs.specs.Attribute.{IsAttribute}
use Rattle.bmp_specs.specs.Attributes.{AreAttributes, AreCommunities, IsAggregator, IsAtomic, Optional, aggregator, as4_aggregator, as4_path, as_path, atomic_aggregate, communities, local_pref, mp_reach_nlri, mp_unreach_nlri, multi_exit_disc, next_hop, origin, value_of}
use Rattle.bmp_specs.specs.MpNlri.{IsMpReach, IsMpUnreach}
use Rattle.bmp_specs.specs.Number.{IsNumber}
use Rattle.bmp_specs.specs.Parts.{AreParts}
use Rattle.bmp_specs.specs.Sequence.{IsField}
use Rattle.bmp_specs.specs.Values.{AttrsReadValue, AttrsValue, MpValue, OtherValue}
use Rattle.bmp_specs.proofs.AttributesOne.{AreAttributes-one}
use Rattle.path_attrs.specs.Field.{value_at}
use Rattle.path_attrs.specs.Judged.{FitsType, IsJudged, mp_value}
use Rattle.path_attrs.specs.Kept.{kept_of}
use Rattle.path_attrs.specs.Valued.{HaveValues}
use Rattle.path_attrs.specs.declared.judge.Judged.{Judged}
use Rattle.path_attrs.proofs.Judging.{fits_at, same_value}

-- an AGGREGATOR of its form has an AS number and an address
pub aggregator_long : (width : Width) (value : Option (List ℕ)) → IfSome value (λ bytes. FitsType width aggregator bytes) → IfSome value (λ bytes. length bytes ≡ as_width width + 4)
aggregator_long width value fits = IfSome_then value fits (λ bytes q. q.1.len)

-- what a field that was judged says, from its parts
pub read_is : (width : Width) (field : List ℕ) (judged : Judged) (j : IsJudged width field judged) (read : AttrsReadValue) → read.attrs ≡ j.read.attrs → read.reach ≡ option_map mp_value judged.reach
    → read.unreach ≡ option_map mp_value judged.unreach → read.count ≡ judged.count → AreAttributes width field read
read_is width field judged j read attrs reach unreach count =
    let with_attrs : AttrsValue → AttrsReadValue = λ a. record j.read { attrs = a } in
    let with_reach : Option MpValue → AttrsReadValue = λ m. record j.read { attrs = read.attrs; reach = m } in
    let with_unreach : Option MpValue → AttrsReadValue = λ m. record j.read { attrs = read.attrs; reach = read.reach; unreach = m } in
    let with_count : ℕ → AttrsReadValue = λ n. record read { count = n } in
    let same : j.read ≡ read =
    ap with_attrs (sym attrs) ∙ ap with_reach (j.reach_is ∙ sym reach) ∙ ap with_unreach (j.unreach_is ∙ sym unreach) ∙ ap with_count (j.count_is ∙ sym count) in
    subst (λ (r : AttrsReadValue). AreAttributes width field r) same j.are

module _ (width : Width) (field : List ℕ) (judged : Judged) (j : IsJudged width field judged) (values : List (Option (Bor (List ℕ))))
    (gathered : (parts : List OtherValue) → AreParts IsAttribute field parts → IsDistinct (λ j k. j == k) (map (λ a. a.code) parts) → (code : ℕ) → code ≤ as4_aggregator → value_at values code ≡ value_of code parts) where
  at : (code : ℕ) → code ≤ as4_aggregator → value_at values code ≡ value_of code j.forms.parts
  at = gathered j.forms.parts j.forms.are j.forms.distinct

  -- the value that was found at a type has the form of the type
  pub form_found : (code : ℕ) → code ≤ as4_aggregator → IfSome (value_at values code) (λ value. FitsType width code value)
  form_found code le = subst (λ (o : Option (List ℕ)). IfSome o (λ value. FitsType width code value)) (sym (at code le)) (fits_at width code j.forms.parts j.forms.forms)

  -- attributes that have these values are those of the field
  pub made_are : (read : AttrsReadValue) (others : List OtherValue) → HaveValues width (value_at values) others read.attrs
      → ((parts : List OtherValue) → AreParts IsAttribute field parts → others ≡ kept_of parts)
      → read.reach ≡ option_map mp_value judged.reach → read.unreach ≡ option_map mp_value judged.unreach → read.count ≡ judged.count → AreAttributes width field read
  made_are read others v kept reach unreach count =
      let s = v.as_is in
      let h = j.forms in
      record {
        parts = h.parts;
        are = h.are;
        distinct = h.distinct;
        origin_is = subst (λ (o : Option (List ℕ)). Optional (IsNumber 1) o read.attrs.origin) (at origin (omega arith)) v.origin_is;
        hop_is = subst (λ (o : Option (List ℕ)). Optional (IsField 4) o read.attrs.hop) (at next_hop (omega arith)) v.hop_is;
        med_is = subst (λ (o : Option (List ℕ)). Optional (IsNumber 4) o read.attrs.med) (at multi_exit_disc (omega arith)) v.med_is;
        pref_is = subst (λ (o : Option (List ℕ)). Optional (IsNumber 4) o read.attrs.pref) (at local_pref (omega arith)) v.pref_is;
        atomic_is = subst (λ (o : Option (List ℕ)). IsAtomic o read.attrs.atomic) (at atomic_aggregate (omega arith)) v.atomic_is;
        communities_are = subst (λ (o : Option (List ℕ)). AreCommunities o read.attrs.communities) (at communities (omega arith)) v.communities_are;
        reach_is =
            subst (λ (m : Option MpValue). Optional IsMpReach (value_of mp_reach_nlri h.parts) m) (j.reach_is ∙ sym reach)
            (subst (λ (o : Option (List ℕ)). Optional IsMpReach o j.read.reach) (same_value width field judged.count h j.read j.are mp_reach_nlri) j.are.reach_is);
        unreach_is =
            subst (λ (m : Option MpValue). Optional IsMpUnreach (value_of mp_unreach_nlri h.parts) m) (j.unreach_is ∙ sym unreach)
            (subst (λ (o : Option (List ℕ)). Optional IsMpUnreach o j.read.unreach) (same_value width field judged.count h j.read j.are mp_unreach_nlri) j.are.unreach_is);
        stated = s.stated;
        as_path_is = subst (λ (o : Option (List ℕ)). Optional (ArePath width) o s.stated.as_path) (at as_path (omega arith)) s.as_path_is;
        aggregator_is = subst (λ (o : Option (List ℕ)). Optional (IsAggregator width) o s.stated.aggregator) (at aggregator (omega arith)) s.aggregator_is;
        as4_path_is = s.as4_path_is ∙ at as4_path (omega arith);
        as4_aggregator_is = s.as4_aggregator_is ∙ at as4_aggregator (omega arith);
        chosen = s.chosen;
        others_are = v.others_are ∙ kept h.parts h.are;
        count_is = count ∙ h.count_is;
      }

  -- and they are those of any value that the field has
  pub attrs_made : (attrs : AttrsValue) (others : List OtherValue) → HaveValues width (value_at values) others attrs
      → ((parts : List OtherValue) → AreParts IsAttribute field parts → others ≡ kept_of parts) → (read : AttrsReadValue) → AreAttributes width field read → attrs ≡ read.attrs
  attrs_made attrs others v kept read are =
      ap (λ (r : AttrsReadValue). r.attrs)
      (AreAttributes-one width field (record j.read { attrs = attrs }) read (made_are (record j.read { attrs = attrs }) others v kept j.reach_is j.unreach_is j.count_is) are)
