-- A field of path attributes has one value at most.
use Rattle.std.proofs.Common.{◌≡◌, ℕ, ◌≤◌, Bool, true, false, cond, not, List, [], ◌∷◌, ◌++◌, length, drop, get_or, map, filter, Option, Some, None, inl, inr, sym, ap, ◌∙◌, subst, arith}
use Rattle.std.specs.Prelude.{MatchBool}
use Rattle.std.proofs.lemmas.List.{get_or_append_left}
use Rattle.byteorder.specs.Endian.{big_number}
use Rattle.bmp_specs.specs.declared.wire.Width.{Width}
use Rattle.bmp_specs.specs.declared.wire.Width.TheVariants.{Two, Four}
use Rattle.bmp_specs.specs.AsPath.{ArePath}
use Rattle.bmp_specs.specs.Attribute.{IsAttribute, attribute_header, value_length, has_extended_length}
use Rattle.bmp_specs.specs.Attributes.{AreAttributes, AreCommunities, IsAggregator, IsAtomic, aggregator, as4_aggregator, as4_path, as_path, atomic_aggregate, communities, is_read, kept, local_pref, mp_reach_nlri, mp_unreach_nlri, multi_exit_disc, next_hop, origin, value_of}
use Rattle.bmp_specs.specs.FourOctetAs.{AsAttributes, Chooses, IsMergedPath, ignores_as4, merged_aggregator}
use Rattle.bmp_specs.specs.MergedPath.{merged_path, without_confederation}
use Rattle.bmp_specs.specs.MpNlri.{IsMpReach, IsMpUnreach}
use Rattle.bmp_specs.specs.Number.{IsNumber}
use Rattle.bmp_specs.specs.Parts.{IsCode}
use Rattle.bmp_specs.specs.Sequence.{IsField}
use Rattle.bmp_specs.specs.Values.{AggregatorValue, OtherValue, SegmentValue}
use Rattle.bmp_specs.proofs.PartsRead.{AreParts-one}
use Rattle.bmp_specs.proofs.PathCode.{path_one}
use Rattle.bmp_specs.proofs.PeerHeaderCode.{number_code}
use Rattle.bmp_specs.proofs.PrefixCode.{same_front}
use Rattle.bmp_specs.proofs.StatedLength.{big_number-drop-append}
use Rattle.bmp_specs.proofs.ThenOne.{IsOne, Optional-one}

three : (extended : Bool) → 3 ≤ cond extended 4 3
three true = omega arith
three false = omega arith

-- three bytes stand before a value at least
pub attribute_header-long : (bytes : List ℕ) → 3 ≤ attribute_header bytes
attribute_header-long bytes = three (has_extended_length bytes)

-- the first bytes alone say where the value begins, and how long it is
pub attribute_header-append : (a x : List ℕ) → 3 ≤ length a → attribute_header (a ++ x) ≡ attribute_header a
attribute_header-append a x long = ap (λ (flags : ℕ). attribute_header (flags ∷ [])) (get_or_append_left a x 0 0 (omega (arith, long)))

says : (extended : Bool) (a x : List ℕ) → cond extended 4 3 ≤ length a
    → cond extended (big_number 2 (drop 2 (a ++ x))) (get_or (a ++ x) 2 0) ≡ cond extended (big_number 2 (drop 2 a)) (get_or a 2 0)
says true a x long = big_number-drop-append 2 2 a x long
says false a x long = get_or_append_left a x 0 2 (omega (arith, long))

pub value_length-append : (a x : List ℕ) → attribute_header a ≤ length a → value_length (a ++ x) ≡ value_length a
value_length-append a x long =
    let some : 3 ≤ length a = omega (arith, long, attribute_header-long a) in
    let flags : get_or (a ++ x) 0 0 ≡ get_or a 0 0 = get_or_append_left a x 0 0 (omega (arith, some)) in
    ap (λ (n : ℕ). cond (has_extended_length (n ∷ [])) (big_number 2 (drop 2 (a ++ x))) (get_or (a ++ x) 2 0)) flags ∙ says (has_extended_length a) a x long

attribute_one : (a b x y : List ℕ) (v w : OtherValue) → IsAttribute a v → IsAttribute b w → a ++ x ≡ b ++ y → (a ≡ b) × (v ≡ w)
attribute_one a b x y v w p q e =
    let long : 3 ≤ length a = omega (arith, p.header, attribute_header-long a) in
    let other : 3 ≤ length b = omega (arith, q.header, attribute_header-long b) in
    let headers : attribute_header a ≡ attribute_header b = sym (attribute_header-append a x long) ∙ ap (λ (l : List ℕ). attribute_header l) e ∙ attribute_header-append b y other in
    let values : value_length a ≡ value_length b = sym (value_length-append a x p.header) ∙ ap (λ (l : List ℕ). value_length l) e ∙ value_length-append b y q.header in
    let lengths : length a ≡ length b = omega (arith, headers, values, p.length_is, q.length_is) in
    let same : a ≡ b = same_front a b x y lengths e in
    let flags : v.flags ≡ w.flags = sym p.flags_is ∙ ap (λ (l : List ℕ). get_or l 0 0) same ∙ q.flags_is in
    let code : v.code ≡ w.code = sym p.code_is ∙ ap (λ (l : List ℕ). get_or l 1 0) same ∙ q.code_is in
    let value : v.value ≡ w.value = sym p.value_is ∙ ap (λ (l : List ℕ). drop (attribute_header l) l) same ∙ q.value_is in
    (same, λ i. record { flags = flags i; code = code i; value = value i })

-- no attribute begins another
pub attribute_code : IsCode IsAttribute
attribute_code = record { some = λ v p. omega (arith, p.header, attribute_header-long []); one = attribute_one }

number_one : (n : ℕ) → IsOne (IsNumber n)
number_one n bytes v w p q = sym p.value_is ∙ q.value_is

field_one : (n : ℕ) → IsOne (IsField n)
field_one n bytes v w p q = sym p.value_is ∙ q.value_is

pub reach_one : IsOne IsMpReach
reach_one value m n p q =
    let afi : m.afi ≡ n.afi = sym p.afi_is ∙ q.afi_is in
    let safi : m.safi ≡ n.safi = sym p.safi_is ∙ q.safi_is in
    let hop : m.hop ≡ n.hop = sym p.hop_is ∙ q.hop_is in
    let prefixes : m.prefixes ≡ n.prefixes = sym p.prefixes_are ∙ q.prefixes_are in
    λ i. record { afi = afi i; safi = safi i; hop = hop i; prefixes = prefixes i }

pub unreach_one : IsOne IsMpUnreach
unreach_one value m n p q =
    let afi : m.afi ≡ n.afi = sym p.afi_is ∙ q.afi_is in
    let safi : m.safi ≡ n.safi = sym p.safi_is ∙ q.safi_is in
    let hop : m.hop ≡ n.hop = p.hop_is ∙ sym q.hop_is in
    let prefixes : m.prefixes ≡ n.prefixes = sym p.prefixes_are ∙ q.prefixes_are in
    λ i. record { afi = afi i; safi = safi i; hop = hop i; prefixes = prefixes i }

aggregator_one : (width : Width) → IsOne (IsAggregator width)
aggregator_one width value a b p q =
    let asn : a.asn ≡ b.asn = sym p.asn_is ∙ q.asn_is in
    let identifier : a.identifier ≡ b.identifier = sym p.identifier_is ∙ q.identifier_is in
    λ i. record { asn = asn i; identifier = identifier i }

atomic_one : (found : Option (List ℕ)) (a b : Bool) → IsAtomic found a → IsAtomic found b → a ≡ b
atomic_one None a b p q = p ∙ sym q
atomic_one (Some value) a b p q = p.1 ∙ sym q.1

communities_one : (found : Option (List ℕ)) (v w : List ℕ) → AreCommunities found v → AreCommunities found w → v ≡ w
communities_one None v w p q = p ∙ sym q
communities_one (Some value) v w p q = AreParts-one (IsNumber 4) (number_code 4 (omega arith)) value v w p q

merged_one : (short : Option (List SegmentValue)) (long : Option (List ℕ)) (v w : Option (List SegmentValue)) → IsMergedPath short long v → IsMergedPath short long w → v ≡ w
merged_one None long v w p q = p ∙ sym q
merged_one (Some short) None v w p q = p ∙ sym q
merged_one (Some short) (Some long) v w (inl p) (inl q) =
    p.path_is ∙ ap (λ (l : List SegmentValue). Some (merged_path short (without_confederation l))) (path_one Four long p.segments q.segments p.are q.are) ∙ sym q.path_is
merged_one (Some short) (Some long) v w (inl p) (inr q) = absurd (q.none p.segments p.are)
merged_one (Some short) (Some long) v w (inr p) (inl q) = absurd (p.none q.segments q.are)
merged_one (Some short) (Some long) v w (inr p) (inr q) = p.path_is ∙ sym q.path_is

-- what a route has of its AS attributes
record Chosen (g h : Option AggregatorValue) (v w : Option (List SegmentValue)) : Type 0 where
  aggregators : g ≡ h
  paths : v ≡ w

chooses_two : (ignored : Bool) (a : AsAttributes) (g h : Option AggregatorValue) (v w : Option (List SegmentValue))
    → MatchBool ignored ((g ≡ a.aggregator) × (v ≡ a.as_path)) ((g ≡ merged_aggregator a.aggregator a.as4_aggregator) × IsMergedPath a.as_path a.as4_path v)
    → MatchBool ignored ((h ≡ a.aggregator) × (w ≡ a.as_path)) ((h ≡ merged_aggregator a.aggregator a.as4_aggregator) × IsMergedPath a.as_path a.as4_path w) → Chosen g h v w
chooses_two true a g h v w p q = record { aggregators = p.0 ∙ sym q.0; paths = p.1 ∙ sym q.1 }
chooses_two false a g h v w p q = record { aggregators = p.0 ∙ sym q.0; paths = merged_one a.as_path a.as4_path v w p.1 q.1 }

chooses_one : (width : Width) (a : AsAttributes) (g h : Option AggregatorValue) (v w : Option (List SegmentValue)) → Chooses width a g v → Chooses width a h w → Chosen g h v w
chooses_one Four a g h v w p q = record { aggregators = p.0 ∙ sym q.0; paths = p.1 ∙ sym q.1 }
chooses_one Two a g h v w p q = chooses_two (ignores_as4 a.aggregator a.as4_aggregator) a g h v w p q

pub AreAttributes-one : (width : Width) → IsOne (AreAttributes width)
AreAttributes-one width field r s p q =
    let same : p.parts ≡ q.parts = AreParts-one IsAttribute attribute_code field p.parts q.parts p.are q.are in
    let found : (code : ℕ) → value_of code p.parts ≡ value_of code q.parts = λ code. ap (λ (l : List OtherValue). value_of code l) same in
    let origins = Optional-one (IsNumber 1) (number_one 1) (value_of origin q.parts) r.attrs.origin s.attrs.origin (rw (found origin) at p.origin_is) q.origin_is in
    let hops = Optional-one (IsField 4) (field_one 4) (value_of next_hop q.parts) r.attrs.hop s.attrs.hop (rw (found next_hop) at p.hop_is) q.hop_is in
    let meds = Optional-one (IsNumber 4) (number_one 4) (value_of multi_exit_disc q.parts) r.attrs.med s.attrs.med (rw (found multi_exit_disc) at p.med_is) q.med_is in
    let prefs = Optional-one (IsNumber 4) (number_one 4) (value_of local_pref q.parts) r.attrs.pref s.attrs.pref (rw (found local_pref) at p.pref_is) q.pref_is in
    let atomics = atomic_one (value_of atomic_aggregate q.parts) r.attrs.atomic s.attrs.atomic (rw (found atomic_aggregate) at p.atomic_is) q.atomic_is in
    let lists = communities_one (value_of communities q.parts) r.attrs.communities s.attrs.communities (rw (found communities) at p.communities_are) q.communities_are in
    let reaches = Optional-one IsMpReach reach_one (value_of mp_reach_nlri q.parts) r.reach s.reach (rw (found mp_reach_nlri) at p.reach_is) q.reach_is in
    let unreaches = Optional-one IsMpUnreach unreach_one (value_of mp_unreach_nlri q.parts) r.unreach s.unreach (rw (found mp_unreach_nlri) at p.unreach_is) q.unreach_is in
    let stated_paths = Optional-one (ArePath width) (path_one width) (value_of as_path q.parts) p.stated.as_path q.stated.as_path (rw (found as_path) at p.as_path_is) q.as_path_is in
    let stated_aggregators = Optional-one (IsAggregator width) (aggregator_one width) (value_of aggregator q.parts) p.stated.aggregator q.stated.aggregator (rw (found aggregator) at p.aggregator_is) q.aggregator_is in
    let as4_paths : p.stated.as4_path ≡ q.stated.as4_path = p.as4_path_is ∙ found as4_path ∙ sym q.as4_path_is in
    let as4_aggregators : p.stated.as4_aggregator ≡ q.stated.as4_aggregator = p.as4_aggregator_is ∙ found as4_aggregator ∙ sym q.as4_aggregator_is in
    let stated : p.stated ≡ q.stated = λ i. record { aggregator = stated_aggregators i; as4_aggregator = as4_aggregators i; as_path = stated_paths i; as4_path = as4_paths i } in
    let chosen = chooses_one width q.stated r.attrs.aggregator s.attrs.aggregator r.attrs.path s.attrs.path (subst (λ (a : AsAttributes). Chooses width a r.attrs.aggregator r.attrs.path) stated p.chosen) q.chosen in
    let others : r.attrs.others ≡ s.attrs.others = p.others_are ∙ ap (λ (l : List OtherValue). map kept (filter (λ a. not (is_read a)) l)) same ∙ sym q.others_are in
    let count : r.count ≡ s.count = p.count_is ∙ ap (λ (l : List OtherValue). length l) same ∙ sym q.count_is in
    let attrs : r.attrs ≡ s.attrs = λ i. record {
      origin = origins i;
      path = chosen.paths i;
      hop = hops i;
      med = meds i;
      pref = prefs i;
      atomic = atomics i;
      aggregator = chosen.aggregators i;
      communities = lists i;
      others = others i;
    } in
    λ i. record { attrs = attrs i; reach = reaches i; unreach = unreaches i; count = count i }
