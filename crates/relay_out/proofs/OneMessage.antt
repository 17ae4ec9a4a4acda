-- Of lists of octets one alone has the form of a message: path attributes, UPDATE messages, OPEN messages and what they
-- stand in.
use Rattle.std.proofs.Common.{◌≡◌, ℕ, zero, suc, ◌+◌, ◌≤◌, ◌==◌, Bool, true, false, List, [], ◌∷◌, ◌++◌, length, take, drop, Option, Some, None, refl, sym, ap, subst, ◌∙◌, arith, length-drop}
use Rattle.std.specs.Prelude.{if◌then◌else◌, slice_index, ⊤}
use Rattle.std.specs.Option.{is_some}
use Rattle.std.proofs.lemmas.List.{drop_all, drop_more, length-take-le, take-append-drop}
use Rattle.byteorder.specs.Endian.{big_bytes, big_number}
use Rattle.bmp_specs.specs.declared.peers.View.{View}
use Rattle.bmp_specs.specs.declared.wire.Family.{Family}
use Rattle.bmp_specs.specs.declared.wire.Width.TheVariants.{Four}
use Rattle.bmp_specs.specs.AddressFamily.{afi_of, unicast}
use Rattle.bmp_specs.specs.AsPath.{ArePath, IsAsNumber, IsSegment}
use Rattle.bmp_specs.specs.Attribute.{IsAttribute, extended_length, has_extended_length}
use Rattle.bmp_specs.specs.Attributes.{IsAggregator, IsAtomic, Optional, aggregator, as_path, atomic_aggregate, communities, local_pref, mp_reach_nlri, mp_unreach_nlri, multi_exit_disc, next_hop, origin}
use Rattle.bmp_specs.specs.BgpMessage.{IsBgpMessage, update_type}
use Rattle.bmp_specs.specs.Coded.{IsCoded}
use Rattle.bmp_specs.specs.Frame.{IsFrame}
use Rattle.bmp_specs.specs.Initiation.{sys_descr, sys_name}
use Rattle.bmp_specs.specs.MpNlri.{IsMpUnreach, hop_length}
use Rattle.bmp_specs.specs.Nlri.{IsNlri}
use Rattle.bmp_specs.specs.Number.{IsNumber}
use Rattle.bmp_specs.specs.Open.{add_path, capabilities_type, entries, four_octet_as, multiprotocol}
use Rattle.bmp_specs.specs.Parts.{AreParts}
use Rattle.bmp_specs.specs.PeerHeader.{is_set}
use Rattle.bmp_specs.specs.Sequence.{IsField}
use Rattle.bmp_specs.specs.Values.{AggregatorValue, AttrsValue, CapValue, CodedValue, KeyValue, MpValue, NlriValue, OpenValue, OtherValue, PeerInfoValue, SegmentValue}
use Rattle.bmp_writer.specs.Capabilities.{AreCapabilities, IsAsCapability, IsFamilyCapability, IsPathCapability, IsPathEntry, as_family, capabilities_size}
use Rattle.bmp_writer.specs.OpenMessage.{AreParametersOf, IsOpenOf, open_front, parameters_size}
use Rattle.bmp_writer.specs.PeerMessage.{IsPeerMessage}
use Rattle.bmp_writer.specs.PeerUpMessage.{IsLocal, IsTable, IsUpMessage, name_tlvs}
use Rattle.bmp_writer.specs.Written.{IsToldMessage, initiation_type, peer_up_type, route_monitoring_type}
use Rattle.bmp_writer.specs.WrittenAttributes.{AreMulti, AreOthers, AreSomeCommunities, IsFirst, IsFront, IsMulti, IsOther, IsPart, IsPlainReach, IsReach, IsSecond, IsUnreach, optional, optional_transitive, part_of, transitive, written, written_other}
use Rattle.bmp_writer.specs.WrittenNlri.{AreOwnNlri, IsOwnNlri, id_size, prefix_bytes}
use Rattle.bmp_writer.specs.WrittenRoutes.{IsRoutesMessage, family_of}
use Rattle.bmp_writer.specs.WrittenUpdate.{IsField as IsAttributeField, IsUpdateOf, PlacesValue, counted, places}
use Rattle.bmp_specs.specs.Octets.{AreOctets}
use Rattle.relay_out.proofs.OneForm.{IsOne, behind, body_octets, field_one, frame_one, joined_one, message_one, number_at, number_one, octets_at, octets_of, parts_one, peer_message_one, tlvs_one, up_header_one}

-- ---- path attributes
-- an attribute behind a header of four bytes, and behind one of three
record IsLong (l : List ℕ) (o : OtherValue) : Type 0 where
  header : 4 ≤ length l
  size : big_number 2 (drop 2 l) + 4 ≡ length l
  value : drop 4 l ≡ o.value

record IsShort (l : List ℕ) (o : OtherValue) : Type 0 where
  header : 3 ≤ length l
  size : slice_index l 2 + 3 ≡ length l
  value : drop 3 l ≡ o.value

long : (l : List ℕ) (o : OtherValue) → IsAttribute l o → has_extended_length l ≡ true → IsLong l o
long l o x e =
    let p = subst (λ (c : Bool). ((if c then 4 else 3) ≤ length l) × ((if c then big_number 2 (drop 2 l) else slice_index l 2) + (if c then 4 else 3) ≡ length l) × (drop (if c then 4 else 3) l ≡ o.value)) e (x.header, x.length_is, x.value_is) in
    record { header = p.0; size = p.1; value = p.2 }

short : (l : List ℕ) (o : OtherValue) → IsAttribute l o → has_extended_length l ≡ false → IsShort l o
short l o x e =
    let p = subst (λ (c : Bool). ((if c then 4 else 3) ≤ length l) × ((if c then big_number 2 (drop 2 l) else slice_index l 2) + (if c then 4 else 3) ≡ length l) × (drop (if c then 4 else 3) l ≡ o.value)) e (x.header, x.length_is, x.value_is) in
    record { header = p.0; size = p.1; value = p.2 }

attribute_one : (o : OtherValue) → IsOne (λ bytes. IsAttribute bytes o)
attribute_one o a b oa ob x y = go (is_set extended_length o.flags) (ap (λ (f : ℕ). is_set extended_length f) x.flags_is) (ap (λ (f : ℕ). is_set extended_length f) y.flags_is)
  where
    long_len : (l : List ℕ) → IsLong l o → length l ≡ 4 + length o.value
    long_len l p = omega (arith, p.header, length-drop 4 l, ap (λ (r : List ℕ). length r) p.value)

    long_whole : (l : List ℕ) → IsAttribute l o → IsLong l o → l ≡ o.flags ∷ o.code ∷ (take 2 (drop 2 l) ++ o.value)
    long_whole l x p =
        let rest : drop 2 l ≡ take 2 (drop 2 l) ++ o.value = behind 2 2 l ∙ ap (λ (r : List ℕ). take 2 (drop 2 l) ++ r) p.value in
        let second : drop 1 l ≡ o.code ∷ (take 2 (drop 2 l) ++ o.value) = drop_more l 1 0 (omega (arith, p.header)) ∙ (λ i. x.code_is i ∷ rest i) in
        drop_more l 0 0 (omega (arith, p.header)) ∙ (λ i. x.flags_is i ∷ second i)

    short_whole : (l : List ℕ) → IsAttribute l o → IsShort l o → l ≡ o.flags ∷ o.code ∷ length o.value ∷ o.value
    short_whole l x p =
        let size : slice_index l 2 ≡ length o.value = let s = p.size in omega (arith, s, p.header, length-drop 3 l, ap (λ (r : List ℕ). length r) p.value) in
        let third : drop 2 l ≡ length o.value ∷ o.value = drop_more l 2 0 (omega (arith, p.header)) ∙ (λ i. size i ∷ p.value i) in
        let second : drop 1 l ≡ o.code ∷ length o.value ∷ o.value = drop_more l 1 0 (omega (arith, p.header)) ∙ (λ i. x.code_is i ∷ third i) in
        drop_more l 0 0 (omega (arith, p.header)) ∙ (λ i. x.flags_is i ∷ second i)

    go : (e : Bool) → has_extended_length a ≡ e → has_extended_length b ≡ e → a ≡ b
    go true ea eb =
        let p = long a o x ea in
        let q = long b o y eb in
        let la = long_len a p in
        let lb = long_len b q in
        let size = number_at 2 2 a b (omega (arith, la)) (omega (arith, lb)) oa ob (let s = p.size in let t = q.size in omega (arith, s, t, la, lb)) in
        long_whole a x p ∙ (λ i. o.flags ∷ o.code ∷ (size i ++ o.value)) ∙ sym (long_whole b y q)
    go false ea eb = short_whole a x (short a o x ea) ∙ sym (short_whole b y (short b o y eb))

value_octets : (l : List ℕ) (o : OtherValue) → IsAttribute l o → AreOctets l → AreOctets o.value
value_octets l o x octets = subst AreOctets x.value_is (octets_at (if has_extended_length l then 4 else 3) l octets).1

-- the value of a part, where there is one
abbrev AreOptionalOctets : Option (List ℕ) → Type 0
AreOptionalOctets None = ⊤
AreOptionalOctets (Some value) = AreOctets value

part_octets : (flags code : ℕ) (value : Option (List ℕ)) (bytes : List ℕ) → AreParts IsAttribute bytes (part_of flags code value) → AreOctets bytes → AreOptionalOctets value
part_octets flags code None bytes p o = tt
part_octets flags code (Some value) bytes (front, rest, s, is, none) o = value_octets front (written flags code value) is (octets_of front rest bytes s.joined o).0

-- two values that are so are one
abbrev IsOneValue : (Option (List ℕ) → Type 0) → Type 0
IsOneValue Is = (v w : Option (List ℕ)) → AreOptionalOctets v → AreOptionalOctets w → Is v → Is w → v ≡ w

part_one : (flags code : ℕ) (Is : Option (List ℕ) → Type 0) → IsOneValue Is → IsOne (IsPart flags code Is)
part_one flags code Is one a b oa ob x y =
    let same : x.value ≡ y.value = one x.value y.value (part_octets flags code x.value a x.are oa) (part_octets flags code y.value b y.are ob) x.is y.is in
    parts_one IsAttribute attribute_one (part_of flags code y.value) a b oa ob (subst (λ (v : Option (List ℕ)). AreParts IsAttribute a (part_of flags code v)) same x.are) y.are

optional_one : {V : Type 0} (Is : List ℕ → V → Type 0) → ((v : V) → IsOne (λ bytes. Is bytes v)) → (told : Option V) → IsOneValue (λ value. Optional Is value told)
optional_one Is one told None None ov ow p q = refl
optional_one Is one None (Some v) w ov ow p q = absurd p
optional_one Is one None None (Some w) ov ow p q = absurd q
optional_one Is one (Some t) None (Some w) ov ow p q = absurd p
optional_one Is one (Some t) (Some v) None ov ow p q = absurd q
optional_one Is one (Some t) (Some v) (Some w) ov ow p q = ap (λ (l : List ℕ). Some l) (one t v w ov ow p q)

atomic_one : (atomic : Bool) → IsOneValue (λ value. IsAtomic value atomic)
atomic_one atomic None None ov ow p q = refl
atomic_one atomic None (Some w) ov ow p q = let e : false ≡ true = sym p ∙ q.1 in absurd (cc e)
atomic_one atomic (Some v) None ov ow p q = let e : false ≡ true = sym q ∙ p.1 in absurd (cc e)
atomic_one atomic (Some v) (Some w) ov ow p q = ap (λ (l : List ℕ). Some l) (p.0 ∙ sym q.0)

communities_one : (values : List ℕ) → IsOneValue (λ value. AreSomeCommunities value values)
communities_one values None None ov ow p q = refl
communities_one values None (Some w) ov ow p q = absurd (omega (arith, q.1, ap (λ (l : List ℕ). length l) p))
communities_one values (Some v) None ov ow p q = absurd (omega (arith, p.1, ap (λ (l : List ℕ). length l) q))
communities_one values (Some v) (Some w) ov ow p q = ap (λ (l : List ℕ). Some l) (parts_one (IsNumber 4) (number_one 4) values v w ov ow p.0 q.0)

-- ---- AS_PATH and AGGREGATOR
as_number_one : (asn : ℕ) → IsOne (λ bytes. IsAsNumber Four bytes asn)
as_number_one asn a b oa ob x y = number_one 4 asn a b oa ob (record { len = x.len; value_is = sym x.value }) (record { len = y.len; value_is = sym y.value })

segment_one : (s : SegmentValue) → IsOne (λ bytes. IsSegment Four bytes s)
segment_one s a b oa ob x y =
    let numbers : drop 2 a ≡ drop 2 b = parts_one (IsAsNumber Four) as_number_one s.numbers (drop 2 a) (drop 2 b) (octets_at 2 a oa).1 (octets_at 2 b ob).1 x.numbers_are y.numbers_are in
    whole a x.header ∙ (λ i. (x.kind_is ∙ sym y.kind_is) i ∷ (x.count_is ∙ sym y.count_is) i ∷ numbers i) ∙ sym (whole b y.header)
  where
    whole : (l : List ℕ) → 2 ≤ length l → l ≡ slice_index l 0 ∷ slice_index l 1 ∷ drop 2 l
    whole l h = drop_more l 0 0 (omega (arith, h)) ∙ ap (λ (r : List ℕ). slice_index l 0 ∷ r) (drop_more l 1 0 (omega (arith, h)))

path_one : (path : List SegmentValue) → IsOne (λ bytes. ArePath Four bytes path)
path_one path = parts_one (IsSegment Four) segment_one path

aggregator_one : (g : AggregatorValue) → IsOne (λ bytes. IsAggregator Four bytes g)
aggregator_one g a b oa ob x y =
    let number = number_at 4 0 a b (omega (arith, x.len)) (omega (arith, y.len)) oa ob (x.asn_is ∙ sym y.asn_is) in
    sym (take-append-drop 4 a) ∙ (λ i. number i ++ (x.identifier_is ∙ sym y.identifier_is) i) ∙ take-append-drop 4 b

first_one : (attrs : AttrsValue) → IsOne (IsFirst attrs)
first_one attrs =
    joined_one _ _ (part_one transitive origin (λ value. Optional (IsNumber 1) value attrs.origin) (optional_one (IsNumber 1) (number_one 1) attrs.origin))
    (joined_one _ _ (part_one transitive as_path (λ value. Optional (ArePath Four) value attrs.path) (optional_one (ArePath Four) path_one attrs.path))
    (joined_one _ _ (part_one transitive next_hop (λ value. Optional (IsField 4) value attrs.hop) (optional_one (IsField 4) (field_one 4) attrs.hop))
    (part_one optional multi_exit_disc (λ value. Optional (IsNumber 4) value attrs.med) (optional_one (IsNumber 4) (number_one 4) attrs.med))))

second_one : (attrs : AttrsValue) → IsOne (IsSecond attrs)
second_one attrs =
    joined_one _ _ (part_one transitive local_pref (λ value. Optional (IsNumber 4) value attrs.pref) (optional_one (IsNumber 4) (number_one 4) attrs.pref))
    (joined_one _ _ (part_one transitive atomic_aggregate (λ value. IsAtomic value attrs.atomic) (atomic_one attrs.atomic))
    (joined_one _ _ (part_one optional_transitive aggregator (λ value. Optional (IsAggregator Four) value attrs.aggregator) (optional_one (IsAggregator Four) aggregator_one attrs.aggregator))
    (part_one optional_transitive communities (λ value. AreSomeCommunities value attrs.communities) (communities_one attrs.communities))))

front_one : (attrs : AttrsValue) → IsOne (IsFront attrs)
front_one attrs = joined_one _ _ (first_one attrs) (second_one attrs)

others_one : (others : List OtherValue) → IsOne (AreOthers others)
others_one others = parts_one IsOther (λ o. attribute_one (written_other o)) others

-- ---- prefixes
nlri_one : (n : NlriValue) → IsOne (λ bytes. IsOwnNlri bytes n)
nlri_one n a b oa ob x y = go n.id refl
  where
    some_is : (v w : ℕ) → Some v ≡ Some w → v ≡ w
    some_is v w e = cc e

    go : (id : Option ℕ) → n.id ≡ id → a ≡ b
    go None e =
        let bare : (l : List ℕ) → IsOwnNlri l n → l ≡ prefix_bytes n.prefix = λ l z. subst (λ (o : Option ℕ). drop (id_size o) l ≡ prefix_bytes n.prefix) e z.exact in
        bare a x ∙ sym (bare b y)
    go (Some v) e =
        let at : (l : List ℕ) → IsOwnNlri l n → (4 ≤ length l) × (v ≡ big_number 4 l) × (drop 4 l ≡ prefix_bytes n.prefix) =
        λ l z. identified l v e z in
        let p = at a x in
        let q = at b y in
        let number = number_at 4 0 a b p.0 q.0 oa ob (sym p.1 ∙ q.1) in
        sym (take-append-drop 4 a) ∙ (λ i. number i ++ (p.2 ∙ sym q.2) i) ∙ take-append-drop 4 b
      where
        identified : (l : List ℕ) (v : ℕ) → n.id ≡ Some v → IsOwnNlri l n → (4 ≤ length l) × (v ≡ big_number 4 l) × (drop 4 l ≡ prefix_bytes n.prefix)
        identified l v e z =
            let is : IsNlri n.prefix.address.family true l n = subst (λ (o : Option ℕ). IsNlri n.prefix.address.family (is_some o) l n) e z.is in
            (is.header, some_is v (big_number 4 l) (sym e ∙ is.id_is), subst (λ (o : Option ℕ). drop (id_size o) l ≡ prefix_bytes n.prefix) e z.exact)

nlris_one : (ns : List NlriValue) → IsOne (AreOwnNlri ns)
nlris_one ns = parts_one IsOwnNlri nlri_one ns

-- ---- MP_REACH_NLRI and MP_UNREACH_NLRI
reach_value_one : (m : MpValue) → IsOne (λ bytes. IsPlainReach bytes m)
reach_value_one m a b oa ob x y =
    let p = hop a x in
    let q = hop b y in
    let family = number_at 2 0 a b (omega (arith, p.1)) (omega (arith, q.1)) oa ob (x.is.afi_is ∙ sym y.is.afi_is) in
    whole a x p.0 p.1 ∙ (λ i. family i ++ m.safi ∷ length m.hop ∷ (m.hop ++ 0 ∷ m.prefixes)) ∙ sym (whole b y q.0 q.1)
  where
    hop : (l : List ℕ) → IsPlainReach l m → (hop_length l ≡ length m.hop) × (length m.hop + 5 ≤ length l)
    hop l x =
        let size : length m.hop ≡ hop_length l = ap (λ (r : List ℕ). length r) (sym x.is.hop_is) ∙ length-take-le (hop_length l) (drop 4 l) (omega (arith, x.is.header, length-drop 4 l)) in
        (sym size, omega (arith, size, x.is.header))

    whole : (l : List ℕ) → IsPlainReach l m → hop_length l ≡ length m.hop → length m.hop + 5 ≤ length l → l ≡ take 2 l ++ m.safi ∷ length m.hop ∷ (m.hop ++ 0 ∷ m.prefixes)
    whole l x size fits =
        let n = length m.hop in
        let hop_is : take n (drop 4 l) ≡ m.hop = subst (λ (k : ℕ). take k (drop 4 l) ≡ m.hop) size x.is.hop_is in
        let prefixes : drop (n + 5) l ≡ m.prefixes = subst (λ (k : ℕ). drop (k + 5) l ≡ m.prefixes) size x.is.prefixes_are in
        let at : 4 + n + 1 ≡ n + 5 = omega arith in
        let reserved : drop (4 + n) l ≡ 0 ∷ m.prefixes = drop_more l (4 + n) 0 (omega (arith, fits)) ∙ (λ i. x.reserved i ∷ (ap (λ (k : ℕ). drop k l) at ∙ prefixes) i) in
        let fourth : drop 4 l ≡ m.hop ++ 0 ∷ m.prefixes = behind n 4 l ∙ (λ i. hop_is i ++ reserved i) in
        let third : drop 3 l ≡ n ∷ (m.hop ++ 0 ∷ m.prefixes) = drop_more l 3 0 (omega (arith, fits)) ∙ (λ i. size i ∷ fourth i) in
        let second : drop 2 l ≡ m.safi ∷ n ∷ (m.hop ++ 0 ∷ m.prefixes) = drop_more l 2 0 (omega (arith, fits)) ∙ (λ i. x.is.safi_is i ∷ third i) in
        sym (take-append-drop 2 l) ∙ ap (λ (r : List ℕ). take 2 l ++ r) second

unreach_value_one : (m : MpValue) → IsOne (λ bytes. IsMpUnreach bytes m)
unreach_value_one m a b oa ob x y =
    let family = number_at 2 0 a b (omega (arith, x.header)) (omega (arith, y.header)) oa ob (x.afi_is ∙ sym y.afi_is) in
    whole a x ∙ (λ i. family i ++ m.safi ∷ m.prefixes) ∙ sym (whole b y)
  where
    whole : (l : List ℕ) → IsMpUnreach l m → l ≡ take 2 l ++ m.safi ∷ m.prefixes
    whole l x =
        let second : drop 2 l ≡ m.safi ∷ m.prefixes = drop_more l 2 0 (omega (arith, x.header)) ∙ (λ i. x.safi_is i ∷ x.prefixes_are i) in
        sym (take-append-drop 2 l) ∙ ap (λ (r : List ℕ). take 2 l ++ r) second

-- what a multiprotocol attribute is of, where the octets of its prefixes are known
multi_same : (family : Family) (hop : List ℕ) (ns : List NlriValue) (m n : MpValue) → IsMulti family hop ns m → IsMulti family hop ns n → AreOctets m.prefixes → AreOctets n.prefixes → m ≡ n
multi_same family hop ns m n i j oi oj =
    let at : (v : MpValue) (k : IsMulti family hop ns v) → v.prefixes ≡ k.prefixes = λ v k. ap (λ (w : MpValue). w.prefixes) k.is in
    let same : i.prefixes ≡ j.prefixes = nlris_one ns i.prefixes j.prefixes (subst AreOctets (at m i) oi) (subst AreOctets (at n j) oj) i.are j.are in
    i.is ∙ (λ k. record { afi = afi_of family; safi = unicast; hop = hop; prefixes = same k }) ∙ sym j.is

reach_octets : (m : MpValue) (bytes : List ℕ) → IsPart optional mp_reach_nlri (λ value. Optional IsPlainReach value (Some m)) bytes → AreOctets bytes → AreOctets m.prefixes
reach_octets m bytes p o = go p.value (part_octets optional mp_reach_nlri p.value bytes p.are o) p.is
  where
    go : (value : Option (List ℕ)) → AreOptionalOctets value → Optional IsPlainReach value (Some m) → AreOctets m.prefixes
    go None octets is = absurd is
    go (Some v) octets is = subst AreOctets is.is.prefixes_are (octets_at (hop_length v + 5) v octets).1

unreach_octets : (m : MpValue) (bytes : List ℕ) → IsPart optional mp_unreach_nlri (λ value. Optional IsMpUnreach value (Some m)) bytes → AreOctets bytes → AreOctets m.prefixes
unreach_octets m bytes p o = go p.value (part_octets optional mp_unreach_nlri p.value bytes p.are o) p.is
  where
    go : (value : Option (List ℕ)) → AreOptionalOctets value → Optional IsMpUnreach value (Some m) → AreOctets m.prefixes
    go None octets is = absurd is
    go (Some v) octets is = subst AreOctets is.prefixes_are (octets_at 3 v octets).1

none_some : (family : Family) (hop : List ℕ) (ns : List NlriValue) (m : MpValue) → ns ≡ [] → IsMulti family hop ns m → ⊥
none_some family hop ns m none is = omega (arith, is.some, ap (λ (l : List NlriValue). length l) none)

reach_one : (family : Family) (hop : List ℕ) (ns : List NlriValue) → IsOne (IsReach family hop ns)
reach_one family hop ns a b oa ob x y = go x.multi y.multi x.are y.are x.is y.is
  where
    go : (m n : Option MpValue) → AreMulti family hop ns m → AreMulti family hop ns n → IsPart optional mp_reach_nlri (λ value. Optional IsPlainReach value m) a → IsPart optional mp_reach_nlri (λ value. Optional IsPlainReach value n) b → a ≡ b
    go None None i j p q = part_one optional mp_reach_nlri (λ value. Optional IsPlainReach value None) (optional_one IsPlainReach reach_value_one None) a b oa ob p q
    go None (Some n) i j p q = absurd (none_some family hop ns n i j)
    go (Some m) None i j p q = absurd (none_some family hop ns m j i)
    go (Some m) (Some n) i j p q =
        let same : m ≡ n = multi_same family hop ns m n i j (reach_octets m a p oa) (reach_octets n b q ob) in
        let r = subst (λ (k : MpValue). IsPart optional mp_reach_nlri (λ value. Optional IsPlainReach value (Some k)) a) same p in
        part_one optional mp_reach_nlri (λ value. Optional IsPlainReach value (Some n)) (optional_one IsPlainReach reach_value_one (Some n)) a b oa ob r q

unreach_one : (family : Family) (ns : List NlriValue) → IsOne (IsUnreach family ns)
unreach_one family ns a b oa ob x y = go x.multi y.multi x.are y.are x.is y.is
  where
    go : (m n : Option MpValue) → AreMulti family [] ns m → AreMulti family [] ns n → IsPart optional mp_unreach_nlri (λ value. Optional IsMpUnreach value m) a → IsPart optional mp_unreach_nlri (λ value. Optional IsMpUnreach value n) b → a ≡ b
    go None None i j p q = part_one optional mp_unreach_nlri (λ value. Optional IsMpUnreach value None) (optional_one IsMpUnreach unreach_value_one None) a b oa ob p q
    go None (Some n) i j p q = absurd (none_some family [] ns n i j)
    go (Some m) None i j p q = absurd (none_some family [] ns m j i)
    go (Some m) (Some n) i j p q =
        let same : m ≡ n = multi_same family [] ns m n i j (unreach_octets m a p oa) (unreach_octets n b q ob) in
        let r = subst (λ (k : MpValue). IsPart optional mp_unreach_nlri (λ value. Optional IsMpUnreach value (Some k)) a) same p in
        part_one optional mp_unreach_nlri (λ value. Optional IsMpUnreach value (Some n)) (optional_one IsMpUnreach unreach_value_one (Some n)) a b oa ob r q

-- ---- UPDATE messages
attributes_one : (family : Family) (p : PlacesValue) → IsOne (IsAttributeField family p)
attributes_one family p = joined_one _ _ (front_one p.told) (joined_one _ _ (reach_one family p.hop p.multi) (joined_one _ _ (unreach_one family p.unreachable) (others_one p.others)))

counted_octets : (field : List ℕ) → AreOctets (counted field) → AreOctets field
counted_octets field o = (octets_of (big_bytes 2 (length field)) field (counted field) refl o).1

record AreFieldOctets (withdrawn attributes nlri : List ℕ) : Type 0 where
  withdrawn_are : AreOctets withdrawn
  attributes_are : AreOctets attributes
  nlri_are : AreOctets nlri

update_one : (family : Family) (p : PlacesValue) → IsOne (IsUpdateOf family p)
update_one family p a b oa ob x y =
    let m = octets a x oa in
    let n = octets b y ob in
    let withdrawn = nlris_one p.withdrawn x.withdrawn_routes y.withdrawn_routes m.withdrawn_are n.withdrawn_are x.withdrawn_are y.withdrawn_are in
    let attributes = attributes_one family p x.path_attributes y.path_attributes m.attributes_are n.attributes_are x.attributes_are y.attributes_are in
    let nlri = nlris_one p.plain x.nlri y.nlri m.nlri_are n.nlri_are x.nlri_are y.nlri_are in
    let same : counted x.withdrawn_routes ++ (counted x.path_attributes ++ x.nlri) ≡ counted y.withdrawn_routes ++ (counted y.path_attributes ++ y.nlri) = λ i. counted (withdrawn i) ++ (counted (attributes i) ++ nlri i) in
    let is = subst (λ (body : List ℕ). IsBgpMessage a (record { kind = update_type; body = body })) same x.is in
    message_one (record { kind = update_type; body = counted y.withdrawn_routes ++ (counted y.path_attributes ++ y.nlri) }) a b oa ob is y.is
  where
    octets : (l : List ℕ) (x : IsUpdateOf family p l) → AreOctets l → AreFieldOctets x.withdrawn_routes x.path_attributes x.nlri
    octets l x o =
        let body : AreOctets (counted x.withdrawn_routes ++ (counted x.path_attributes ++ x.nlri)) = subst AreOctets x.is.body_is (octets_at 19 l o).1 in
        let one = octets_of (counted x.withdrawn_routes) (counted x.path_attributes ++ x.nlri) (counted x.withdrawn_routes ++ (counted x.path_attributes ++ x.nlri)) refl body in
        let two = octets_of (counted x.path_attributes) x.nlri (counted x.path_attributes ++ x.nlri) refl one.1 in
        record { withdrawn_are = counted_octets x.withdrawn_routes one.0; attributes_are = counted_octets x.path_attributes two.0; nlri_are = two.1 }

pub routes_one : (key : KeyValue) (view : View) (withdrawn announced : List NlriValue) (attrs : AttrsValue) → IsOne (IsRoutesMessage key view withdrawn announced attrs)
routes_one key view withdrawn announced attrs a b oa ob x y =
    let family = family_of (withdrawn ++ announced) in
    let p = places family withdrawn announced attrs in
    let behind_header : (l : List ℕ) (z : IsRoutesMessage key view withdrawn announced attrs l) → AreOctets l → AreOctets z.update =
    λ l z o. (octets_of z.is.head z.update (z.is.head ++ z.update) refl (body_octets l route_monitoring_type (z.is.head ++ z.update) z.is.is o)).1 in
    let same : x.update ≡ y.update = update_one family p x.update y.update (behind_header a x oa) (behind_header b y ob) x.update_is y.update_is in
    peer_message_one route_monitoring_type key view y.update a b oa ob (subst (λ (u : List ℕ). IsPeerMessage route_monitoring_type key view u a) same x.is) y.is

-- ---- OPEN messages
coded_whole : (l : List ℕ) (c : CodedValue) → IsCoded l c → l ≡ c.code ∷ length c.value ∷ c.value
coded_whole l c x =
    let size : slice_index l 1 ≡ length c.value = let s = x.length_is in omega (arith, s, x.header, length-drop 2 l, ap (λ (r : List ℕ). length r) x.value_is) in
    let second : drop 1 l ≡ length c.value ∷ c.value = drop_more l 1 0 (omega (arith, x.header)) ∙ (λ i. size i ∷ x.value_is i) in
    drop_more l 0 0 (omega (arith, x.header)) ∙ (λ i. x.code_is i ∷ second i)

coded_octets : (l : List ℕ) (c : CodedValue) → IsCoded l c → AreOctets l → AreOctets c.value
coded_octets l c x o = subst AreOctets x.value_is (octets_at 2 l o).1

coded_size : (l : List ℕ) (c : CodedValue) → IsCoded l c → length l ≡ 2 + length c.value
coded_size l c x = omega (arith, x.header, length-drop 2 l, ap (λ (r : List ℕ). length r) x.value_is)

family_one : (cap : CapValue) → IsOne (λ bytes. IsFamilyCapability bytes cap)
family_one cap a b oa ob x y =
    let p = says a x in
    let q = says b y in
    let number = number_at 2 0 x.value y.value (omega (arith, size a x)) (omega (arith, size b y)) (coded_octets a (record { code = multiprotocol; value = x.value }) x.is oa) (coded_octets b (record { code = multiprotocol; value = y.value }) y.is ob) (p.0 ∙ sym q.0) in
    let same : x.value ≡ y.value = value a x p.1 ∙ (λ i. number i ++ 0 ∷ cap.safi ∷ []) ∙ sym (value b y q.1) in
    coded_whole a (record { code = multiprotocol; value = x.value }) x.is ∙ (λ i. multiprotocol ∷ length (same i) ∷ same i) ∙ sym (coded_whole b (record { code = multiprotocol; value = y.value }) y.is)
  where
    size : (l : List ℕ) (x : IsFamilyCapability l cap) → length x.value ≡ 4
    size l x = omega (arith, coded_size l (record { code = multiprotocol; value = x.value }) x.is, x.len)

    says : (l : List ℕ) (x : IsFamilyCapability l cap) → (big_number 2 x.value ≡ cap.afi) × (slice_index x.value 3 ≡ cap.safi)
    says l x =
        let four : (length x.value == 4) ≡ true = ap (λ (n : ℕ). n == 4) (size l x) in
        let is : Some (record { afi = big_number 2 x.value; safi = slice_index x.value 3; value = 0 }) ≡ Some (as_family cap) =
        sym (ap (λ (t : Bool). if t then Some (record { afi = big_number 2 x.value; safi = slice_index x.value 3; value = 0 }) else None) four) ∙ x.family_is in
        let same : record { afi = big_number 2 x.value; safi = slice_index x.value 3; value = 0 } ≡ as_family cap = cc is in
        (ap (λ (c : CapValue). c.afi) same, ap (λ (c : CapValue). c.safi) same)

    value : (l : List ℕ) (x : IsFamilyCapability l cap) → slice_index x.value 3 ≡ cap.safi → x.value ≡ take 2 x.value ++ 0 ∷ cap.safi ∷ []
    value l x safi =
        let at : slice_index l 4 ≡ slice_index x.value 2 = ap (λ (r : List ℕ). slice_index r 4) (coded_whole l (record { code = multiprotocol; value = x.value }) x.is) in
        let none : drop 4 x.value ≡ [] = drop_all 4 x.value (omega (arith, size l x)) in
        let third : drop 3 x.value ≡ cap.safi ∷ [] = drop_more x.value 3 0 (omega (arith, size l x)) ∙ (λ i. safi i ∷ none i) in
        let second : drop 2 x.value ≡ 0 ∷ cap.safi ∷ [] = drop_more x.value 2 0 (omega (arith, size l x)) ∙ (λ i. (sym at ∙ x.reserved) i ∷ third i) in
        sym (take-append-drop 2 x.value) ∙ ap (λ (r : List ℕ). take 2 x.value ++ r) second

as_one : (four : Option ℕ) → IsOne (IsAsCapability four)
as_one None a b oa ob x y = x ∙ sym y
as_one (Some asn) a b oa ob x y =
    let c : List ℕ → CodedValue = λ v. record { code = four_octet_as; value = v } in
    let same : x.value ≡ y.value = number_one 4 asn x.value y.value (coded_octets a (c x.value) x.is oa) (coded_octets b (c y.value) y.is ob) (record { len = x.len; value_is = x.asn_is }) (record { len = y.len; value_is = y.asn_is }) in
    coded_whole a (c x.value) x.is ∙ (λ i. four_octet_as ∷ length (same i) ∷ same i) ∙ sym (coded_whole b (c y.value) y.is)

entry_one : (cap : CapValue) → IsOne (λ bytes. IsPathEntry bytes cap)
entry_one cap a b oa ob x y =
    let p = says a x.len x.entry_is in
    let q = says b y.len y.entry_is in
    let number = number_at 2 0 a b (omega (arith, x.len)) (omega (arith, y.len)) oa ob (p.0 ∙ sym q.0) in
    sym (take-append-drop 2 a) ∙ (λ i. number i ++ (p.1 ∙ sym q.1) i) ∙ take-append-drop 2 b
  where
    says : (l : List ℕ) → length l ≡ 4 → entries l ≡ cap ∷ [] → (big_number 2 l ≡ cap.afi) × (drop 2 l ≡ cap.safi ∷ cap.value ∷ [])
    says (m ∷ n ∷ s ∷ v ∷ []) len e =
        let same : record { afi = big_number 2 (m ∷ n ∷ []); safi = s; value = v } ≡ cap = cc e in
        (ap (λ (c : CapValue). c.afi) same, λ i. ap (λ (c : CapValue). c.safi) same i ∷ ap (λ (c : CapValue). c.value) same i ∷ [])
    says (m ∷ n ∷ s ∷ v ∷ w ∷ l) len e = absurd (omega (arith, len))
    says (m ∷ n ∷ s ∷ []) len e = absurd (omega (arith, len))
    says (m ∷ n ∷ []) len e = absurd (omega (arith, len))
    says (m ∷ []) len e = absurd (omega (arith, len))
    says [] len e = absurd (omega (arith, len))

paths_one : (caps : List CapValue) → IsOne (IsPathCapability caps)
paths_one [] a b oa ob x y = x ∙ sym y
paths_one (cap ∷ caps) a b oa ob x y =
    let c : List ℕ → CodedValue = λ v. record { code = add_path; value = v } in
    let same : x.value ≡ y.value = parts_one IsPathEntry entry_one (cap ∷ caps) x.value y.value (coded_octets a (c x.value) x.is oa) (coded_octets b (c y.value) y.is ob) x.are y.are in
    coded_whole a (c x.value) x.is ∙ (λ i. add_path ∷ length (same i) ∷ same i) ∙ sym (coded_whole b (c y.value) y.is)

capabilities_one : (o : OpenValue) → IsOne (AreCapabilities o)
capabilities_one o a b oa ob x y =
    joined_one (λ l. AreParts IsFamilyCapability l o.families) _ (parts_one IsFamilyCapability family_one o.families) (joined_one (IsAsCapability o.four) (IsPathCapability o.paths) (as_one o.four) (paths_one o.paths)) a b oa ob
    (x.families, x.four ++ x.paths, record { joined = x.joined }, x.families_are, (x.four, x.paths, record { joined = refl }, x.four_is, x.paths_are))
    (y.families, y.four ++ y.paths, record { joined = y.joined }, y.families_are, (y.four, y.paths, record { joined = refl }, y.four_is, y.paths_are))

parameters_one : (n : ℕ) (o : OpenValue) → IsOne (AreParametersOf n o)
parameters_one zero o a b oa ob x y = x ∙ sym y
parameters_one (suc n) o a b oa ob (f, e, fi) (g, h, gi) =
    let p = octets_of (capabilities_type ∷ suc n ∷ []) f a e oa in
    let q = octets_of (capabilities_type ∷ suc n ∷ []) g b h ob in
    e ∙ ap (λ (l : List ℕ). capabilities_type ∷ suc n ∷ l) (capabilities_one o f g p.1 q.1 fi gi) ∙ sym h

open_one : (o : OpenValue) → IsOne (IsOpenOf o)
open_one o a b oa ob x y =
    let front = open_front o (parameters_size (capabilities_size o)) in
    let p = octets_of front x.parameters a x.joined oa in
    let q = octets_of front y.parameters b y.joined ob in
    x.joined ∙ ap (λ (l : List ℕ). front ++ l) (parameters_one (capabilities_size o) o x.parameters y.parameters p.1 q.1 x.parameters_are y.parameters_are) ∙ sym y.joined

-- ---- Peer Up Notifications
local_one : (info : PeerInfoValue) → IsOne (IsLocal info)
local_one info a b oa ob x y =
    let same : x.address ≡ y.address = x.exact ∙ sym y.exact in
    x.is ∙ ap (λ (l : List ℕ). l ++ (big_bytes 2 info.local_port ++ big_bytes 2 info.remote_port)) same ∙ sym y.is

table_one : (table : Option (List ℕ)) → IsOne (IsTable table)
table_one table a b oa ob x y = tlvs_one (name_tlvs table) a b oa ob x.are y.are

pub up_one : (key : KeyValue) (info : PeerInfoValue) → IsOne (IsUpMessage key info)
up_one key info a b oa ob x y =
    let bodies = joined_one _ _ (up_header_one key info) (joined_one _ _ (local_one info) (joined_one _ _ (open_one info.sent) (joined_one _ _ (open_one info.received) (table_one info.table)))) in
    let body : (l : List ℕ) (z : IsUpMessage key info l) → List ℕ = λ l z. z.head ++ (z.local ++ (z.sent ++ (z.received ++ z.table))) in
    let same : body a x ≡ body b y = bodies (body a x) (body b y) (body_octets a peer_up_type (body a x) x.is oa) (body_octets b peer_up_type (body b y) y.is ob)
    (x.head, x.local ++ (x.sent ++ (x.received ++ x.table)), record { joined = refl }, x.head_is, (x.local, x.sent ++ (x.received ++ x.table), record { joined = refl }, x.local_is, (x.sent, x.received ++ x.table, record { joined = refl }, x.sent_is, (x.received, x.table, record { joined = refl }, x.received_is, x.table_is))))
    (y.head, y.local ++ (y.sent ++ (y.received ++ y.table)), record { joined = refl }, y.head_is, (y.local, y.sent ++ (y.received ++ y.table), record { joined = refl }, y.local_is, (y.sent, y.received ++ y.table, record { joined = refl }, y.sent_is, (y.received, y.table, record { joined = refl }, y.received_is, y.table_is)))) in
    frame_one peer_up_type (body b y) a b oa ob (subst (λ (l : List ℕ). IsFrame a peer_up_type l) same x.is) y.is

-- ---- Initiation Messages
pub told_one : (name description : List ℕ) → IsOne (IsToldMessage name description)
told_one name description a b oa ob x y =
    let ts = record { kind = sys_descr; value = description } ∷ record { kind = sys_name; value = name } ∷ [] in
    let same : drop 6 a ≡ drop 6 b = tlvs_one ts (drop 6 a) (drop 6 b) (octets_at 6 a oa).1 (octets_at 6 b ob).1 x.told y.told in
    let body : x.body ≡ y.body = sym x.is.body_is ∙ same ∙ y.is.body_is in
    frame_one initiation_type y.body a b oa ob (subst (λ (l : List ℕ). IsFrame a initiation_type l) body x.is) y.is
