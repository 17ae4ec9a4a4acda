-- Pieces put one behind another are the attributes of a field.
use Rattle.std.proofs.Common.{◌≡◌, ℕ, ◌+◌, ◌==◌, ◌<◌, ◌≤◌, Bool, true, false, not, List, [], ◌∷◌, ◌++◌, length, slice_index, drop, Option, Some, None, refl, sym, ap, subst, ◌∙◌, append_assoc, append-nil, arith, length-append}
use Rattle.std.proofs.Math.Seq.{get_or-append_seam}
use Rattle.std.proofs.lemmas.List.{get_or-append-add, take_at, drop_at}
use Rattle.byteorder.specs.Endian.{big_bytes, big_number}
use Rattle.bmp_specs.specs.declared.wire.Family.{Family}
use Rattle.bmp_specs.specs.declared.wire.Family.TheVariants.{V4, V6}
use Rattle.bmp_specs.specs.declared.wire.Width.TheVariants.{Four}
use Rattle.bmp_specs.specs.AddressFamily.{afi_of, unicast}
use Rattle.bmp_specs.specs.AsPath.{ArePath}
use Rattle.bmp_specs.specs.Attributes.{IsAggregator, IsAtomic, Optional, aggregator, as_path, atomic_aggregate, communities, local_pref, mp_reach_nlri, mp_unreach_nlri, multi_exit_disc, next_hop, origin}
use Rattle.bmp_specs.specs.MpNlri.{IsMpReach, IsMpUnreach}
use Rattle.bmp_specs.specs.Number.{IsNumber}
use Rattle.bmp_specs.specs.Sequence.{IsField}
use Rattle.bmp_specs.specs.Values.{AttrsValue, MpValue, NlriValue, OtherValue}
use Rattle.bmp_writer.specs.Written.{Appends, Keeps}
use Rattle.bmp_writer.specs.WrittenAttributes.{AreOthers, AreSomeCommunities, IsFirst, IsFront, IsPart, IsPlainReach, IsReach, IsReachValue, IsSecond, IsUnreach, IsUnreachValue, Joined, head_bytes, optional, optional_transitive, transitive, with_hop}
use Rattle.bmp_writer.specs.WrittenNlri.{AreOwnNlri, nlris_size}
use Rattle.bmp_specs.specs.TreatAsWithdraw.{no_attributes}
use Rattle.bmp_writer.specs.WrittenUpdate.{hop_bytes, is_plain, of_v6, others_of, places, told_of, where_so}
use Rattle.bmp_writer.specs.WrittenUpdate.{IsField as IsFieldOf}
use Rattle.bmp_writer.proofs.AttributesRead.{attribute_put, part_put}
use Rattle.bmp_writer.proofs.NlriRead.{nlris_length}
use Rattle.bmp_writer.proofs.Sizes.{not_zero}
use Rattle.bmp_writer.proofs.Still.{keeps_appends, keeps_then, two_pieces}

pub appends_joined : (Is Js : List ℕ → Type 0) (old mid new : List ℕ) → Appends Is old mid → Appends Js mid new → Appends (Joined Is Js) old new
appends_joined Is Js old mid new (a, e, p) (b, f, q) = (a ++ b, two_pieces old mid new a b e f, (a, b, record { joined = refl }, p, q))

-- what stood there stands there still behind two calls, and behind three
pub keeps_two : {P Q : List ℕ → Type 0} (old m1 m2 : List ℕ) → Appends P old m1 → Appends Q m1 m2 → Keeps old m2
keeps_two old m1 m2 p q = keeps_then old m1 m2 (keeps_appends old m1 p) (keeps_appends m1 m2 q)

pub keeps_three : {P Q R : List ℕ → Type 0} (old m1 m2 m3 : List ℕ) → Appends P old m1 → Appends Q m1 m2 → Appends R m2 m3 → Keeps old m3
keeps_three old m1 m2 m3 p q r = keeps_then old m2 m3 (keeps_two old m1 m2 p q) (keeps_appends m2 m3 r)

abbrev pub hop_told : Bool → AttrsValue → Option (List ℕ)
hop_told plain attrs = (with_hop plain attrs).hop

pub first_put : (i attrs : AttrsValue) → i ≡ attrs → (plain : Bool) (old m1 m2 m3 new : List ℕ)
    → Appends (IsPart transitive origin (λ value. Optional (IsNumber 1) value i.origin)) old m1
    → Appends (IsPart transitive as_path (λ value. Optional (ArePath Four) value i.path)) m1 m2
    → Appends (IsPart transitive next_hop (λ value. Optional (IsField 4) value (hop_told plain i))) m2 m3
    → Appends (IsPart optional multi_exit_disc (λ value. Optional (IsNumber 4) value i.med)) m3 new
    → Appends (IsFirst (with_hop plain attrs)) old new
first_put i attrs same plain old m1 m2 m3 new p q r s =
    subst (λ (a : AttrsValue). Appends (IsFirst (with_hop plain a)) old new) same
    (appends_joined _ _ old m1 new p (appends_joined _ _ m1 m2 new q (appends_joined _ _ m2 m3 new r s)))

pub second_put : (i attrs : AttrsValue) → i ≡ attrs → (list old m1 m2 m3 new : List ℕ) → list ≡ i.communities
    → Appends (IsPart transitive local_pref (λ value. Optional (IsNumber 4) value i.pref)) old m1
    → Appends (IsPart transitive atomic_aggregate (λ value. IsAtomic value i.atomic)) m1 m2
    → Appends (IsPart optional_transitive aggregator (λ value. Optional (IsAggregator Four) value i.aggregator)) m2 m3
    → Appends (IsPart optional_transitive communities (λ value. AreSomeCommunities value list)) m3 new
    → Appends (IsSecond attrs) old new
second_put i attrs same list old m1 m2 m3 new l p q r s =
    let here : Appends (IsPart optional_transitive communities (λ value. AreSomeCommunities value i.communities)) m3 new =
    subst (λ (x : List ℕ). Appends (IsPart optional_transitive communities (λ value. AreSomeCommunities value x)) m3 new) l s in
    subst (λ (a : AttrsValue). Appends (IsSecond a) old new) same
    (appends_joined _ _ old m1 new p (appends_joined _ _ m1 m2 new q (appends_joined _ _ m2 m3 new r here)))

-- the value of MP_REACH_NLRI
abbrev pub mp_of : Family → List ℕ → List ℕ → MpValue
mp_of family hop prefixes = record { afi = afi_of family; safi = unicast; hop = hop; prefixes = prefixes }

afi_back : (family : Family) (rest : List ℕ) → big_number 2 (big_bytes 2 (afi_of family) ++ rest) ≡ afi_of family
afi_back V4 rest = refl
afi_back V6 rest = refl

abbrev pub reach_value : Family → List ℕ → List ℕ → List ℕ
reach_value family hop prefixes = (big_bytes 2 (afi_of family) ++ unicast ∷ []) ++ (length hop ∷ (hop ++ 0 ∷ prefixes))

is_reach : (family : Family) (hop prefixes : List ℕ) → IsMpReach (reach_value family hop prefixes) (mp_of family hop prefixes)
is_reach family hop prefixes =
    let front = (big_bytes 2 (afi_of family) ++ unicast ∷ []) ++ (length hop ∷ (hop ++ 0 ∷ [])) in
    let split : reach_value family hop prefixes ≡ front ++ prefixes =
    ap (λ (l : List ℕ). (big_bytes 2 (afi_of family) ++ unicast ∷ []) ++ (length hop ∷ l)) (sym (append_assoc hop (0 ∷ []) prefixes)) in
    let len : length front ≡ length hop + 5 = omega (arith, length-append hop (0 ∷ [])) in
    let all : length (reach_value family hop prefixes) ≡ length hop + 5 + length prefixes = ap (λ (l : List ℕ). length l) split ∙ length-append front prefixes ∙ ap (λ (n : ℕ). n + length prefixes) len in
    record {
      header = omega (arith, all);
      afi_is = afi_back family (unicast ∷ length hop ∷ (hop ++ 0 ∷ prefixes));
      safi_is = refl;
      hop_is = take_at hop (0 ∷ prefixes) (length hop) refl;
      prefixes_are = ap (λ (l : List ℕ). drop (length hop + 5) l) split ∙ drop_at front prefixes (length hop + 5) len;
    }

-- the reserved octet stands behind the next hop
reserved_here : (family : Family) (hop prefixes : List ℕ) → slice_index (reach_value family hop prefixes) (4 + length hop) ≡ 0
reserved_here family hop prefixes = get_or-append-add ((big_bytes 2 (afi_of family) ++ unicast ∷ []) ++ length hop ∷ []) (hop ++ 0 ∷ prefixes) (length hop) 0 ∙ get_or-append_seam hop 0 prefixes 0

pub reach_value_put : (family : Family) (hop : List ℕ) (ns : List NlriValue) (octets old m1 m2 m3 m4 new : List ℕ) → octets ≡ big_bytes 2 (afi_of family) ++ unicast ∷ [] → m1 ≡ old ++ octets → m2 ≡ m1 ++ length hop ∷ []
    → m3 ≡ m2 ++ hop → m4 ≡ m3 ++ 0 ∷ [] → Appends (AreOwnNlri ns) m4 new → Appends (IsReachValue family hop ns) old new
reach_value_put family hop ns octets old m1 m2 m3 m4 new o e1 e2 e3 e4 (prefixes, f, are) =
    let joined : new ≡ old ++ (octets ++ ((length hop ∷ []) ++ (hop ++ ((0 ∷ []) ++ prefixes)))) =
    two_pieces old m1 new octets ((length hop ∷ []) ++ (hop ++ ((0 ∷ []) ++ prefixes))) e1
    (two_pieces m1 m2 new (length hop ∷ []) (hop ++ ((0 ∷ []) ++ prefixes)) e2 (two_pieces m2 m3 new hop ((0 ∷ []) ++ prefixes) e3 (two_pieces m3 m4 new (0 ∷ []) prefixes e4 f))) in
    let size : length (reach_value family hop prefixes) ≡ 5 + length hop + nlris_size ns = omega (arith, length-append hop (0 ∷ prefixes), nlris_length ns prefixes are) in (
      reach_value family hop prefixes,
      joined ∙ ap (λ (l : List ℕ). old ++ (l ++ (length hop ∷ (hop ++ 0 ∷ prefixes)))) o,
      record { prefixes = prefixes; is = record { is = is_reach family hop prefixes; reserved = reserved_here family hop prefixes }; are = are; size = size },
    )

pub reach_put : (family : Family) (hop : List ℕ) (ns : List NlriValue) (size : ℕ) (old mid new : List ℕ) → 0 < length ns → size ≡ 5 + length hop + nlris_size ns → size ≤ 65535
    → mid ≡ old ++ head_bytes optional mp_reach_nlri size → Appends (IsReachValue family hop ns) mid new → Appends (IsReach family hop ns) old new
reach_put family hop ns size old mid new some s short e (value, f, form) =
    let m = mp_of family hop form.prefixes in
    let (bytes, joined, part) = part_put optional mp_reach_nlri (λ x. Optional IsPlainReach x (Some m)) value old new form.is
    (attribute_put optional mp_reach_nlri size value old mid new (omega (arith, form.size, s, short)) (s ∙ sym form.size) e f) in
    (bytes, joined, record { multi = Some m; are = record { prefixes = form.prefixes; is = refl; are = form.are; some = some }; is = part })

pub unreach_value_put : (family : Family) (ns : List NlriValue) (octets old mid new : List ℕ) → octets ≡ big_bytes 2 (afi_of family) ++ unicast ∷ [] → mid ≡ old ++ octets → Appends (AreOwnNlri ns) mid new
    → Appends (IsUnreachValue family ns) old new
unreach_value_put family ns octets old mid new o e (prefixes, f, are) = (
  (big_bytes 2 (afi_of family) ++ unicast ∷ []) ++ prefixes,
  two_pieces old mid new octets prefixes e f ∙ ap (λ (l : List ℕ). old ++ (l ++ prefixes)) o,
  record {
    prefixes = prefixes;
    is = record { header = omega arith; afi_is = afi_back family (unicast ∷ prefixes); safi_is = refl; hop_is = refl; prefixes_are = refl };
    are = are;
    size = omega (arith, nlris_length ns prefixes are);
  },
)

pub unreach_put : (family : Family) (ns : List NlriValue) (size : ℕ) (old mid new : List ℕ) → 0 < length ns → size ≡ 3 + nlris_size ns → size ≤ 65535
    → mid ≡ old ++ head_bytes optional mp_unreach_nlri size → Appends (IsUnreachValue family ns) mid new → Appends (IsUnreach family ns) old new
unreach_put family ns size old mid new some s short e (value, f, form) =
    let m = mp_of family [] form.prefixes in
    let (bytes, joined, part) = part_put optional mp_unreach_nlri (λ x. Optional IsMpUnreach x (Some m)) value old new form.is
    (attribute_put optional mp_unreach_nlri size value old mid new (omega (arith, form.size, s, short)) (s ∙ sym form.size) e f) in
    (bytes, joined, record { multi = Some m; are = record { prefixes = form.prefixes; is = refl; are = form.are; some = some }; is = part })

-- nothing is told where no prefix is announced
none_told : IsFront no_attributes []
none_told =
    let none : (flags code : ℕ) (Is : Option (List ℕ) → Type 0) → Is None → IsPart flags code Is [] = λ flags code Is is. record { value = None; are = refl; is = is } in
    let first : IsFirst no_attributes [] = ([], [], record { joined = refl }, none transitive origin _ tt, ([], [], record { joined = refl }, none transitive as_path _ tt, ([], [], record { joined = refl }, none transitive next_hop _ tt, none optional multi_exit_disc _ tt))) in
    let second : IsSecond no_attributes [] = ([], [], record { joined = refl }, none transitive local_pref _ tt, ([], [], record { joined = refl }, none transitive atomic_aggregate _ refl, ([], [], record { joined = refl }, none optional_transitive aggregator _ tt, none optional_transitive communities _ refl))) in
    ([], [], record { joined = refl }, first, second)

pub told_none : (plain : Bool) (announced : List NlriValue) (attrs : AttrsValue) (old : List ℕ) (b : Bool) → b ≡ (length announced == 0) → b ≡ true → Appends (IsFront (told_of plain announced attrs)) old old
told_none plain [] attrs old b e f = ([], sym (append-nil old), none_told)
told_none plain (n ∷ ns) attrs old b e f =
    let both : false ≡ true = sym (not_zero (length (n ∷ ns)) (omega arith)) ∙ sym e ∙ f in
    absurd cc

pub told_some : (plain : Bool) (announced : List NlriValue) (attrs : AttrsValue) (b : Bool) → b ≡ (length announced == 0) → b ≡ false → with_hop plain attrs ≡ told_of plain announced attrs
told_some plain [] attrs b e f =
    let both : true ≡ false = sym e ∙ f in
    absurd cc
told_some plain (n ∷ ns) attrs b e f = refl

pub field_joined : (i attrs : AttrsValue) → i ≡ attrs → (family : Family) (withdrawn announced : List NlriValue) (plain : Bool) (hop : List ℕ) (multi unreachable : List NlriValue) (others : List OtherValue) (old m1 m2 m3 new : List ℕ)
    → plain ≡ is_plain family i.hop → hop ≡ hop_bytes i.hop → multi ≡ where_so (not plain) announced → unreachable ≡ of_v6 family withdrawn → others ≡ others_of announced attrs → Appends (IsFront (told_of plain announced attrs)) old m1
    → Appends (IsReach family hop multi) m1 m2 → Appends (IsUnreach family unreachable) m2 m3 → Appends (AreOthers others) m3 new → Appends (IsFieldOf family (places family withdrawn announced attrs)) old new
field_joined i attrs same family withdrawn announced plain hop multi unreachable others old m1 m2 m3 new pl h mu un ot p q r s =
    let is : plain ≡ is_plain family attrs.hop = pl ∙ ap (λ (a : AttrsValue). is_plain family a.hop) same in
    let hop_is : hop ≡ hop_bytes attrs.hop = h ∙ ap (λ (a : AttrsValue). hop_bytes a.hop) same in
    let multi_is : multi ≡ where_so (not (is_plain family attrs.hop)) announced = mu ∙ ap (λ (b : Bool). where_so (not b) announced) is in
    let told : Appends (IsFront (told_of (is_plain family attrs.hop) announced attrs)) old m1 = subst (λ (b : Bool). Appends (IsFront (told_of b announced attrs)) old m1) is p in
    let reach : Appends (IsReach family (hop_bytes attrs.hop) (where_so (not (is_plain family attrs.hop)) announced)) m1 m2 =
    subst (λ (x : List ℕ). Appends (IsReach family x (where_so (not (is_plain family attrs.hop)) announced)) m1 m2) hop_is (subst (λ (x : List NlriValue). Appends (IsReach family hop x) m1 m2) multi_is q) in
    let unreach : Appends (IsUnreach family (of_v6 family withdrawn)) m2 m3 = subst (λ (x : List NlriValue). Appends (IsUnreach family x) m2 m3) un r in
    let kept : Appends (AreOthers (others_of announced attrs)) m3 new = subst (λ (x : List OtherValue). Appends (AreOthers x) m3 new) ot s in
    appends_joined _ _ old m1 new told (appends_joined _ _ m1 m2 new reach (appends_joined _ _ m2 m3 new unreach kept))
