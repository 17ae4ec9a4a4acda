-- Which attributes some field has.
use Rattle.std.proofs.Common.{◌≡◌, ℕ, ◌*◌, ◌==◌, ◌≤◌, not, cond, filter, Bool, true, false, List, [], ◌∷◌, ◌++◌, length, map, Option, Some, None, refl, sym, ap, subst, ◌∙◌, append_assoc, append-nil, arith, length-drop}
use Rattle.std.specs.List.{AllByRecursion}
use Rattle.bmp_specs.specs.declared.wire.Family.TheVariants.{V4}
use Rattle.bmp_specs.specs.declared.wire.Width.TheVariants.{Four}
use Rattle.bmp_specs.specs.AsPath.{ArePath, IsAsNumber, segment_type}
use Rattle.bmp_specs.specs.Attributes.{AreCommunities, IsAggregator, IsAtomic, Optional, aggregator, as_path, atomic_aggregate, communities, is_read, kept, local_pref, multi_exit_disc, next_hop, origin, value_of}
use Rattle.bmp_specs.specs.MpNlri.{IsMpReach, IsMpUnreach}
use Rattle.bmp_specs.specs.Number.{IsNumber}
use Rattle.bmp_specs.specs.Parts.{AreParts}
use Rattle.bmp_specs.specs.PeerHeader.{is_set}
use Rattle.bmp_specs.specs.Sequence.{IsField}
use Rattle.bmp_specs.specs.Values.{AggregatorValue, AttrsValue, MpValue, OtherValue, SegmentValue}
use Rattle.bmp_writer.specs.WrittenAttributes.{AreMulti, AreOthers, AreSomeCommunities, IsFirst, IsPart, IsReach, IsSecond, IsUnreach, Joined, head_bytes, optional, optional_transitive, part_of, transitive, written_other}
use Rattle.bmp_writer.specs.WrittenRoutes.{AreKept, CanBeGiven, FitsPath, HasFourOctets, HasOctets, IsGiven, IsKeptForm}
use Rattle.bmp_writer.specs.WrittenUpdate.{PlacesValue}
use Rattle.bmp_writer.specs.WrittenUpdate.{IsField as IsFieldOf}
use Rattle.bmp_writer.proofs.AttributesRead.{attribute_here, numbers_length, segments_length}
use Rattle.bmp_writer.proofs.FieldRead.{Slot, slot_parts, value_of-cons}
use Rattle.bmp_writer.proofs.RoutesRead.{are_attributes, attrs_read, parts_are, ten, told_here}
use Rattle.bmp_writer.proofs.RoutesWritten.{given_kept}

-- "Attribute Length" can state the length of a value that is there
abbrev ShortFound : Option (List ℕ) → Type 0
ShortFound None = Unit {0}
ShortFound (Some value) = length value ≤ 65535

short_found : (code : ℕ) (parts : List OtherValue) → AllByRecursion HasOctets parts → ShortFound (value_of code parts)
short_found code [] s = tt
short_found code (a ∷ parts) (s, more) = subst (λ (o : Option (List ℕ)). ShortFound o) (sym (value_of-cons code a parts)) (go (short_found code parts more) (a.code == code))
  where
    go : ShortFound (value_of code parts) → (b : Bool) → ShortFound (cond b (Some a.value) (value_of code parts))
    go rest true = s
    go rest false = rest

short_kept : (parts : List OtherValue) → AllByRecursion HasOctets parts → AllByRecursion HasOctets (map kept (filter (λ a. not (is_read a)) parts))
short_kept [] s = tt
short_kept (a ∷ parts) (s, more) = go (short_kept parts more) (is_read a)
  where
    go : AllByRecursion HasOctets (map kept (filter (λ a. not (is_read a)) parts)) → (b : Bool) → AllByRecursion HasOctets (map kept (cond (not b) (a ∷ filter (λ x. not (is_read x)) parts) (filter (λ x. not (is_read x)) parts)))
    go rest true = rest
    go rest false = (s, rest)

fits_path : (value : Option (List ℕ)) (path : Option (List SegmentValue)) → Optional (ArePath Four) value path → ShortFound value → FitsPath path
fits_path value None is s = tt
fits_path None (Some path) is s = absurd is
fits_path (Some x) (Some path) is s = omega (arith, s, segments_length path x is)

fits_communities : (value : Option (List ℕ)) (values : List ℕ) → AreCommunities value values → ShortFound value → 4 * length values ≤ 65535
fits_communities None values is s = omega (arith, ap (λ (l : List ℕ). length l) is)
fits_communities (Some x) values is s = omega (arith, s, numbers_length values x is)

four_octets : (value : Option (List ℕ)) (a : Option AggregatorValue) → Optional (IsAggregator Four) value a → HasFourOctets a
four_octets value None is = tt
four_octets None (Some a) is = absurd is
four_octets (Some x) (Some a) is = omega (arith, is.len, length-drop 4 x, ap (λ (l : List ℕ). length l) is.identifier_is)

all_forms : (others : List OtherValue) → AreKept others → AllByRecursion HasOctets others → AllByRecursion IsKeptForm others
all_forms others k o = go others k.unread k.clear o
  where
    go : (others : List OtherValue) → AllByRecursion (λ a. is_read a ≡ false) others → AllByRecursion (λ a. is_set 16 a.flags ≡ false) others → AllByRecursion HasOctets others → AllByRecursion IsKeptForm others
    go [] u c o = tt
    go (a ∷ others) (u, us) (c, cs) (o, os) = ((u, c, o), go others us cs os)

forms_unread : (others : List OtherValue) → AllByRecursion IsKeptForm others → AllByRecursion (λ a. is_read a ≡ false) others
forms_unread [] f = tt
forms_unread (a ∷ others) (f, fs) = (f.0, forms_unread others fs)

forms_clear : (others : List OtherValue) → AllByRecursion IsKeptForm others → AllByRecursion (λ a. is_set 16 a.flags ≡ false) others
forms_clear [] f = tt
forms_clear (a ∷ others) (f, fs) = (f.1, forms_clear others fs)

forms_octets : (others : List OtherValue) → AllByRecursion IsKeptForm others → AllByRecursion HasOctets others
forms_octets [] f = tt
forms_octets (a ∷ others) (f, fs) = (f.2, forms_octets others fs)

can_keep : (attrs : AttrsValue) → CanBeGiven attrs → AreKept attrs.others
can_keep attrs can = record { unread = forms_unread attrs.others can.others; distinct = can.distinct; clear = forms_clear attrs.others can.others }

pub given_can : (attrs : AttrsValue) → IsGiven attrs → CanBeGiven attrs
given_can attrs g =
    let parts = g.are.parts in
    let others : attrs.others ≡ map kept (filter (λ a. not (is_read a)) parts) = sym (ap (λ (a : AttrsValue). a.others) g.same) ∙ g.are.others_are in
    let path : g.are.stated.as_path ≡ attrs.path = sym g.are.chosen.1 ∙ ap (λ (a : AttrsValue). a.path) g.same in
    let agg : g.are.stated.aggregator ≡ attrs.aggregator = sym g.are.chosen.0 ∙ ap (λ (a : AttrsValue). a.aggregator) g.same in
    let comm : g.read.attrs.communities ≡ attrs.communities = ap (λ (a : AttrsValue). a.communities) g.same in
    record {
      others = all_forms attrs.others (given_kept attrs g) (subst (λ (l : List OtherValue). AllByRecursion HasOctets l) (sym others) (short_kept parts g.octets));
      distinct = (given_kept attrs g).distinct;
      path = subst FitsPath path (fits_path (value_of as_path parts) g.are.stated.as_path g.are.as_path_is (short_found as_path parts g.octets));
      aggregator = subst HasFourOctets agg (four_octets (value_of aggregator parts) g.are.stated.aggregator g.are.aggregator_is);
      communities = subst (λ (l : List ℕ). 4 * length l ≤ 65535) comm (fits_communities (value_of communities parts) g.read.attrs.communities g.are.communities_are (short_found communities parts g.octets));
      hop = g.hop;
    }

-- a part of a value that is there
exists_part : (flags code : ℕ) (Is : Option (List ℕ) → Type 0) (value : Option (List ℕ)) → Is value → ShortFound value → (bytes : List ℕ) × IsPart flags code Is bytes
exists_part flags code Is None is s = ([], record { value = None; are = refl; is = is })
exists_part flags code Is (Some v) is s =
    let bytes = head_bytes flags code (length v) ++ v in
    (bytes, record { value = Some v; are = (bytes, [], record { joined = sym (append-nil bytes) }, attribute_here flags code v s, refl); is = is })

join : (Is Js : List ℕ → Type 0) → (a : List ℕ) × Is a → (b : List ℕ) × Js b → (bytes : List ℕ) × Joined Is Js bytes
join Is Js (a, p) (b, q) = (a ++ b, (a, b, record { joined = refl }, p, q))

one_part : (flags code : ℕ) (o : Option ℕ) → (bytes : List ℕ) × IsPart flags code (λ value. Optional (IsNumber 1) value o) bytes
one_part flags code None = exists_part flags code (λ value. Optional (IsNumber 1) value None) None tt tt
one_part flags code (Some n) = exists_part flags code (λ value. Optional (IsNumber 1) value (Some n)) (Some (n ∷ [])) (record { len = refl; value_is = omega arith }) (omega arith)

abbrev four : ℕ → List ℕ
four n = 0 ∷ 0 ∷ 0 ∷ n ∷ []

is_four : (n : ℕ) → IsNumber 4 (four n) n
is_four n = record { len = refl; value_is = omega arith }

four_part : (flags code : ℕ) (o : Option ℕ) → (bytes : List ℕ) × IsPart flags code (λ value. Optional (IsNumber 4) value o) bytes
four_part flags code None = exists_part flags code (λ value. Optional (IsNumber 4) value None) None tt tt
four_part flags code (Some n) = exists_part flags code (λ value. Optional (IsNumber 4) value (Some n)) (Some (four n)) (is_four n) (omega arith)

exists_numbers : (ns : List ℕ) → (bytes : List ℕ) × AreParts (IsNumber 4) bytes ns
exists_numbers [] = ([], refl)
exists_numbers (n ∷ ns) = let (rest, p) = exists_numbers ns in (four n ++ rest, (four n, rest, record { joined = refl }, is_four n, p))

exists_as_numbers : (ns : List ℕ) → (bytes : List ℕ) × AreParts (IsAsNumber Four) bytes ns
exists_as_numbers [] = ([], refl)
exists_as_numbers (n ∷ ns) = let (rest, p) = exists_as_numbers ns in (four n ++ rest, (four n, rest, record { joined = refl }, record { len = refl; value = omega arith }, p))

exists_path : (path : List SegmentValue) → (bytes : List ℕ) × ArePath Four bytes path
exists_path [] = ([], refl)
exists_path (s ∷ path) =
    let (rest, p) = exists_path path in
    let (numbers, q) = exists_as_numbers s.numbers in
    let front : List ℕ = segment_type s.kind ∷ length s.numbers ∷ numbers in
    (front ++ rest, (front, rest, record { joined = refl }, record { header = omega arith; kind_is = refl; count_is = refl; numbers_are = q }, p))

path_part : (flags code : ℕ) (o : Option (List SegmentValue)) → FitsPath o → (bytes : List ℕ) × IsPart flags code (λ value. Optional (ArePath Four) value o) bytes
path_part flags code None fits = exists_part flags code (λ value. Optional (ArePath Four) value None) None tt tt
path_part flags code (Some path) fits =
    let (value, p) = exists_path path in
    exists_part flags code (λ value. Optional (ArePath Four) value (Some path)) (Some value) p (omega (arith, fits, segments_length path value p))

aggregator_part : (flags code : ℕ) (o : Option AggregatorValue) → HasFourOctets o → (bytes : List ℕ) × IsPart flags code (λ value. Optional (IsAggregator Four) value o) bytes
aggregator_part flags code None len = exists_part flags code (λ value. Optional (IsAggregator Four) value None) None tt tt
aggregator_part flags code (Some a) len =
    exists_part flags code (λ value. Optional (IsAggregator Four) value (Some a)) (Some (four a.asn ++ a.identifier)) (record { len = omega (arith, len); asn_is = omega arith; identifier_is = refl }) (omega (arith, len))

atomic_part : (flags code : ℕ) (b : Bool) → (bytes : List ℕ) × IsPart flags code (λ value. IsAtomic value b) bytes
atomic_part flags code true = exists_part flags code (λ value. IsAtomic value true) (Some []) (refl, refl) (omega arith)
atomic_part flags code false = exists_part flags code (λ value. IsAtomic value false) None refl tt

communities_part : (flags code : ℕ) (values : List ℕ) → 4 * length values ≤ 65535 → (bytes : List ℕ) × IsPart flags code (λ value. AreSomeCommunities value values) bytes
communities_part flags code [] fits = exists_part flags code (λ value. AreSomeCommunities value []) None refl tt
communities_part flags code (v ∷ vs) fits =
    let (value, p) = exists_numbers (v ∷ vs) in
    exists_part flags code (λ value. AreSomeCommunities value (v ∷ vs)) (Some value) (p, omega arith) (omega (arith, fits, numbers_length (v ∷ vs) value p))

exists_others : (others : List OtherValue) → AllByRecursion HasOctets others → (bytes : List ℕ) × AreOthers others bytes
exists_others [] s = ([], refl)
exists_others (a ∷ others) (s, more) =
    let (rest, p) = exists_others others more in
    let front = head_bytes a.flags a.code (length a.value) ++ a.value in
    (front ++ rest, (front, rest, record { joined = refl }, attribute_here a.flags a.code a.value s, p))

-- no prefixes, and the attributes without their next hop
abbrev alone : AttrsValue → PlacesValue
alone attrs = record { withdrawn = []; unreachable = []; plain = []; multi = []; told = record attrs { hop = None }; hop = []; others = attrs.others }

exists_field : (attrs : AttrsValue) → CanBeGiven attrs → (bytes : List ℕ) × IsFieldOf V4 (alone attrs) bytes
exists_field attrs can =
    let hop : (bytes : List ℕ) × IsPart transitive next_hop (λ value. Optional (IsField 4) value None) bytes = exists_part transitive next_hop (λ value. Optional (IsField 4) value None) None tt tt in
    let first : (bytes : List ℕ) × IsFirst (alone attrs).told bytes =
    join _ _ (one_part transitive origin attrs.origin) (join _ _ (path_part transitive as_path attrs.path can.path) (join _ _ hop (four_part optional multi_exit_disc attrs.med))) in
    let second : (bytes : List ℕ) × IsSecond (alone attrs).told bytes =
    join _ _ (four_part transitive local_pref attrs.pref) (join _ _ (atomic_part transitive atomic_aggregate attrs.atomic) (join _ _ (aggregator_part optional_transitive aggregator attrs.aggregator can.aggregator) (communities_part optional_transitive communities attrs.communities can.communities))) in
    let reach : (bytes : List ℕ) × IsReach V4 [] [] bytes = ([], record { multi = None; are = refl; is = record { value = None; are = refl; is = tt } }) in
    let unreach : (bytes : List ℕ) × IsUnreach V4 [] bytes = ([], record { multi = None; are = refl; is = record { value = None; are = refl; is = tt } }) in
    join _ _ (join _ _ first second) (join _ _ reach (join _ _ unreach (exists_others attrs.others (forms_octets attrs.others can.others))))

parts_short : (ss : List Slot) (rest : List OtherValue) → AllByRecursion (λ s. ShortFound s.value) ss → AllByRecursion HasOctets rest → AllByRecursion HasOctets (slot_parts ss ++ rest)
parts_short [] rest s r = r
parts_short (x ∷ ss) rest (s, more) r =
    subst (λ (l : List OtherValue). AllByRecursion HasOctets l) (sym (append_assoc (part_of x.flags x.code x.value) (slot_parts ss) rest)) (go x.value s (parts_short ss rest more r))
  where
    go : (value : Option (List ℕ)) → ShortFound value → AllByRecursion HasOctets (slot_parts ss ++ rest) → AllByRecursion HasOctets (part_of x.flags x.code value ++ (slot_parts ss ++ rest))
    go None f m = m
    go (Some v) f m = (f, m)

others_short : (others : List OtherValue) → AllByRecursion HasOctets others → AllByRecursion HasOctets (map written_other others)
others_short [] s = tt
others_short (a ∷ others) (s, more) = (s, others_short others more)

number_short : (n : ℕ) (value : Option (List ℕ)) (o : Option ℕ) → n ≤ 65535 → Optional (IsNumber n) value o → ShortFound value
number_short n None o le is = tt
number_short n (Some x) None le is = absurd is
number_short n (Some x) (Some v) le is = omega (arith, is.len, le)

hop_short : (value : Option (List ℕ)) → Optional (IsField 4) value None → ShortFound value
hop_short None is = tt
hop_short (Some x) is = absurd is

path_short : (value : Option (List ℕ)) (o : Option (List SegmentValue)) → FitsPath o → Optional (ArePath Four) value o → ShortFound value
path_short None o fits is = tt
path_short (Some x) None fits is = absurd is
path_short (Some x) (Some path) fits is = omega (arith, fits, segments_length path x is)

atomic_short : (value : Option (List ℕ)) (b : Bool) → IsAtomic value b → ShortFound value
atomic_short None b is = tt
atomic_short (Some x) b is = omega (arith, ap (λ (l : List ℕ). length l) is.0)

aggregator_short : (value : Option (List ℕ)) (o : Option AggregatorValue) → Optional (IsAggregator Four) value o → ShortFound value
aggregator_short None o is = tt
aggregator_short (Some x) None is = absurd is
aggregator_short (Some x) (Some a) is = omega (arith, is.len)

communities_short : (value : Option (List ℕ)) (values : List ℕ) → 4 * length values ≤ 65535 → AreSomeCommunities value values → ShortFound value
communities_short None values fits is = tt
communities_short (Some x) values fits is = omega (arith, fits, numbers_length values x is.0)

multi_short : (Is : List ℕ → MpValue → Type 0) (hop : List ℕ) (value : Option (List ℕ)) (m : Option MpValue) → AreMulti V4 hop [] m → Optional Is value m → ShortFound value
multi_short Is hop None m are is = tt
multi_short Is hop (Some x) None are is = absurd is
multi_short Is hop (Some x) (Some m) are is = absurd (omega (arith, are.some))

pub can_given : (attrs : AttrsValue) → CanBeGiven attrs → IsGiven attrs
can_given attrs can =
    let (field, is) = exists_field attrs can in
    let p = alone attrs in
    let t = told_here V4 p field is in
    record {
      field = field;
      read = attrs_read V4 p field t (can_keep attrs can) refl;
      are = are_attributes V4 p field t (can_keep attrs can) refl;
      octets = subst (λ (l : List OtherValue). AllByRecursion HasOctets l) (sym (parts_are V4 p field t (can_keep attrs can) refl)) (
          parts_short (ten t.v1 t.v2 t.v3 t.v4 t.v5 t.v6 t.v7 t.v8 t.v14 t.v15) (map written_other attrs.others) (
            number_short 1 t.v1 attrs.origin (omega arith) t.origin_is,
            (
              path_short t.v2 attrs.path can.path t.path_is,
              (
                hop_short t.v3 t.hop_is,
                (
                  number_short 4 t.v4 attrs.med (omega arith) t.med_is,
                  (
                    number_short 4 t.v5 attrs.pref (omega arith) t.pref_is,
                    (
                      atomic_short t.v6 attrs.atomic t.atomic_is,
                      (
                        aggregator_short t.v7 attrs.aggregator t.aggregator_is,
                        (communities_short t.v8 attrs.communities can.communities t.communities_are, (multi_short IsMpReach [] t.v14 t.reach t.multi_are t.reach_is, (multi_short IsMpUnreach [] t.v15 t.unreach t.unreachable_are t.unreach_is, tt))),
                      ),
                    ),
                  ),
                ),
              ),
            ),
          )
          (others_short attrs.others (forms_octets attrs.others can.others))
          );
      same = refl;
      hop = can.hop;
    }
