-- Fields put one behind another are an UPDATE message, of the size that was stated.
use Rattle.std.proofs.Common.{◌≡◌, ℕ, ◌+◌, ◌*◌, ◌≤◌, Bool, List, [], ◌∷◌, ◌++◌, length, take, drop, Option, Some, None, refl, sym, ap, ◌∙◌, arith, length-append, length-drop, length-take}
use Rattle.std.proofs.lemmas.List.Sums.{sum_by-cons}
use Rattle.byteorder.specs.Endian.{big_bytes}
use Rattle.byteorder.specs.Numbers.{big_number-reads_back}
use Rattle.bmp_specs.specs.declared.wire.Family.{Family}
use Rattle.bmp_specs.specs.declared.wire.Width.TheVariants.{Four}
use Rattle.bmp_specs.specs.AsPath.{ArePath}
use Rattle.bmp_specs.specs.Attributes.{IsAggregator, IsAtomic, Optional, aggregator, as_path, atomic_aggregate, communities, local_pref, mp_reach_nlri, mp_unreach_nlri, multi_exit_disc, next_hop, origin}
use Rattle.bmp_specs.specs.BgpMessage.{marker, update_type}
use Rattle.bmp_specs.specs.MpNlri.{IsMpUnreach, hop_length}
use Rattle.bmp_specs.specs.Number.{IsNumber}
use Rattle.bmp_specs.specs.Parts.{Split}
use Rattle.bmp_specs.specs.Sequence.{IsField}
use Rattle.bmp_specs.specs.Values.{AggregatorValue, AttrsValue, MpValue, NlriValue, OtherValue, SegmentValue}
use Rattle.bmp_writer.specs.Written.{Appends}
use Rattle.bmp_writer.specs.WrittenAttributes.{AreMulti, AreOthers, AreSomeCommunities, IsFront, IsPlainReach, atomic_size, attribute_size, communities_size, front_size, optional, optional_size, optional_transitive, others_size, part_size, segments_size, there_size, transitive}
use Rattle.bmp_writer.specs.WrittenNlri.{AreOwnNlri, nlris_size}
use Rattle.bmp_writer.specs.WrittenUpdate.{IsCountedOf, IsUpdateOf, PlacesValue, counted, field_size, reach_size, unreach_size, update_size}
use Rattle.bmp_writer.specs.WrittenUpdate.{IsField as IsFieldOf}
use Rattle.bmp_writer.proofs.AttributesRead.{numbers_length, part_length, segments_length, written_length}
use Rattle.bmp_writer.proofs.NlriRead.{nlris_length}
use Rattle.bmp_writer.proofs.Still.{two_pieces}

number_size : (n : ℕ) (value : Option (List ℕ)) (o : Option ℕ) → attribute_size n ≡ 3 + n → Optional (IsNumber n) value o → part_size value ≡ there_size n o
number_size n None None e is = refl
number_size n None (Some v) e is = absurd is
number_size n (Some x) None e is = absurd is
number_size n (Some x) (Some v) e is = ap (λ (k : ℕ). attribute_size k) is.len ∙ e

hop_size : (value : Option (List ℕ)) (o : Option (List ℕ)) → Optional (IsField 4) value o → part_size value ≡ there_size 4 o
hop_size None None is = refl
hop_size None (Some v) is = absurd is
hop_size (Some x) None is = absurd is
hop_size (Some x) (Some v) is = ap (λ (k : ℕ). attribute_size k) is.len

aggregator_size : (value : Option (List ℕ)) (o : Option AggregatorValue) → Optional (IsAggregator Four) value o → part_size value ≡ there_size 8 o
aggregator_size None None is = refl
aggregator_size None (Some v) is = absurd is
aggregator_size (Some x) None is = absurd is
aggregator_size (Some x) (Some v) is = ap (λ (k : ℕ). attribute_size k) is.len

atomic_part : (value : Option (List ℕ)) (a : Bool) → IsAtomic value a → part_size value ≡ atomic_size a
atomic_part None a is = ap (λ (b : Bool). atomic_size b) (sym is)
atomic_part (Some x) a is = ap (λ (l : List ℕ). part_size (Some l)) is.0 ∙ ap (λ (b : Bool). atomic_size b) (sym is.1)

path_size : (value : Option (List ℕ)) (o : Option (List SegmentValue)) → Optional (ArePath Four) value o → part_size value ≡ optional_size segments_size o
path_size None None is = refl
path_size None (Some v) is = absurd is
path_size (Some x) None is = absurd is
path_size (Some x) (Some v) is = ap (λ (k : ℕ). attribute_size k) (segments_length v x is)

communities_part : (value : Option (List ℕ)) (vs : List ℕ) → AreSomeCommunities value vs → part_size value ≡ communities_size vs
communities_part None vs is = ap (λ (l : List ℕ). communities_size l) (sym is)
communities_part (Some x) [] is = absurd (omega (arith, is.1))
communities_part (Some x) (v ∷ vs) is =
    let size : length x ≡ 0 + 4 * length (v ∷ vs) = omega (arith, numbers_length (v ∷ vs) x is.0) in
    ap (λ (k : ℕ). attribute_size k) size

front_length : (told : AttrsValue) (bytes : List ℕ) → IsFront told bytes → length bytes ≡ front_size told
front_length told bytes (one, two, s1, (b1, r1, t1, p1, (b2, r2, t2, p2, (b3, b4, t3, p3, p4))), (b5, r5, t5, p5, (b6, r6, t6, p6, (b7, b8, t7, p7, p8)))) =
    let l1 : length b1 ≡ there_size 1 told.origin = part_length transitive origin p1.value b1 p1.are ∙ number_size 1 p1.value told.origin refl p1.is in
    let l2 : length b2 ≡ optional_size segments_size told.path = part_length transitive as_path p2.value b2 p2.are ∙ path_size p2.value told.path p2.is in
    let l3 : length b3 ≡ there_size 4 told.hop = part_length transitive next_hop p3.value b3 p3.are ∙ hop_size p3.value told.hop p3.is in
    let l4 : length b4 ≡ there_size 4 told.med = part_length optional multi_exit_disc p4.value b4 p4.are ∙ number_size 4 p4.value told.med refl p4.is in
    let l5 : length b5 ≡ there_size 4 told.pref = part_length transitive local_pref p5.value b5 p5.are ∙ number_size 4 p5.value told.pref refl p5.is in
    let l6 : length b6 ≡ atomic_size told.atomic = part_length transitive atomic_aggregate p6.value b6 p6.are ∙ atomic_part p6.value told.atomic p6.is in
    let l7 : length b7 ≡ there_size 8 told.aggregator = part_length optional_transitive aggregator p7.value b7 p7.are ∙ aggregator_size p7.value told.aggregator p7.is in
    let l8 : length b8 ≡ communities_size told.communities = part_length optional_transitive communities p8.value b8 p8.are ∙ communities_part p8.value told.communities p8.is in
    let j : (xs a b : List ℕ) → Split xs a b → length xs ≡ length a + length b = λ xs a b s. ap (λ (x : List ℕ). length x) s.joined ∙ length-append a b in
    omega (arith, j bytes one two s1, j one b1 r1 t1, j r1 b2 r2 t2, j r2 b3 b4 t3, j two b5 r5 t5, j r5 b6 r6 t6, j r6 b7 b8 t7, l1, l2, l3, l4, l5, l6, l7, l8)

multi_size : (family : Family) (hop : List ℕ) (ns : List NlriValue) (m : Option MpValue) (value : Option (List ℕ)) → AreMulti family hop ns m → Optional IsPlainReach value m → part_size value ≡ reach_size hop ns
multi_size family hop ns None None none is = ap (λ (l : List NlriValue). reach_size hop l) (sym none)
multi_size family hop ns None (Some x) none is = absurd is
multi_size family hop ns (Some m) None are is = absurd is
multi_size family hop [] (Some m) (Some x) are is = absurd (omega (arith, are.some))
multi_size family hop (n ∷ ns) (Some m) (Some x) are is =
    let h : length m.hop ≡ length hop = ap (λ (v : MpValue). length v.hop) are.is in
    let q : length m.prefixes ≡ nlris_size (n ∷ ns) = ap (λ (v : MpValue). length v.prefixes) are.is ∙ nlris_length (n ∷ ns) are.prefixes are.are in
    let k : length (take (hop_length x) (drop 4 x)) ≡ length m.hop = ap (λ (l : List ℕ). length l) is.is.hop_is in
    let r : length (drop (hop_length x + 5) x) ≡ length m.prefixes = ap (λ (l : List ℕ). length l) is.is.prefixes_are in
    let all : length x ≡ 5 + length hop + nlris_size (n ∷ ns) = omega (arith, h, q, k, r, is.is.header, length-take (hop_length x) (drop 4 x), length-drop 4 x, length-drop (hop_length x + 5) x) in
    ap (λ (s : ℕ). attribute_size s) all

unmulti_size : (family : Family) (ns : List NlriValue) (m : Option MpValue) (value : Option (List ℕ)) → AreMulti family [] ns m → Optional IsMpUnreach value m → part_size value ≡ unreach_size ns
unmulti_size family ns None None none is = ap (λ (l : List NlriValue). unreach_size l) (sym none)
unmulti_size family ns None (Some x) none is = absurd is
unmulti_size family ns (Some m) None are is = absurd is
unmulti_size family [] (Some m) (Some x) are is = absurd (omega (arith, are.some))
unmulti_size family (n ∷ ns) (Some m) (Some x) are is =
    let q : length m.prefixes ≡ nlris_size (n ∷ ns) = ap (λ (v : MpValue). length v.prefixes) are.is ∙ nlris_length (n ∷ ns) are.prefixes are.are in
    let r : length (drop 3 x) ≡ length m.prefixes = ap (λ (l : List ℕ). length l) is.prefixes_are in
    let all : length x ≡ 3 + nlris_size (n ∷ ns) = omega (arith, q, r, is.header, length-drop 3 x) in
    ap (λ (s : ℕ). attribute_size s) all

others_length : (others : List OtherValue) (bytes : List ℕ) → AreOthers others bytes → length bytes ≡ others_size others
others_length [] bytes p = ap (λ (l : List ℕ). length l) p
others_length (a ∷ more) bytes (front, rest, split, is, p) =
    omega (arith, ap (λ (l : List ℕ). length l) split.joined, length-append front rest, written_length a.flags a.code a.value front is, others_length more rest p, sum_by-cons (λ (other : OtherValue). attribute_size (length other.value)) a more)

pub field_length : (family : Family) (p : PlacesValue) (bytes : List ℕ) → IsFieldOf family p bytes → length bytes ≡ field_size p
field_length family p bytes (front, behind, s0, told, (re, r9, s9, reach, (un, ot, s10, unreach, others))) =
    let l1 = front_length p.told front told in
    let l2 : length re ≡ reach_size p.hop p.multi = part_length optional mp_reach_nlri reach.is.value re reach.is.are ∙ multi_size family p.hop p.multi reach.multi reach.is.value reach.are reach.is.is in
    let l3 : length un ≡ unreach_size p.unreachable = part_length optional mp_unreach_nlri unreach.is.value un unreach.is.are ∙ unmulti_size family p.unreachable unreach.multi unreach.is.value unreach.are unreach.is.is in
    let l4 = others_length p.others ot others in
    let j : (xs a b : List ℕ) → Split xs a b → length xs ≡ length a + length b = λ xs a b s. ap (λ (x : List ℕ). length x) s.joined ∙ length-append a b in
    omega (arith, j bytes front behind s0, j behind re r9 s9, j r9 un ot s10, l1, l2, l3, l4)

-- a field behind its length
pub counted_put : (Is : List ℕ → Type 0) (size : ℕ) (octets old mid new : List ℕ) → ((field : List ℕ) → Is field → length field ≡ size) → octets ≡ big_bytes 2 size → mid ≡ old ++ octets → Appends Is mid new → Appends (IsCountedOf Is) old new
counted_put Is size octets old mid new len o e (field, f, is) = (
  counted field,
  two_pieces old mid new octets field e f ∙ ap (λ (l : List ℕ). old ++ (l ++ field)) (o ∙ ap (λ (n : ℕ). big_bytes 2 n) (sym (len field is))),
  record { field = field; joined = refl; is = is },
)

pub nlris_put : (ns : List NlriValue) (size : ℕ) (octets old mid new : List ℕ) → size ≡ nlris_size ns → octets ≡ big_bytes 2 size → mid ≡ old ++ octets → Appends (AreOwnNlri ns) mid new → Appends (IsCountedOf (AreOwnNlri ns)) old new
nlris_put ns size octets old mid new s o e p = counted_put (AreOwnNlri ns) size octets old mid new (λ field is. nlris_length ns field is ∙ sym s) o e p

-- "Withdrawn Routes" have room where the message has
pub withdrawn_fits : (p : PlacesValue) → update_size p ≤ 65535 → nlris_size p.withdrawn ≤ 65535
withdrawn_fits p fits = omega (arith, fits)

-- "Path Attributes" in so many bytes have room where the message has
pub field_fits : (family : Family) (p : PlacesValue) (field : List ℕ) → IsFieldOf family p field → update_size p ≤ 65535 → length field ≤ 65535
field_fits family p field is fits = omega (arith, field_length family p field is, fits)

pub field_put : (family : Family) (places : PlacesValue) (field old new : List ℕ) → IsFieldOf family places field → new ≡ old ++ counted field → Appends (IsCountedOf (IsFieldOf family places)) old new
field_put family places field old new is e = (counted field, e, record { field = field; joined = refl; is = is })

pub update_put : (family : Family) (p : PlacesValue) (size : ℕ) (header old m1 m2 m3 new : List ℕ) → size ≡ update_size p → size ≤ 65535 → header ≡ marker ++ (big_bytes 2 size ++ update_type ∷ []) → m1 ≡ old ++ header
    → Appends (IsCountedOf (AreOwnNlri p.withdrawn)) m1 m2 → Appends (IsCountedOf (IsFieldOf family p)) m2 m3 → Appends (AreOwnNlri p.plain) m3 new → Appends (IsUpdateOf family p) old new
update_put family p size header old m1 m2 m3 new s short h e (c1, f1, w) (c2, f2, a) (n, f3, plain) =
    let body = counted w.field ++ (counted a.field ++ n) in
    let bytes : List ℕ = (marker ++ (big_bytes 2 size ++ update_type ∷ [])) ++ body in
    let joined : new ≡ old ++ (header ++ (c1 ++ (c2 ++ n))) = two_pieces old m1 new header (c1 ++ (c2 ++ n)) e (two_pieces m1 m2 new c1 (c2 ++ n) f1 (two_pieces m2 m3 new c2 n f2 f3)) in
    let same : header ++ (c1 ++ (c2 ++ n)) ≡ bytes = ap (λ (l : List ℕ). l ++ (c1 ++ (c2 ++ n))) h ∙ ap (λ (l : List ℕ). (marker ++ (big_bytes 2 size ++ update_type ∷ [])) ++ (l ++ (c2 ++ n))) w.joined
    ∙ ap (λ (l : List ℕ). (marker ++ (big_bytes 2 size ++ update_type ∷ [])) ++ (counted w.field ++ (l ++ n))) a.joined in
    let l1 : length (counted w.field) ≡ 2 + nlris_size p.withdrawn = omega (arith, nlris_length p.withdrawn w.field w.is) in
    let l2 : length (counted a.field) ≡ 2 + field_size p = omega (arith, field_length family p a.field a.is) in
    let len : length bytes ≡ size = omega (arith, s, l1, l2, nlris_length p.plain n plain, length-append (counted w.field) (counted a.field ++ n), length-append (counted a.field) n) in (
      bytes,
      joined ∙ ap (λ (l : List ℕ). old ++ l) same,
      record {
        withdrawn_routes = w.field;
        path_attributes = a.field;
        nlri = n;
        is = record { header = omega arith; marker_is = refl; length_is = big_number-reads_back 2 size (update_type ∷ body) (omega (arith, short)) ∙ sym len; kind_is = refl; body_is = refl };
        size = len ∙ s;
        withdrawn_are = w.is;
        attributes_are = a.is;
        nlri_are = plain;
      },
    )
