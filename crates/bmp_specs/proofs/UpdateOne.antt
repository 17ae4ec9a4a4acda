-- The body of an UPDATE message has one value at most.
use Rattle.std.proofs.Common.{◌≡◌, ℕ, ◌+◌, List, [], ◌++◌, length, drop, Option, Some, None, sym, ap, ◌∙◌, subst, arith}
use Rattle.std.specs.Prelude.{MatchOption}
use Rattle.byteorder.specs.Endian.{big_number}
use Rattle.byteorder.specs.Numbers.{big_from-append}
use Rattle.bmp_specs.specs.declared.wire.Family.{Family}
use Rattle.bmp_specs.specs.declared.wire.Family.TheVariants.{V4}
use Rattle.bmp_specs.specs.declared.wire.IdUse.{IdUse}
use Rattle.bmp_specs.specs.declared.wire.Width.{Width}
use Rattle.bmp_specs.specs.AddressFamily.{unicast_family, uses_ids}
use Rattle.bmp_specs.specs.Attributes.{AreAttributes}
use Rattle.bmp_specs.specs.Counted.{IsCounted, IsRest}
use Rattle.bmp_specs.specs.Nlri.{AreNlri}
use Rattle.bmp_specs.specs.Parts.{IsCode}
use Rattle.bmp_specs.specs.Sequence.{Then}
use Rattle.bmp_specs.specs.Update.{AreMpNlri, IsUpdate, end_of_rib, passed_over, with_hop_of}
use Rattle.bmp_specs.specs.Values.{AttrsReadValue, MpValue, NlriValue}
use Rattle.bmp_specs.proofs.AttributesOne.{AreAttributes-one}
use Rattle.bmp_specs.proofs.NlriCode.{AreNlri-one}
use Rattle.bmp_specs.proofs.PrefixCode.{same_front}
use Rattle.bmp_specs.proofs.ThenOne.{IsOne, Then-one}

counted_one : (a b x y v w : List ℕ) → IsCounted a v → IsCounted b w → a ++ x ≡ b ++ y → (a ≡ b) × (v ≡ w)
counted_one a b x y v w p q e =
    let says : big_number 2 a ≡ big_number 2 b = sym (big_from-append 2 a x p.header) ∙ ap (λ (l : List ℕ). big_number 2 l) e ∙ big_from-append 2 b y q.header in
    let lengths : length a ≡ length b = sym p.length_is ∙ ap (λ (n : ℕ). n + 2) says ∙ q.length_is in
    let same : a ≡ b = same_front a b x y lengths e in
    (same, sym p.value_is ∙ ap (λ (l : List ℕ). drop 2 l) same ∙ q.value_is)

-- no field after its length begins another
pub counted_code : IsCode IsCounted
counted_code = record { some = λ v p. omega (arith, p.header); one = counted_one }

rest_one : IsOne IsRest
rest_one bytes v w p q = sym p ∙ q

-- the three fields of an UPDATE message
abbrev pub UpdateFields : Type 0
UpdateFields = List ℕ × (List ℕ × List ℕ)

pub fields_one : IsOne (Then IsCounted (Then IsCounted IsRest))
fields_one = Then-one IsCounted (Then IsCounted IsRest) counted_code (Then-one IsCounted IsRest counted_code rest_one)

family_one : (ids : IdUse) (family : Option Family) (bytes : List ℕ) (ns ms : List NlriValue)
    → MatchOption family (ns ≡ []) (λ f. AreNlri f (uses_ids ids f) bytes ns) → MatchOption family (ms ≡ []) (λ f. AreNlri f (uses_ids ids f) bytes ms) → ns ≡ ms
family_one ids None bytes ns ms p q = p ∙ sym q
family_one ids (Some family) bytes ns ms p q = AreNlri-one family (uses_ids ids family) bytes ns ms p q

mp_one : (ids : IdUse) (found : Option MpValue) (ns ms : List NlriValue) → AreMpNlri ids found ns → AreMpNlri ids found ms → ns ≡ ms
mp_one ids None ns ms p q = p ∙ sym q
mp_one ids (Some m) ns ms p q = family_one ids (unicast_family m.afi m.safi) m.prefixes ns ms p q

pub IsUpdate-one : (width : Width) (ids : IdUse) → IsOne (IsUpdate width ids)
IsUpdate-one width ids body u v p q =
    let fields = fields_one body (p.withdrawn_routes, (p.path_attributes, p.nlri)) (q.withdrawn_routes, (q.path_attributes, q.nlri)) p.fields q.fields in
    let routes : p.withdrawn_routes ≡ q.withdrawn_routes = ap (λ (f : UpdateFields). f.0) fields in
    let attributes : p.path_attributes ≡ q.path_attributes = ap (λ (f : UpdateFields). f.1.0) fields in
    let nlri : p.nlri ≡ q.nlri = ap (λ (f : UpdateFields). f.1.1) fields in
    let read : p.read ≡ q.read = AreAttributes-one width q.path_attributes p.read q.read (subst (λ (l : List ℕ). AreAttributes width l p.read) attributes p.attributes) q.attributes in
    let first : p.withdrawn ≡ q.withdrawn = AreNlri-one V4 (uses_ids ids V4) q.withdrawn_routes p.withdrawn q.withdrawn (subst (λ (l : List ℕ). AreNlri V4 (uses_ids ids V4) l p.withdrawn) routes p.withdrawn_are) q.withdrawn_are in
    let second : p.unreachable ≡ q.unreachable = mp_one ids q.read.unreach p.unreachable q.unreachable (subst (λ (r : AttrsReadValue). AreMpNlri ids r.unreach p.unreachable) read p.unreachable_are) q.unreachable_are in
    let withdrawn : u.withdrawn ≡ v.withdrawn = p.all_withdrawn ∙ ap (λ (l : List NlriValue). l ++ p.unreachable) first ∙ ap (λ (l : List NlriValue). q.withdrawn ++ l) second ∙ sym q.all_withdrawn in
    let plain : u.plain ≡ v.plain = AreNlri-one V4 (uses_ids ids V4) q.nlri u.plain v.plain (subst (λ (l : List ℕ). AreNlri V4 (uses_ids ids V4) l u.plain) nlri p.plain_are) q.plain_are in
    let plain_attrs : u.plain_attrs ≡ v.plain_attrs = p.plain_attrs_are ∙ ap (λ (r : AttrsReadValue). r.attrs) read ∙ sym q.plain_attrs_are in
    let multi : u.multi ≡ v.multi = mp_one ids q.read.reach u.multi v.multi (subst (λ (r : AttrsReadValue). AreMpNlri ids r.reach u.multi) read p.multi_are) q.multi_are in
    let multi_attrs : u.multi_attrs ≡ v.multi_attrs = p.multi_attrs_are ∙ ap (λ (r : AttrsReadValue). with_hop_of r.reach r.attrs) read ∙ sym q.multi_attrs_are in
    let mark : u.mark ≡ v.mark =
    p.mark_is ∙ ap (λ (l : List ℕ). end_of_rib l p.read p.nlri) routes ∙ ap (λ (r : AttrsReadValue). end_of_rib q.withdrawn_routes r p.nlri) read ∙ ap (λ (l : List ℕ). end_of_rib q.withdrawn_routes q.read l) nlri ∙ sym q.mark_is in
    let unread : u.unread ≡ v.unread = p.unread_is ∙ ap (λ (r : AttrsReadValue). passed_over r.reach + passed_over r.unreach) read ∙ sym q.unread_is in
    λ i. record {
      withdrawn = withdrawn i;
      plain = plain i;
      plain_attrs = plain_attrs i;
      multi = multi i;
      multi_attrs = multi_attrs i;
      mark = mark i;
      unread = unread i;
    }
