-- An attribute that is written is read as it was.
use Rattle.std.proofs.Common.{◌≡◌, ℕ, ◌+◌, ◌-◌, ◌*◌, ◌/◌, ◌%◌, ◌==◌, ◌≤◌, ◌<◌, eqb-true, nat_lt, Bool, true, false, cond, List, [], ◌∷◌, ◌++◌, length, drop, slice_index, Option, Some, None, bit_and, bit_or, refl, sym, ap, subst, ◌∙◌, append_assoc, append-nil, arith, length-append, length-drop}
use Rattle.std.proofs.lemmas.Nat.{and_or_self}
use Rattle.std.proofs.lemmas.Nat.Bits.{and_pow}
use Rattle.std.proofs.lemmas.List.Sums.{sum_by-cons}
use Rattle.byteorder.specs.Endian.{big_bytes, big_number}
use Rattle.byteorder.specs.Numbers.{big_number-reads_back}
use Rattle.bmp_specs.specs.Attribute.{IsAttribute, attribute_header}
use Rattle.bmp_specs.specs.declared.wire.Width.TheVariants.{Four}
use Rattle.bmp_specs.specs.AsPath.{ArePath, IsAsNumber, IsSegment, segment_type}
use Rattle.bmp_specs.specs.Attributes.{Optional}
use Rattle.bmp_specs.specs.Number.{IsNumber}
use Rattle.bmp_specs.specs.Parts.{AreParts}
use Rattle.bmp_specs.specs.PeerHeader.{is_set}
use Rattle.bmp_specs.specs.Values.{SegmentValue}
use Rattle.bmp_specs.proofs.PathCode.{length-AreAsNumbers}
use Rattle.bmp_writer.specs.Written.{Appends}
use Rattle.bmp_writer.specs.WrittenAttributes.{AreSomeCommunities, HasPath, IsPart, segment_size, segments_size, attribute_size, cleared, head_bytes, part_of, part_size, written}

-- the Extended Length bit, taken from what has it
taken : (f : ℕ) → bit_and f 16 ≡ 16 → bit_and (f - 16) 16 ≡ 0
taken f e =
    let one : bit_and f 16 ≡ f / 16 % 2 * 16 = and_pow f 4 in
    let odd : f / 16 % 2 ≡ 1 = omega (arith, one, e) in
    let even : (f - 16) / 16 % 2 ≡ 0 = omega (arith, odd) in
    and_pow (f - 16) 4 ∙ ap (λ (b : ℕ). b * 16) even

-- it isn't set where it was cleared
pub cleared_clear : (f : ℕ) → is_set 16 (cleared f) ≡ false
cleared_clear f = go (is_set 16 f) refl
  where
    go : (b : Bool) → is_set 16 f ≡ b → is_set 16 (cond b (f - 16) f) ≡ false
    go true e = ap (λ (n : ℕ). n == 16) (taken f (eqb-true (bit_and f 16) 16 e))
    go false e = e

-- it is set where it was put in
pub set_here : (f : ℕ) → is_set 16 (bit_or f 16) ≡ true
set_here f = ap (λ (n : ℕ). n == 16) (and_or_self 16 f)

long_here : (f code : ℕ) (value : List ℕ) → is_set 16 f ≡ true → length value ≤ 65535 → IsAttribute (f ∷ code ∷ (big_bytes 2 (length value) ++ value)) (record { flags = f; code = code; value = value })
long_here f code value e short =
    let bytes : List ℕ = f ∷ code ∷ (big_bytes 2 (length value) ++ value) in
    let len : length bytes ≡ 4 + length value = omega arith in
    record {
      header = subst (λ (b : Bool). cond b 4 3 ≤ length bytes) (sym e) (omega (arith, len));
      flags_is = refl;
      code_is = refl;
      length_is = subst (λ (b : Bool). cond b (big_number 2 (drop 2 bytes)) (slice_index bytes 2) + cond b 4 3 ≡ length bytes) (sym e)
          (ap (λ (n : ℕ). n + 4) (big_number-reads_back 2 (length value) value (omega (arith, short))) ∙ omega (arith, len));
      value_is = subst (λ (b : Bool). drop (cond b 4 3) bytes ≡ value) (sym e) refl;
    }

short_here : (f code : ℕ) (value : List ℕ) → is_set 16 f ≡ false → IsAttribute (f ∷ code ∷ length value ∷ value) (record { flags = f; code = code; value = value })
short_here f code value e =
    let bytes : List ℕ = f ∷ code ∷ length value ∷ value in
    record {
      header = subst (λ (b : Bool). cond b 4 3 ≤ length bytes) (sym e) (omega arith);
      flags_is = refl;
      code_is = refl;
      length_is = subst (λ (b : Bool). cond b (big_number 2 (drop 2 bytes)) (slice_index bytes 2) + cond b 4 3 ≡ length bytes) (sym e) (omega arith);
      value_is = subst (λ (b : Bool). drop (cond b 4 3) bytes ≡ value) (sym e) refl;
    }

-- the header and the value are the attribute
pub attribute_here : (flags code : ℕ) (value : List ℕ) → length value ≤ 65535 → IsAttribute (head_bytes flags code (length value) ++ value) (written flags code value)
attribute_here flags code value short = go (nat_lt 255 (length value))
  where
    go : (b : Bool) → IsAttribute (cond b (bit_or (cleared flags) 16 ∷ code ∷ big_bytes 2 (length value)) (cleared flags ∷ code ∷ length value ∷ []) ++ value) (record { flags = cond b (bit_or (cleared flags) 16) (cleared flags); code = code; value = value })
    go true = long_here (bit_or (cleared flags) 16) code value (set_here (cleared flags)) short
    go false = short_here (cleared flags) code value (cleared_clear flags)

pub written_length : (flags code : ℕ) (value bytes : List ℕ) → IsAttribute bytes (written flags code value) → length bytes ≡ attribute_size (length value)
written_length flags code value bytes is = go (nat_lt 255 (length value)) is
  where
    go : (b : Bool) → IsAttribute bytes (record { flags = cond b (bit_or (cleared flags) 16) (cleared flags); code = code; value = value }) → length bytes ≡ cond b 4 3 + length value
    go true q =
        let e : is_set 16 (slice_index bytes 0) ≡ true = ap (λ (n : ℕ). is_set 16 n) q.flags_is ∙ set_here (cleared flags) in
        let header : attribute_header bytes ≡ 4 = ap (λ (b : Bool). cond b 4 3) e in
        let rest : length (drop 4 bytes) ≡ length value = ap (λ (n : ℕ). length (drop n bytes)) (sym header) ∙ ap (λ (l : List ℕ). length l) q.value_is in
        omega (arith, header, q.header, rest, length-drop 4 bytes)
    go false q =
        let e : is_set 16 (slice_index bytes 0) ≡ false = ap (λ (n : ℕ). is_set 16 n) q.flags_is ∙ cleared_clear flags in
        let header : attribute_header bytes ≡ 3 = ap (λ (b : Bool). cond b 4 3) e in
        let rest : length (drop 3 bytes) ≡ length value = ap (λ (n : ℕ). length (drop n bytes)) (sym header) ∙ ap (λ (l : List ℕ). length l) q.value_is in
        omega (arith, header, q.header, rest, length-drop 3 bytes)

pub part_length : (flags code : ℕ) (value : Option (List ℕ)) (bytes : List ℕ) → AreParts IsAttribute bytes (part_of flags code value) → length bytes ≡ part_size value
part_length flags code None bytes p = ap (λ (l : List ℕ). length l) p
part_length flags code (Some value) bytes (front, rest, split, is, none) =
    omega (arith, ap (λ (l : List ℕ). length l) split.joined, length-append front rest, ap (λ (l : List ℕ). length l) none, written_length flags code value front is)

-- what is put in two pieces
pub attribute_put : (flags code size : ℕ) (value old mid new : List ℕ) → length value ≤ 65535 → size ≡ length value → mid ≡ old ++ head_bytes flags code size → new ≡ mid ++ value
    → Appends (λ bytes. IsAttribute bytes (written flags code value)) old new
attribute_put flags code size value old mid new short s e f = (
  head_bytes flags code (length value) ++ value,
  f ∙ ap (λ (l : List ℕ). l ++ value) (e ∙ ap (λ (n : ℕ). old ++ head_bytes flags code n) s) ∙ append_assoc old (head_bytes flags code (length value)) value,
  attribute_here flags code value short,
)

-- an attribute that is there
pub part_put : (flags code : ℕ) (Is : Option (List ℕ) → Type 0) (value : List ℕ) (old new : List ℕ) → Is (Some value) → Appends (λ bytes. IsAttribute bytes (written flags code value)) old new
    → Appends (IsPart flags code Is) old new
part_put flags code Is value old new is (bytes, joined, p) = (bytes, joined, record { value = Some value; are = (bytes, [], record { joined = sym (append-nil bytes) }, p, refl); is = is })

-- an attribute whose value was put in pieces of some form
pub part_put_by : (flags code size : ℕ) (Is : Option (List ℕ) → Type 0) (Form : List ℕ → Type 0) (old mid new : List ℕ) → ((value : List ℕ) → Form value → (length value ≡ size) × Is (Some value)) → size ≤ 65535
    → mid ≡ old ++ head_bytes flags code size → Appends Form mid new → Appends (IsPart flags code Is) old new
part_put_by flags code size Is Form old mid new means short e (value, f, form) =
    let (len, is) = means value form in
    part_put flags code Is value old new is (attribute_put flags code size value old mid new (omega (arith, len, short)) (sym len) e f)

-- an attribute of what is there
pub some_put : {V : Type 0} (flags code : ℕ) (Is : List ℕ → V → Type 0) (found : Option V) (v : V) (value old new : List ℕ) → found ≡ Some v → Is value v
    → Appends (λ bytes. IsAttribute bytes (written flags code value)) old new → Appends (IsPart flags code (λ x. Optional Is x found)) old new
some_put {V} flags code Is found v value old new e is p =
    part_put flags code (λ x. Optional Is x found) value old new (subst (λ (o : Option V). Optional Is (Some value) o) (sym e) is) p

pub numbers_length : (numbers bytes : List ℕ) → AreParts (IsNumber 4) bytes numbers → length bytes ≡ 4 * length numbers
numbers_length [] bytes p = ap (λ (l : List ℕ). length l) p
numbers_length (n ∷ numbers) bytes (front, rest, split, is, p) = omega (arith, ap (λ (l : List ℕ). length l) split.joined, length-append front rest, is.len, numbers_length numbers rest p)

pub communities_put : (numbers old mid new : List ℕ) (flags code : ℕ) → 0 < length numbers → 4 * length numbers ≤ 65535 → mid ≡ old ++ head_bytes flags code (4 * length numbers) → Appends (λ bytes. AreParts (IsNumber 4) bytes numbers) mid new
    → Appends (IsPart flags code (λ value. AreSomeCommunities value numbers)) old new
communities_put numbers old mid new flags code some short e p =
    part_put_by flags code (4 * length numbers) (λ value. AreSomeCommunities value numbers) (λ bytes. AreParts (IsNumber 4) bytes numbers) old mid new (λ value form. (numbers_length numbers value form, (form, some))) short e p

as_numbers : (numbers bytes : List ℕ) → AreParts (IsNumber 4) bytes numbers → AreParts (IsAsNumber Four) bytes numbers
as_numbers [] bytes p = p
as_numbers (n ∷ numbers) bytes (front, rest, split, is, p) = (front, rest, split, record { len = is.len; value = sym is.value_is }, as_numbers numbers rest p)

-- a segment, put in two pieces
pub segment_put : (inside segment : SegmentValue) → inside ≡ segment → (kind count : ℕ) (numbers old mid new : List ℕ) → numbers ≡ inside.numbers → kind ≡ segment_type inside.kind → count ≡ length numbers
    → mid ≡ old ++ kind ∷ count ∷ [] → Appends (λ bytes. AreParts (IsNumber 4) bytes numbers) mid new → Appends (λ bytes. IsSegment Four bytes segment) old new
segment_put inside segment same kind count numbers old mid new n k c e (value, f, form) = (
  kind ∷ count ∷ value,
  f ∙ ap (λ (l : List ℕ). l ++ value) e ∙ append_assoc old (kind ∷ count ∷ []) value,
  subst (λ (s : SegmentValue). IsSegment Four (kind ∷ count ∷ value) s) same
      (record { header = omega arith; kind_is = k; count_is = c ∙ ap (λ (l : List ℕ). length l) n; numbers_are = subst (λ (l : List ℕ). AreParts (IsAsNumber Four) value l) n (as_numbers numbers value form) }),
)

as_numbers_length : (numbers bytes : List ℕ) → AreParts (IsAsNumber Four) bytes numbers → length bytes ≡ 4 * length numbers
as_numbers_length numbers bytes p = length-AreAsNumbers Four bytes numbers p

pub segments_length : (path : List SegmentValue) (bytes : List ℕ) → ArePath Four bytes path → length bytes ≡ segments_size path
segments_length [] bytes p = ap (λ (l : List ℕ). length l) p
segments_length (s ∷ path) bytes (front, rest, split, is, p) =
    omega (arith, ap (λ (l : List ℕ). length l) split.joined, length-append front rest, is.header, as_numbers_length s.numbers (drop 2 front) is.numbers_are, length-drop 2 front, segments_length path rest p, sum_by-cons segment_size s path)

pub path_put : (found : Option (List SegmentValue)) (path segments : List SegmentValue) (size flags code : ℕ) (old mid new : List ℕ) → found ≡ Some path → segments ≡ path → size ≡ segments_size segments → HasPath found
    → mid ≡ old ++ head_bytes flags code size → Appends (λ bytes. ArePath Four bytes segments) mid new → Appends (IsPart flags code (λ value. Optional (ArePath Four) value found)) old new
path_put found path segments size flags code old mid new is same s has e p =
    let here : HasPath (Some path) = subst (λ (o : Option (List SegmentValue)). HasPath o) is has in
    let fits : size ≤ 65535 = omega (arith, s, ap (λ (l : List SegmentValue). segments_size l) same, here.1) in
    part_put_by flags code size (λ value. Optional (ArePath Four) value found) (λ bytes. ArePath Four bytes segments) old mid new
    (λ value form. (
      segments_length segments value form ∙ sym s,
      subst (λ (o : Option (List SegmentValue)). Optional (ArePath Four) (Some value) o) (sym is) (subst (λ (l : List SegmentValue). ArePath Four value l) same form),
    ))
    fits e p
