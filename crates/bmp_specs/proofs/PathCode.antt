-- No AS path segment on the wire begins another, so a field has one AS path at most.
use Rattle.std.proofs.Common.{◌≡◌, ◌*◌, ◌<◌, ℕ, List, [], ◌∷◌, ◌++◌, length, drop, get_or, refl, sym, ap, ◌∙◌, subst, arith, mul-zero, mul-suc, length-append, length-drop}
use Rattle.std.proofs.lemmas.List.{get_or_append_left}
use Rattle.byteorder.specs.Endian.{big_number}
use Rattle.bmp_specs.specs.declared.wire.Width.{Width}
use Rattle.bmp_specs.specs.declared.wire.Width.TheVariants.{Two, Four}
use Rattle.bmp_specs.specs.declared.wire.SegmentKind.{SegmentKind}
use Rattle.bmp_specs.specs.declared.wire.SegmentKind.TheVariants.{Set, Sequence, ConfedSequence, ConfedSet}
use Rattle.bmp_specs.specs.Parts.{IsCode}
use Rattle.bmp_specs.specs.AsPath.{as_width, segment_type, IsAsNumber, AreAsNumbers, IsSegment, ArePath}
use Rattle.bmp_specs.specs.Values.{SegmentValue}
use Rattle.bmp_specs.proofs.PartsRead.{AreParts-one}
use Rattle.bmp_specs.proofs.PrefixCode.{same_front}

as_width_some : (width : Width) → 0 < as_width width
as_width_some Two = omega arith
as_width_some Four = omega arith

pub as_number_code : (width : Width) → IsCode (IsAsNumber width)
as_number_code width = record {
  some = λ v p. omega (arith, as_width_some width, p.len);
  one = λ a b x y v w p q e.
      let same = same_front a b x y (p.len ∙ sym q.len) e in
      (same, p.value ∙ ap (λ (l : List ℕ). big_number (as_width width) l) same ∙ sym q.value);
}

-- so many AS numbers have as many times the bytes of one
pub length-AreAsNumbers : (width : Width) (bytes asns : List ℕ) → AreAsNumbers width bytes asns → length bytes ≡ as_width width * length asns
length-AreAsNumbers width bytes [] p = ap (λ (l : List ℕ). length l) p ∙ sym (mul-zero (as_width width))
length-AreAsNumbers width bytes (n ∷ asns) (front, rest, split, is, p) =
    let others : length rest ≡ as_width width * length asns = length-AreAsNumbers width rest asns p in
    omega (arith, ap length split.joined, length-append front rest, is.len, others, mul-suc (as_width width) (length asns))

-- the types of two kinds of segment differ
segment_type_one : (j k : SegmentKind) → segment_type j ≡ segment_type k → j ≡ k
segment_type_one Set Set e = refl
segment_type_one Sequence Sequence e = refl
segment_type_one ConfedSequence ConfedSequence e = refl
segment_type_one ConfedSet ConfedSet e = refl
segment_type_one j k e = absurd cc

segment_one : (width : Width) (a b x y : List ℕ) (v w : SegmentValue) → IsSegment width a v → IsSegment width b w → a ++ x ≡ b ++ y → (a ≡ b) × (v ≡ w)
segment_one width a b x y v w p q e =
    let first : get_or a 0 0 ≡ get_or b 0 0 =
    sym (get_or_append_left a x 0 0 (omega (arith, p.header))) ∙ ap (λ (l : List ℕ). get_or l 0 0) e ∙ get_or_append_left b y 0 0 (omega (arith, q.header)) in
    let second : get_or a 1 0 ≡ get_or b 1 0 =
    sym (get_or_append_left a x 0 1 (omega (arith, p.header))) ∙ ap (λ (l : List ℕ). get_or l 1 0) e ∙ get_or_append_left b y 0 1 (omega (arith, q.header)) in
    let count : length v.numbers ≡ length w.numbers = sym p.count_is ∙ second ∙ q.count_is in
    let long : length (drop 2 a) ≡ length (drop 2 b) =
    length-AreAsNumbers width (drop 2 a) v.numbers p.numbers_are ∙ ap (λ (n : ℕ). as_width width * n) count ∙ sym (length-AreAsNumbers width (drop 2 b) w.numbers q.numbers_are) in
    let same : a ≡ b = same_front a b x y (omega (arith, long, p.header, q.header, length-drop 2 a, length-drop 2 b)) e in
    let kind : v.kind ≡ w.kind = segment_type_one v.kind w.kind (sym p.kind_is ∙ first ∙ q.kind_is) in
    let numbers : v.numbers ≡ w.numbers =
    AreParts-one (IsAsNumber width) (as_number_code width) (drop 2 b) v.numbers w.numbers (subst (λ (l : List ℕ). AreAsNumbers width (drop 2 l) v.numbers) same p.numbers_are) q.numbers_are in
    let segment : SegmentKind → List ℕ → SegmentValue = λ k n. record { kind = k; numbers = n } in
    (same, ap (λ (k : SegmentKind). segment k v.numbers) kind ∙ ap (λ (n : List ℕ). segment w.kind n) numbers)

pub segment_code : (width : Width) → IsCode (IsSegment width)
segment_code width = record { some = λ v p. omega (arith, p.header); one = segment_one width }

-- a field is one AS path at most
pub path_one : (width : Width) (bytes : List ℕ) (v w : List SegmentValue) → ArePath width bytes v → ArePath width bytes w → v ≡ w
path_one width bytes v w p q = AreParts-one (IsSegment width) (segment_code width) bytes v w p q
