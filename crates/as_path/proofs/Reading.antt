-- One AS number after another, and one segment after another, as the loops read them.
use Rattle.std.proofs.Common.{◌≡◌, ◌+◌, ◌-◌, ◌*◌, ◌≤◌, ◌<◌, ℕ, List, [], ◌∷◌, ◌++◌, length, take, drop, get_or, sym, ap, subst, ◌∙◌, append_assoc, arith, length-append, length-drop, length-take, take-append-drop}
use Rattle.std.proofs.lemmas.List.{nil_from_length, get_or_append_left, drop_at}
use Rattle.bmp_specs.specs.declared.wire.Width.{Width}
use Rattle.bmp_specs.specs.declared.wire.Width.TheVariants.{Two, Four}
use Rattle.bmp_specs.specs.declared.wire.SegmentKind.{SegmentKind}
use Rattle.bmp_specs.specs.AsPath.{as_width, IsAsNumber, AreAsNumbers, IsSegment, ArePath}
use Rattle.bmp_specs.specs.Values.{SegmentValue}
use Rattle.bmp_specs.proofs.PartsRead.{HasRead, HasRead-more, HasRead-stuck, HasRead-all}
use Rattle.bmp_specs.proofs.PathCode.{as_number_code, length-AreAsNumbers, segment_code}
use Rattle.as_path.specs.Reading.{HasHeader}

-- what was split is the two parts
pub split_joined : (rest front after : List ℕ) (n : ℕ) → front ≡ take n rest → after ≡ drop n rest → rest ≡ front ++ after
split_joined rest front after n f b = sym (take-append-drop n rest) ∙ ap (λ (l : List ℕ). l ++ drop n rest) (sym f) ∙ ap (λ (l : List ℕ). front ++ l) (sym b)

pub number_more : (width : Width) (bytes rest front after out : List ℕ) (n : ℕ) → HasRead (IsAsNumber width) bytes out rest → rest ≡ front ++ after → IsAsNumber width front n
    → HasRead (IsAsNumber width) bytes (out ++ n ∷ []) after
number_more width bytes rest front after out n read split is = HasRead-more (IsAsNumber width) (as_number_code width) bytes out rest front after n read split is

-- where a number is still to come, the bytes have it
pub one_more : (width : Width) (count i n : ℕ) → n ≡ as_width width * (count - i) → i < count → as_width width ≤ n
one_more Two count i n e lt = omega (arith, e, lt)
one_more Four count i n e lt = omega (arith, e, lt)

pub one_less : (width : Width) (count i n m : ℕ) → n ≡ as_width width * (count - i) → i < count → m + as_width width ≡ n → m ≡ as_width width * (count - (i + 1))
one_less Two count i n m e lt s = omega (arith, e, lt, s)
one_less Four count i n m e lt s = omega (arith, e, lt, s)

pub none_left : (width : Width) (count i n : ℕ) → n ≡ as_width width * (count - i) → count ≤ i → n ≡ 0
none_left Two count i n e ge = omega (arith, e, ge)
none_left Four count i n e ge = omega (arith, e, ge)

pub number_all : (width : Width) (bytes rest out : List ℕ) → HasRead (IsAsNumber width) bytes out rest → length rest ≡ 0 → AreAsNumbers width bytes out
number_all width bytes rest out read empty = HasRead-all (IsAsNumber width) bytes out (subst (λ (l : List ℕ). HasRead (IsAsNumber width) bytes out l) (nil_from_length rest empty) read)

-- as many numbers as the bytes have
number_count : (width : Width) (count n : ℕ) → as_width width * count ≡ as_width width * n → n ≡ count
number_count Two count n e = omega (arith, e)
number_count Four count n e = omega (arith, e)

pub segment_more : (width : Width) (bytes rest front after : List ℕ) (out : List SegmentValue) (kind : SegmentKind) (count : ℕ) (numbers : List ℕ)
    → HasRead (IsSegment width) bytes out rest → HasHeader width rest kind count → drop 2 rest ≡ front ++ after → length front ≡ as_width width * count → AreAsNumbers width front numbers
    → HasRead (IsSegment width) bytes (out ++ record { kind = kind; numbers = numbers } ∷ []) after
segment_more width bytes rest front after out kind count numbers read h split len are =
    let head = take 2 rest in
    let whole = head ++ front in
    let two : length head ≡ 2 = omega (arith, h.header, length-take 2 rest) in
    let long : 2 ≤ length whole = omega (arith, two, length-append head front) in
    let joined : rest ≡ whole ++ after = sym (take-append-drop 2 rest) ∙ ap (λ (l : List ℕ). head ++ l) split ∙ sym (append_assoc head front after) in
    let first : get_or whole 0 0 ≡ get_or rest 0 0 = sym (get_or_append_left whole after 0 0 (omega (arith, long))) ∙ ap (λ (l : List ℕ). get_or l 0 0) (sym joined) in
    let second : get_or whole 1 0 ≡ get_or rest 1 0 = sym (get_or_append_left whole after 0 1 (omega (arith, long))) ∙ ap (λ (l : List ℕ). get_or l 1 0) (sym joined) in
    let many : length numbers ≡ count = number_count width count (length numbers) (sym len ∙ length-AreAsNumbers width front numbers are) in
    let is : IsSegment width whole (record { kind = kind; numbers = numbers }) = record {
      header = long;
      kind_is = first ∙ h.kind_is;
      count_is = second ∙ h.count_is ∙ sym many;
      numbers_are = subst (λ (l : List ℕ). AreAsNumbers width l numbers) (sym (drop_at head front 2 two)) are;
    } in
    HasRead-more (IsSegment width) (segment_code width) bytes out rest whole after (record { kind = kind; numbers = numbers }) read joined is

pub segment_stuck : (width : Width) (bytes rest : List ℕ) (out : List SegmentValue) → HasRead (IsSegment width) bytes out rest → 0 < length rest
    → ((kind : SegmentKind) (count : ℕ) → HasHeader width rest kind count → ⊥) → (path : List SegmentValue) → ArePath width bytes path → ⊥
segment_stuck width bytes rest out read left none = HasRead-stuck (IsSegment width) bytes out rest read (λ e. omega (arith, left, ap length e)) none_here
  where
    none_here : (front after : List ℕ) (s : SegmentValue) → rest ≡ front ++ after → IsSegment width front s → ⊥
    none_here front after s split is =
        let first : get_or rest 0 0 ≡ get_or front 0 0 = ap (λ (l : List ℕ). get_or l 0 0) split ∙ get_or_append_left front after 0 0 (omega (arith, is.header)) in
        let second : get_or rest 1 0 ≡ get_or front 1 0 = ap (λ (l : List ℕ). get_or l 1 0) split ∙ get_or_append_left front after 0 1 (omega (arith, is.header)) in
        let long : length (drop 2 front) ≡ as_width width * length s.numbers = length-AreAsNumbers width (drop 2 front) s.numbers is.numbers_are in
        let room : length front + length after ≡ length rest = sym (length-append front after) ∙ sym (ap length split) in
        none s.kind (length s.numbers) (record {
          header = omega (arith, is.header, room);
          kind_is = first ∙ is.kind_is;
          count_is = second ∙ is.count_is;
          whole = omega (arith, long, room, is.header, length-drop 2 front);
        })

pub segment_all : (width : Width) (bytes rest : List ℕ) (out : List SegmentValue) → HasRead (IsSegment width) bytes out rest → length rest ≡ 0 → ArePath width bytes out
segment_all width bytes rest out read empty = HasRead-all (IsSegment width) bytes out (subst (λ (l : List ℕ). HasRead (IsSegment width) bytes out l) (nil_from_length rest empty) read)
