-- Whether bytes are a path: one segment after another is passed, and any bytes are decided.
use Rattle.std.proofs.Common.{◌≡◌, ◌+◌, ◌*◌, ◌≤◌, ◌<◌, ◌⊎◌, ℕ, zero, suc, List, [], ◌∷◌, ◌++◌, length, take, drop, get_or, inl, inr, refl, sym, ap, subst, ◌∙◌, arith, mul-zero, mul-suc, length-append, length-drop, take-append-drop}
use Rattle.std.proofs.lemmas.Bool.{cases_eq, cases_lt}
use Rattle.std.proofs.lemmas.List.{nil_from_length, length-take-le}
use Rattle.byteorder.specs.Endian.{big_number}
use Rattle.bmp_specs.specs.declared.wire.Width.{Width}
use Rattle.bmp_specs.specs.declared.wire.SegmentKind.{SegmentKind}
use Rattle.bmp_specs.specs.declared.wire.SegmentKind.TheVariants.{Set, Sequence, ConfedSequence, ConfedSet}
use Rattle.bmp_specs.specs.AsPath.{as_width, segment_type, IsAsNumber, AreAsNumbers, IsSegment, ArePath}
use Rattle.bmp_specs.specs.Parts.{AreParts}
use Rattle.bmp_specs.specs.Values.{SegmentValue}
use Rattle.bmp_specs.proofs.PartsRead.{HasRead, HasRead-nil}
use Rattle.as_path.specs.Reading.{HasHeader}
use Rattle.as_path.proofs.Reading.{segment_more, segment_stuck, segment_all}

-- bytes are parts of one size, where any bytes of the size are a part
pub parts_there : {V : Type 0} (Is : List ℕ → V → Type 0) (size : ℕ) → ((front : List ℕ) → length front ≡ size → (v : V) × Is front v) → (count : ℕ) (bytes : List ℕ) → length bytes ≡ size * count
    → (vs : List V) × AreParts Is bytes vs
parts_there Is size one zero bytes e = ([], nil_from_length bytes (e ∙ mul-zero size))
parts_there Is size one (suc count) bytes e =
    let front = take size bytes in
    let after = drop size bytes in
    let long : length bytes ≡ size * count + size = e ∙ mul-suc size count in
    let first = one front (length-take-le size bytes (omega (arith, long))) in
    let later = parts_there Is size one count after (omega (arith, long, length-drop size bytes)) in
    (first.0 ∷ later.0, (front, after, record { joined = sym (take-append-drop size bytes) }, first.1, later.1))

-- bytes of the right number are AS numbers
pub numbers_there : (width : Width) (count : ℕ) (bytes : List ℕ) → length bytes ≡ as_width width * count → (asns : List ℕ) × AreAsNumbers width bytes asns
numbers_there width = parts_there (IsAsNumber width) (as_width width) (λ front len. (big_number (as_width width) front, record { len = len; value = refl }))

-- the bytes are the segments of this path, so many, and then the rest
pub record HasSegments (width : Width) (bytes rest : List ℕ) (found : ℕ) : Type 0 where
  pub path : List SegmentValue
  pub read : HasRead (IsSegment width) bytes path rest
  pub count_is : found ≡ length path
  pub room : found + length rest ≤ length bytes

pub segments_first : (width : Width) (bytes : List ℕ) → HasSegments width bytes bytes 0
segments_first width bytes = record { path = []; read = HasRead-nil (IsSegment width) bytes; count_is = refl; room = omega arith }

-- the segment that a header announces was passed
pub segments_more : (width : Width) (bytes rest asns after : List ℕ) (kind : SegmentKind) (found count size : ℕ) → HasSegments width bytes rest found → HasHeader width rest kind count
    → asns ≡ drop 2 rest → size ≡ as_width width → after ≡ drop (size * count) asns → HasSegments width bytes after (found + 1)
segments_more width bytes rest asns after kind found count size s h behind wide is =
    let long = as_width width * count in
    let all = drop 2 rest in
    let front = take long all in
    let room : long ≤ length all = omega (arith, h.whole, length-drop 2 rest) in
    let len : length front ≡ long = length-take-le long all room in
    let numbers = numbers_there width count front len in
    let others : after ≡ drop long all = is ∙ ap (λ (n : ℕ). drop (n * count) asns) wide ∙ ap (λ (l : List ℕ). drop long l) behind in
    let split : all ≡ front ++ after = sym (take-append-drop long all) ∙ ap (λ (l : List ℕ). front ++ l) (sym others) in
    record {
      path = s.path ++ record { kind = kind; numbers = numbers.0 } ∷ [];
      read = segment_more width bytes rest front after s.path kind count numbers.0 s.read h split len numbers.1;
      count_is = omega (arith, s.count_is, length-append s.path (record { kind = kind; numbers = numbers.0 } ∷ []));
      room = omega (arith, s.room, h.header, ap length split, length-append front after, length-drop 2 rest);
    }

pub segments_stuck : (width : Width) (bytes rest : List ℕ) (found : ℕ) → HasSegments width bytes rest found → 0 < length rest → ((kind : SegmentKind) (count : ℕ) → HasHeader width rest kind count → ⊥)
    → (path : List SegmentValue) → ArePath width bytes path → ⊥
segments_stuck width bytes rest found s left none path are = segment_stuck width bytes rest s.path s.read left none path are

pub segments_end : (width : Width) (bytes rest : List ℕ) (found : ℕ) → HasSegments width bytes rest found → length rest ≡ 0 → (path : List SegmentValue) × ArePath width bytes path × (found ≡ length path)
segments_end width bytes rest found s empty = (s.path, segment_all width bytes rest s.path s.read empty, s.count_is)

-- once no segment stands at what is left of a path, all its segments were read
pub path_all : (width : Width) (bytes rest : List ℕ) (out : List SegmentValue) (found : ℕ) → (path : List SegmentValue) × ArePath width bytes path × (found ≡ length path) → HasRead (IsSegment width) bytes out rest
    → ((kind : SegmentKind) (count : ℕ) → HasHeader width rest kind count → ⊥) → ArePath width bytes out
path_all width bytes rest out found p read none = elim (cases_eq (length rest) 0) [
  | inl empty ↦ segment_all width bytes rest out read empty
  | inr left ↦ absurd (segment_stuck width bytes rest out read (omega (arith, left)) none p.0 p.1)
]

-- Whether bytes are a path is decided.

kind_decides : (n : ℕ) → ((kind : SegmentKind) × (n ≡ segment_type kind)) ⊎ ((kind : SegmentKind) → n ≡ segment_type kind → ⊥)
kind_decides n = elim (cases_eq n 1) [
  | inl set ↦ inl (Set, set)
  | inr no_set ↦ elim (cases_eq n 2) [
    | inl sequence ↦ inl (Sequence, sequence)
    | inr no_sequence ↦ elim (cases_eq n 3) [
      | inl confed_sequence ↦ inl (ConfedSequence, confed_sequence)
      | inr no_confed_sequence ↦ elim (cases_eq n 4) [
        | inl confed_set ↦ inl (ConfedSet, confed_set)
        | inr no_confed_set ↦ inr (none no_set no_sequence no_confed_sequence no_confed_set)
      ]
    ]
  ]
]
  where
    none : (n ≡ 1 → ⊥) → (n ≡ 2 → ⊥) → (n ≡ 3 → ⊥) → (n ≡ 4 → ⊥) → (kind : SegmentKind) → n ≡ segment_type kind → ⊥
    none a b c d Set e = a e
    none a b c d Sequence e = b e
    none a b c d ConfedSequence e = c e
    none a b c d ConfedSet e = d e

header_decides : (width : Width) (bytes : List ℕ) → ((kind : SegmentKind) × (count : ℕ) × HasHeader width bytes kind count) ⊎ ((kind : SegmentKind) (count : ℕ) → HasHeader width bytes kind count → ⊥)
header_decides width bytes = elim (cases_lt (length bytes) 2) [
  | inl short ↦ inr (λ kind count h. omega (arith, short, h.header))
  | inr long ↦ elim (kind_decides (get_or bytes 0 0)) [
    | inr none ↦ inr (λ kind count h. none kind h.kind_is)
    | inl found ↦ elim (cases_lt (length bytes) (2 + as_width width * get_or bytes 1 0)) [
      | inl short ↦ inr (λ kind count h. cut_short short count h.count_is h.whole)
      | inr whole ↦ inl (found.0, get_or bytes 1 0, record { header = long; kind_is = found.1; count_is = refl; whole = whole })
    ]
  ]
]
  where
    cut_short : length bytes < 2 + as_width width * get_or bytes 1 0 → (count : ℕ) → get_or bytes 1 0 ≡ count → 2 + as_width width * count ≤ length bytes → ⊥
    cut_short short count is whole =
        let other : 2 + as_width width * get_or bytes 1 0 ≤ length bytes = subst (λ (n : ℕ). 2 + as_width width * n ≤ length bytes) (sym is) whole in
        omega (arith, short, other)

-- bytes are a path, or they are none
abbrev pub IsDecided : Width → List ℕ → Type 0
IsDecided width bytes = ((path : List SegmentValue) × ArePath width bytes path) ⊎ ((path : List SegmentValue) → ArePath width bytes path → ⊥)

decided_after : (width : Width) (bytes after : List ℕ) (found : ℕ) → HasSegments width bytes after found → IsDecided width after → IsDecided width bytes
decided_after width bytes after found s (inl (path, are)) = inl (s.path ++ path, s.read.sound path are)
decided_after width bytes after found s (inr none) = inr (λ path are. let q = s.read.only path are in none q.0 q.2)

pub path_decides : (width : Width) (bytes : List ℕ) → IsDecided width bytes
path_decides width bytes = within (length bytes) bytes (omega arith)
  where
    within : (n : ℕ) (b : List ℕ) → length b ≤ n → IsDecided width b
    within zero b le = inl ([], nil_from_length b (omega (arith, le)))
    within (suc n) [] le = inl ([], refl)
    within (suc n) (x ∷ b) le =
        elim (header_decides width (x ∷ b)) [
          | inr none ↦ inr (segments_stuck width (x ∷ b) (x ∷ b) 0 (segments_first width (x ∷ b)) (omega arith) none)
          | inl h ↦
              let after = drop (as_width width * h.1) (drop 2 (x ∷ b)) in
              let shorter : length after ≤ n = omega (arith, le, length-drop (as_width width * h.1) (drop 2 (x ∷ b)), length-drop 2 (x ∷ b)) in
              decided_after width (x ∷ b) after 1
              (segments_more width (x ∷ b) (x ∷ b) (drop 2 (x ∷ b)) after h.0 0 h.1 (as_width width) (segments_first width (x ∷ b)) h.2 refl refl refl)
              (within n after shorter)
        ]
