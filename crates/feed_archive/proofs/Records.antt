-- Records, one after another.
use Rattle.std.proofs.Common.{◌≡◌, inl, inr, ⊎_elim, ℕ, ◌+◌, ◌<◌, ◌≤◌, List, [], ◌∷◌, ◌++◌, length, get_or, take, drop, refl, sym, ◌∙◌, ap, arith, append_assoc, append-nil, length-append, length-drop, length-take, take-append-drop}
use Rattle.std.proofs.lemmas.List.{get_or_append_left, get_or-take, drop_at, drop-take, take-take, take_at}
use Rattle.byteorder.specs.Endian.{big_bytes}
use Rattle.byteorder.specs.Numbers.{big_number-reads_back, length-bytes_high_first}
use Rattle.bmp_specs.specs.Parts.{IsCode}
use Rattle.bmp_specs.specs.Sequence.{HasFront}
use Rattle.bmp_specs.specs.Frame.{stated}
use Rattle.bmp_specs.proofs.FrameCode.{stated-append}
use Rattle.bmp_specs.proofs.PrefixCode.{same_front}
use Rattle.feed_archive.specs.Archive.{IsRecord, BreaksRecord, joined, most_record}

record_one : (a b x y : List ℕ) (v w : List ℕ) → IsRecord a v → IsRecord b w → a ++ x ≡ b ++ y → (a ≡ b) × (v ≡ w)
record_one a b x y v w p q e =
    let sizes : length v ≡ length w =
    sym p.length_is ∙ sym (stated-append a x (omega (arith, p.whole))) ∙ ap (λ (l : List ℕ). stated l) e ∙ stated-append b y (omega (arith, q.whole)) ∙ q.length_is in
    let same : a ≡ b = same_front a b x y (omega (arith, p.whole, q.whole, sizes)) e in
    (same, sym p.piece_is ∙ ap (λ (l : List ℕ). drop 5 l) same ∙ q.piece_is)

pub record_code : IsCode IsRecord
record_code = record { some = λ v p. omega (arith, p.whole); one = record_one }

-- what a record stands at the front of begins with 1
pub record_first : (a x : List ℕ) (p : List ℕ) → IsRecord a p → get_or (a ++ x) 0 0 ≡ 1
record_first a x p is = get_or_append_left a x 0 0 (omega (arith, is.whole)) ∙ is.gate

-- the record of a piece
abbrev pub record_of : List ℕ → List ℕ
record_of piece = 1 ∷ (big_bytes 4 (length piece) ++ piece)

pub is_record : (piece : List ℕ) → length piece ≤ most_record → IsRecord (record_of piece) piece
is_record piece size =
    let four : length (big_bytes 4 (length piece)) ≡ 4 = length-bytes_high_first 4 (length piece) in
    record {
      whole = omega (arith, length-append (big_bytes 4 (length piece)) piece, four);
      gate = refl;
      length_is = big_number-reads_back 4 (length piece) piece (omega (arith, size));
      size = size;
      piece_is = drop_at (big_bytes 4 (length piece)) piece 4 four;
    }

pub length-record : (piece : List ℕ) → length piece ≤ most_record → length (record_of piece) ≡ 5 + length piece
length-record piece size = sym (is_record piece size).whole

pub joined-snoc : (pieces : List (List ℕ)) (piece : List ℕ) → joined (pieces ++ piece ∷ []) ≡ joined pieces ++ piece
joined-snoc [] piece = append-nil piece
joined-snoc (p ∷ pieces) piece = ap (λ (l : List ℕ). p ++ l) (joined-snoc pieces piece) ∙ sym (append_assoc p (joined pieces) piece)

-- where a record stands, by what a reader finds
pub record_here : (bytes : List ℕ) (n : ℕ) → get_or bytes 0 0 ≡ 1 → stated bytes ≡ n → n ≤ most_record → 5 + n ≤ length bytes
    → HasFront IsRecord bytes (take n (drop 5 bytes)) (drop (5 + n) bytes)
record_here bytes n gate is size within =
    let front = take (5 + n) bytes in
    let parts : bytes ≡ front ++ drop (5 + n) bytes = sym (take-append-drop (5 + n) bytes) in
    let long : length front ≡ 5 + n = omega (arith, length-take (5 + n) bytes, within) in
    let sized : length (take n (drop 5 bytes)) ≡ n = omega (arith, length-take n (drop 5 bytes), length-drop 5 bytes, within) in (
      front,
      record { joined = parts },
      record {
        whole = omega (arith, sized, long);
        gate = sym (get_or_append_left front (drop (5 + n) bytes) 0 0 (omega (arith, long))) ∙ ap (λ (l : List ℕ). get_or l 0 0) (sym parts) ∙ gate;
        length_is = sym (stated-append front (drop (5 + n) bytes) (omega (arith, long))) ∙ ap (λ (l : List ℕ). stated l) (sym parts) ∙ is ∙ sym sized;
        size = omega (arith, sized, size);
        piece_is = drop-take 5 n bytes;
      },
    )

-- the front says how long a record is
pub record_needs : (bytes piece rest : List ℕ) → HasFront IsRecord bytes piece rest → (stated bytes ≡ length piece) × (5 + length piece ≤ length bytes) × (length piece ≤ most_record)
record_needs bytes piece rest (front, split, is) =
    let stands : stated bytes ≡ stated front = ap (λ (l : List ℕ). stated l) split.joined ∙ stated-append front rest (omega (arith, is.whole)) in
    (stands ∙ is.length_is, omega (arith, ap length split.joined, length-append front rest, is.whole), is.size)

pub breaks_nil : BreaksRecord []
breaks_nil = record { no_record = λ piece rest h. omega (arith, (record_needs [] piece rest h).1); no_end = inl refl }

pub breaks_short : (bytes : List ℕ) → length bytes < 5 → get_or bytes 0 0 ≡ 1 → BreaksRecord bytes
breaks_short bytes short gate = record { no_record = λ piece rest h. omega (arith, (record_needs bytes piece rest h).1, short); no_end = inr gate }

pub breaks_long : (bytes : List ℕ) → get_or bytes 0 0 ≡ 1 → most_record < stated bytes → BreaksRecord bytes
breaks_long bytes gate long = record { no_record = λ piece rest h. omega (arith, (record_needs bytes piece rest h).0, (record_needs bytes piece rest h).2, long); no_end = inr gate }

pub breaks_cut : (bytes : List ℕ) → get_or bytes 0 0 ≡ 1 → length bytes < 5 + stated bytes → BreaksRecord bytes
breaks_cut bytes gate cut = record { no_record = λ piece rest h. omega (arith, (record_needs bytes piece rest h).0, (record_needs bytes piece rest h).1, cut); no_end = inr gate }

-- as many bytes as a record has, or more, say what stands at the front
pub stated_front : (bytes : List ℕ) (count : ℕ) → 5 ≤ count → count ≤ length bytes → stated (take count bytes) ≡ stated bytes
stated_front bytes count least l =
    sym (stated-append (take count bytes) (drop count bytes) (omega (arith, length-take count bytes, least, l))) ∙ ap (λ (x : List ℕ). stated x) (take-append-drop count bytes)

front_within : (bytes piece rest : List ℕ) (count : ℕ) → 5 + most_record ≤ count → HasFront IsRecord bytes piece rest → (more : List ℕ) × HasFront IsRecord (take count bytes) piece more
front_within bytes piece rest count most (front, split, is) =
    let n = length front in
    let within : n ≤ count = omega (arith, is.whole, is.size, most) in
    let first : take n (take count bytes) ≡ front = take-take n count bytes within ∙ ap (λ (x : List ℕ). take n x) split.joined ∙ take_at front rest n refl in
    let more = drop n (take count bytes) in
    (more, (front, record { joined = sym (take-append-drop n (take count bytes)) ∙ ap (λ (x : List ℕ). x ++ more) first }, is))

pub breaks_longer : (bytes : List ℕ) (count : ℕ) → 5 + most_record ≤ count → count ≤ length bytes → BreaksRecord (take count bytes) → BreaksRecord bytes
breaks_longer bytes count most l b = record {
  no_record = λ piece rest h. let w = front_within bytes piece rest count most h in b.no_record piece w.0 w.1;
  no_end = ⊎_elim
      (λ (e : take count bytes ≡ []). absurd (omega (arith, ap length e, length-take count bytes, most, l)))
      (λ (e : get_or (take count bytes) 0 0 ≡ 1). inr (sym (get_or-take count bytes 0 0 (omega (arith, most))) ∙ e))
      b.no_end;
}
