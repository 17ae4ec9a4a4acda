-- What a crash leaves of an archive in each of the two steps of an append.
use Rattle.std.proofs.Common.{◌≡◌, ◌≢◌, inl, inr, ℕ, ◌+◌, ◌≤◌, List, [], ◌∷◌, ◌++◌, length, get_or, take, drop, Some, refl, sym, ◌∙◌, ap, subst, arith, append_assoc, length-append}
use Rattle.std.specs.Prelude.{slice_get}
use Rattle.std.proofs.Math.Seq.{get_or-append_seam}
use Rattle.std.proofs.lemmas.Bool.{cases_eq}
use Rattle.std.proofs.lemmas.List.{take_at, drop_at, take-append-drop}
use Rattle.std.proofs.lemmas.Option.{slice_get-get_or}
use Rattle.byteorder.specs.Endian.{big_bytes}
use Rattle.bmp_specs.specs.Parts.{AreParts}
use Rattle.bmp_specs.proofs.PartsJoined.{parts_snoc}
use Rattle.disk_doors.specs.Images.{IsTorn, padded, overwritten}
use Rattle.feed_archive.specs.Archive.{IsRecord, IsArchive, joined, most_record, most_archive}
use Rattle.feed_archive.specs.Recovering.{Holds}
use Rattle.feed_archive.specs.Appending.{IsBeforeOrAfter}
use Rattle.feed_archive.proofs.OneContent.{seen_holds}
use Rattle.feed_archive.proofs.Records.{record_of, is_record, length-record, joined-snoc}
use Rattle.feed_archive.proofs.Windows.{at_place, torn_front, torn_back, overwritten_is, padded_long}

-- what is written after the gate
abbrev pub tail_of : List ℕ → List ℕ
tail_of piece = big_bytes 4 (length piece) ++ piece ++ 0 ∷ []

-- the record, and the byte 0 after it
open_split : (front more piece : List ℕ) → front ++ 1 ∷ (tail_of piece ++ more) ≡ (front ++ record_of piece) ++ 0 ∷ more
open_split front more piece = ap (λ (l : List ℕ). front ++ 1 ∷ l) (append_assoc (big_bytes 4 (length piece) ++ piece) (0 ∷ []) more) ∙ sym (append_assoc front (record_of piece) (0 ∷ more))

-- after records stands a gate, and a whole record without its gate: the gate says whether it counts
pub shut_is : (front more : List ℕ) (pieces : List (List ℕ)) (gate : ℕ) → AreParts IsRecord front pieces → gate ≢ 1 → IsArchive (front ++ gate ∷ more) pieces (length front)
shut_is front more pieces gate p c = record { front = front; gate = gate; rest = more; split = refl; records = p; closed = c; place_is = refl }

pub open_is : (front more : List ℕ) (pieces : List (List ℕ)) (piece : List ℕ) → AreParts IsRecord front pieces → length piece ≤ most_record
    → IsArchive (front ++ 1 ∷ (tail_of piece ++ more)) (pieces ++ piece ∷ []) (length front + 5 + length piece)
open_is front more pieces piece p size =
    record {
      front = front ++ record_of piece;
      gate = 0;
      rest = more;
      split = open_split front more piece;
      records = parts_snoc IsRecord front (record_of piece) pieces piece p (is_record piece size);
      closed = λ e. omega (arith, e);
      place_is = omega (arith, length-append front (record_of piece), length-record piece size);
    }

module _ (file : List ℕ) (pieces : List (List ℕ)) (place : ℕ) (a : IsArchive file pieces place) where
  length_file : length file ≡ place + 1 + length a.rest
  length_file = omega (arith, ap length a.split, length-append a.front (a.gate ∷ a.rest), a.place_is)

  front_and_gate : take (place + 1) file ≡ a.front ++ a.gate ∷ []
  front_and_gate =
      ap (λ (l : List ℕ). take (place + 1) l) (a.split ∙ sym (append_assoc a.front (a.gate ∷ []) a.rest))
      ∙ take_at (a.front ++ a.gate ∷ []) a.rest (place + 1) (omega (arith, length-append a.front (a.gate ∷ []), a.place_is))

  -- while the record is written after the gate, the archive stays
  pub staged_image : (size : ℕ) (c : List ℕ) → IsTorn file (place + 1) size c → IsArchive c pieces place
  staged_image size c t =
      let front : take (place + 1) c ≡ a.front ++ a.gate ∷ [] = torn_front file (place + 1) size c t (omega (arith, length_file)) ∙ front_and_gate in
      record {
        front = a.front;
        gate = a.gate;
        rest = drop (place + 1) c;
        split = sym (take-append-drop (place + 1) c) ∙ ap (λ (l : List ℕ). l ++ drop (place + 1) c) front ∙ append_assoc a.front (a.gate ∷ []) (drop (place + 1) c);
        records = a.records;
        closed = a.closed;
        place_is = a.place_is;
      }

  -- and then the record stands there whole
  pub staged_file : (piece : List ℕ) → (more : List ℕ) × (overwritten file (place + 1) (tail_of piece) ≡ a.front ++ a.gate ∷ (tail_of piece ++ more))
  staged_file piece =
      let long : length (a.front ++ a.gate ∷ []) ≡ place + 1 = omega (arith, length-append a.front (a.gate ∷ []), a.place_is) in
      let is = overwritten_is (a.front ++ a.gate ∷ []) (tail_of piece) file (omega (arith, long, length_file)) (ap (λ (n : ℕ). take n file) long ∙ front_and_gate) in
      (_, ap (λ (n : ℕ). overwritten file n (tail_of piece)) (sym long) ∙ is ∙ append_assoc a.front (a.gate ∷ []) _)

-- the file with a record after a gate
module _ (file : List ℕ) (front : List ℕ) (gate : ℕ) (piece more : List ℕ) (pieces : List (List ℕ)) (records : AreParts IsRecord front pieces) (size : length piece ≤ most_record) (fits : length front + 6 + length piece ≤ most_archive) (is : file ≡ front ++ gate ∷ (tail_of piece ++ more)) where
  long : length file ≡ length front + 1 + length (tail_of piece) + length more
  long = omega (arith, ap length is, length-append front (gate ∷ (tail_of piece ++ more)), length-append (tail_of piece) more)

  front_is : take (length front) file ≡ front
  front_is = ap (λ (l : List ℕ). take (length front) l) is ∙ take_at front (gate ∷ (tail_of piece ++ more)) (length front) refl

  behind : drop (length front + 1) file ≡ tail_of piece ++ more
  behind =
      ap (λ (l : List ℕ). drop (length front + 1) l) (is ∙ sym (append_assoc front (gate ∷ []) (tail_of piece ++ more)))
      ∙ drop_at (front ++ gate ∷ []) (tail_of piece ++ more) (length front + 1) (length-append front (gate ∷ []))

  tail_is : take (length (tail_of piece)) (drop (length front + 1) file) ≡ tail_of piece
  tail_is = ap (λ (l : List ℕ). take (length (tail_of piece)) l) behind ∙ take_at (tail_of piece) more (length (tail_of piece)) refl

  either : (g : ℕ) (after : List ℕ) → IsBeforeOrAfter (joined pieces) piece (front ++ g ∷ (tail_of piece ++ after))
  either g after = elim (cases_eq g 1) [
    | inl opened ↦
        let has = seen_holds (front ++ 1 ∷ (tail_of piece ++ after)) (pieces ++ piece ∷ []) (length front + 5 + length piece) (omega (arith, fits)) (open_is front after pieces piece records size) in
        let file_is : front ++ g ∷ (tail_of piece ++ after) ≡ front ++ 1 ∷ (tail_of piece ++ after) = ap (λ (n : ℕ). front ++ n ∷ (tail_of piece ++ after)) opened in
        inr (subst (λ (l : List ℕ). Holds l (joined pieces ++ piece)) (sym file_is) (subst (λ (w : List ℕ). Holds (front ++ 1 ∷ (tail_of piece ++ after)) w) (joined-snoc pieces piece) has))
    | inr shut ↦ inl (seen_holds (front ++ g ∷ (tail_of piece ++ after)) pieces (length front) (omega (arith, fits)) (shut_is front (tail_of piece ++ after) pieces g records shut))
  ]

  -- while the gate is written, the record counts or it doesn't
  pub gate_image : (c : List ℕ) → IsTorn file (length front) 1 c → IsBeforeOrAfter (joined pieces) piece c
  gate_image c t =
      let k = length (tail_of piece) in
      let g = get_or c (length front) 0 in
      let rest = drop (length front + 1) c in
      let after = drop k rest in
      let before : take (length front) c ≡ front = torn_front file (length front) 1 c t (omega (arith, long)) ∙ front_is in
      let tail : take k rest ≡ tail_of piece = torn_back file (length front) 1 k c t (omega (arith, long)) ∙ tail_is in
      let whole : c ≡ front ++ g ∷ (tail_of piece ++ after) =
      at_place c (length front) (omega (arith, long, t.no_shorter))
      ∙ ap (λ (l : List ℕ). l ++ g ∷ rest) before
      ∙ ap (λ (l : List ℕ). front ++ g ∷ l) (sym (take-append-drop k rest) ∙ ap (λ (l : List ℕ). l ++ after) tail) in
      subst (IsBeforeOrAfter (joined pieces) piece) (sym whole) (either g after)

  opened_is : overwritten file (length front) (1 ∷ []) ≡ front ++ 1 ∷ (tail_of piece ++ more)
  opened_is =
      let at = length front in
      let within : at + 1 ≤ length file = omega (arith, long) in
      let is = overwritten_is front (1 ∷ []) file (omega (arith, within)) front_is in
      let rest : drop (at + 1) (padded file (at + 1)) ≡ tail_of piece ++ more = ap (λ (l : List ℕ). drop (at + 1) l) (padded_long file (at + 1) within) ∙ behind in
      is ∙ ap (λ (l : List ℕ). front ++ 1 ∷ l) rest

  -- and then it counts
  pub opened_file : IsArchive (overwritten file (length front) (1 ∷ [])) (pieces ++ piece ∷ []) (length front + 5 + length piece)
  opened_file = subst (λ (l : List ℕ). IsArchive l (pieces ++ piece ∷ []) (length front + 5 + length piece)) (sym opened_is) (open_is front more pieces piece records size)

  -- and 0 closes it
  pub opened_zero : slice_get (overwritten file (length front) (1 ∷ [])) (length front + 5 + length piece) ≡ Some 0
  opened_zero =
      let before = front ++ record_of piece in
      let at : length before ≡ length front + 5 + length piece = omega (arith, length-append front (record_of piece), length-record piece size) in
      ap (λ (l : List ℕ). slice_get l (length front + 5 + length piece)) (opened_is ∙ open_split front more piece)
      ∙ ap (λ (n : ℕ). slice_get (before ++ 0 ∷ more) n) (sym at)
      ∙ slice_get-get_or (before ++ 0 ∷ more) (length before) 0 (omega (arith, length-append before (0 ∷ more)))
      ∙ ap (λ (n : ℕ). Some n) (get_or-append_seam before 0 more 0)
