-- The first octets of a list, where more comes behind it.
use Rattle.std.proofs.Common.{◌≡◌, inl, inr, ℕ, ◌+◌, ◌<◌, ◌≤◌, List, ◌++◌, length, take, drop, sym, ap, ◌∙◌, arith, length-take}
use Rattle.std.proofs.lemmas.Bool.{cases_lt}
use Rattle.std.proofs.lemmas.List.{take_all, take-take, take-append-le, drop-append-le}
use Rattle.std.proofs.Math.Seq.{drop-append-add, take-append-add}
use Rattle.feed_worker.specs.Front.{IsFront}

-- what there is room for
pub take_room : (xs ys : List ℕ) (room n : ℕ) → length xs + room ≡ n → take n (xs ++ ys) ≡ xs ++ take room ys
take_room xs ys room n full = ap (λ (k : ℕ). take k (xs ++ ys)) (sym full) ∙ take-append-add xs ys room

take_first : (xs ys : List ℕ) (n : ℕ) → take n (take n xs ++ ys) ≡ take n (xs ++ ys)
take_first xs ys n = elim (cases_lt (length xs) n) [
  | inl short ↦ ap (λ (l : List ℕ). take n (l ++ ys)) (take_all n xs (omega (arith, short)))
  | inr long ↦ take-append-le n (take n xs) ys (omega (arith, length-take n xs, long)) ∙ take-take n n xs (omega arith) ∙ sym (take-append-le n xs ys (omega (arith, long)))
]

-- the messages end where they ended
pub front_more : (bytes piece octets : List ℕ) (offset : ℕ) → offset ≤ length bytes → IsFront bytes offset octets → IsFront (bytes ++ piece) offset (take 64 (octets ++ piece))
front_more bytes piece octets offset within f = ap (λ (l : List ℕ). take 64 (l ++ piece)) f ∙ take_first (drop offset bytes) piece 64 ∙ ap (λ (l : List ℕ). take 64 l) (sym (drop-append-le offset bytes piece within))

-- the messages end in the piece
pub front_in_piece : (bytes piece : List ℕ) (skipped offset : ℕ) → length bytes + skipped ≡ offset → IsFront (bytes ++ piece) offset (take 64 (drop skipped piece))
front_in_piece bytes piece skipped offset place = ap (λ (l : List ℕ). take 64 l) (sym (ap (λ (n : ℕ). drop n (bytes ++ piece)) (sym place) ∙ drop-append-add bytes piece skipped))
