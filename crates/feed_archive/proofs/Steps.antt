-- The two steps of an append, each a write and a sync.
use Rattle.std.proofs.Common.{◌≡◌, inl, ℕ, ◌+◌, ◌≤◌, List, [], ◌∷◌, ◌++◌, length, refl, sym, ◌∙◌, ap, subst, arith, Some, Result, Ok}
use Rattle.std.specs.Prelude.{slice_get}
use Rattle.wire_io.specs.declared.sink.Failed.{Failed}
use Rattle.disk_doors.specs.Images.{Moment, IsTorn, settled, overwritten}
use Rattle.disk_doors.specs.Disk.{DiskValue, Passes}
use Rattle.disk_doors.specs.Put.{Puts}
use Rattle.disk_doors.proofs.Passing.{passes_none, passes_weaker, passes_then}
use Rattle.feed_archive.specs.Archive.{IsArchive, joined, most_record, most_archive}
use Rattle.feed_archive.specs.Recovering.{Holds, HasOnly, seen}
use Rattle.feed_archive.specs.Appending.{IsClosedAt, IsZeroAt, IsBeforeOrAfter}
use Rattle.feed_archive.proofs.Records.{joined-snoc}
use Rattle.feed_archive.proofs.OneContent.{content_one, seen_holds}
use Rattle.feed_archive.proofs.Empty.{settled_only}
use Rattle.feed_archive.proofs.Appended.{tail_of, staged_image, staged_file, gate_image, opened_file, opened_zero}

-- nothing was done
pub unappended : (content piece : List ℕ) (d : DiskValue) → HasOnly d.now content → Passes (IsBeforeOrAfter content piece) d d
unappended content piece d only = passes_none (IsBeforeOrAfter content piece) d (λ c i. inl (only c i))

module _ (old : DiskValue) (place : ℕ) (piece : List ℕ) (size : length piece ≤ most_record) (fits : place + 6 + length piece ≤ most_archive) (closed : IsClosedAt old.now place) where
  abbrev file : List ℕ
  file = old.now.file

  fits_front : length closed.is.front + 6 + length piece ≤ most_archive
  fits_front = omega (arith, fits, closed.is.place_is)

  staged : (mid : DiskValue) (bytes : List ℕ) (u : Unit {0}) → bytes ≡ tail_of piece → Puts old mid (place + 1) bytes (Ok u)
      → (more : List ℕ) × (mid.now.file ≡ closed.is.front ++ closed.is.gate ∷ (tail_of piece ++ more))
  staged mid bytes u is p =
      let s = staged_file file closed.pieces place closed.is piece in
      (s.0, ap (λ (m : Moment). m.file) p.done ∙ ap (λ (b : List ℕ). overwritten file (place + 1) b) is ∙ s.1)

  opened : (mid new : DiskValue) (bytes : List ℕ) (u v : Unit {0}) → bytes ≡ tail_of piece → Puts old mid (place + 1) bytes (Ok u) → Puts mid new place (1 ∷ []) (Ok v)
      → IsArchive (overwritten mid.now.file place (1 ∷ [])) (closed.pieces ++ piece ∷ []) (place + 5 + length piece)
  opened mid new bytes u v is p q =
      let s = staged mid bytes u is p in
      subst (λ (n : ℕ). IsArchive (overwritten mid.now.file n (1 ∷ [])) (closed.pieces ++ piece ∷ []) (n + 5 + length piece)) closed.is.place_is
      (opened_file mid.now.file closed.is.front closed.is.gate piece s.0 closed.pieces closed.is.records size fits_front s.1)

  -- after both the archive is closed after the record
  pub closed_again : (mid new : DiskValue) (bytes : List ℕ) (u v : Unit {0}) → bytes ≡ tail_of piece → Puts old mid (place + 1) bytes (Ok u) → Puts mid new place (1 ∷ []) (Ok v)
      → IsClosedAt new.now (place + 5 + length piece)
  closed_again mid new bytes u v is p q =
      let same = ap (λ (m : Moment). m.file) q.done in
      record {
        kept = q.done ∙ ap settled (sym same);
        pieces = closed.pieces ++ piece ∷ [];
        is = subst (λ (f : List ℕ). IsArchive f (closed.pieces ++ piece ∷ []) (place + 5 + length piece)) (sym same) (opened mid new bytes u v is p q);
      }

  -- by the byte 0
  pub zero_again : (mid new : DiskValue) (bytes : List ℕ) (u v : Unit {0}) → bytes ≡ tail_of piece → Puts old mid (place + 1) bytes (Ok u) → Puts mid new place (1 ∷ []) (Ok v)
      → IsZeroAt new.now (place + 5 + length piece)
  zero_again mid new bytes u v is p q =
      let s = staged mid bytes u is p in
      ap (λ (m : Moment). slice_get m.file (place + 5 + length piece)) q.done
      ∙ subst (λ (n : ℕ). slice_get (overwritten mid.now.file n (1 ∷ [])) (n + 5 + length piece) ≡ Some 0) closed.is.place_is
      (opened_zero mid.now.file closed.is.front closed.is.gate piece s.0 closed.pieces closed.is.records size fits_front s.1)

  module _ (content : List ℕ) (only : HasOnly old.now content) where
    content_is : joined closed.pieces ≡ content
    content_is =
        content_one (seen file) (joined closed.pieces) content (seen_holds file closed.pieces place (omega (arith, fits)) closed.is) (only file (inl refl))

    -- the record is written after the gate
    pub first_step : (mid : DiskValue) (bytes : List ℕ) (r : Result (Unit {0}) Failed) → Puts old mid (place + 1) bytes r → Passes (IsBeforeOrAfter content piece) old mid
    first_step mid bytes r p =
        passes_weaker (IsTorn file (place + 1) (length bytes)) (IsBeforeOrAfter content piece) old mid
        (λ c t. inl (subst (λ (w : List ℕ). Holds c w) content_is (seen_holds c closed.pieces place (omega (arith, fits)) (staged_image file closed.pieces place closed.is (length bytes) c t)))) p.passes

    -- the gate is written
    pub second_step : (mid new : DiskValue) (bytes : List ℕ) (u : Unit {0}) (r : Result (Unit {0}) Failed) → bytes ≡ tail_of piece → Puts old mid (place + 1) bytes (Ok u) → Puts mid new place (1 ∷ []) r
        → Passes (IsBeforeOrAfter content piece) old new
    second_step mid new bytes u r is p q =
        let s = staged mid bytes u is p in
        passes_then (IsBeforeOrAfter content piece) old mid new (first_step mid bytes (Ok u) p)
        (passes_weaker (IsTorn mid.now.file place 1) (IsBeforeOrAfter content piece) mid new (λ c t.
        subst (λ (w : List ℕ). IsBeforeOrAfter w piece c) content_is (gate_image mid.now.file closed.is.front closed.is.gate piece s.0 closed.pieces closed.is.records size fits_front s.1 c
        (subst (λ (n : ℕ). IsTorn mid.now.file n 1 c) (sym closed.is.place_is) t))) q.passes)

    -- and kept
    pub kept_again : (mid new : DiskValue) (bytes : List ℕ) (u v : Unit {0}) → bytes ≡ tail_of piece → Puts old mid (place + 1) bytes (Ok u) → Puts mid new place (1 ∷ []) (Ok v)
        → HasOnly new.now (content ++ piece)
    kept_again mid new bytes u v is p q =
        let has = seen_holds (overwritten mid.now.file place (1 ∷ [])) (closed.pieces ++ piece ∷ []) (place + 5 + length piece) (omega (arith, fits)) (opened mid new bytes u v is p q) in
        settled_only new.now (overwritten mid.now.file place (1 ∷ [])) (content ++ piece) q.done
        (subst (λ (w : List ℕ). Holds (overwritten mid.now.file place (1 ∷ [])) w) (joined-snoc closed.pieces piece ∙ ap (λ (w : List ℕ). w ++ piece) content_is) has)
