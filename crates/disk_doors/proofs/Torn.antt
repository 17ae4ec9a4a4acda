-- What a crash leaves of a file after a write.
use Rattle.std.proofs.Common.{◌≡◌, ◌⊎◌, inl, inr, ⊎_elim, ℕ, ◌+◌, ◌-◌, ◌<◌, ◌≤◌, List, [], ◌∷◌, ◌++◌, length, get_or, take, drop, refl, sym, ◌∙◌, ap, subst, arith, length-append, length-drop, Result, Ok, Err}
use Rattle.std.proofs.lemmas.List.{get_or_append_left, get_or-append_right, get_or-take, get_or-drop, length-take-le, length-replicate}
use Rattle.std.proofs.lemmas.Bool.{cases_lt}
use Rattle.wire_io.specs.declared.sink.Failed.{Failed}
use Rattle.disk_doors.specs.Images.{Range, Moment, MayLeave, IsImage, IsTorn, settled, padded, overwritten, with_range, unread, AfterWrite}
use Rattle.disk_doors.specs.Disk.{DiskValue, goes_to, IsPlanned, WritesAt}

pub settled_image : (file c : List ℕ) → IsImage (settled file) c → c ≡ file
settled_image file c i = ⊎_elim (λ e. e) (λ (l : MayLeave file [] c). l.synced refl) i

pub torn_same : (file : List ℕ) (place size : ℕ) → IsTorn file place size file
torn_same file place size = record { same = λ i l out. refl; no_shorter = omega arith }

module _ (file : List ℕ) (place : ℕ) (piece : List ℕ) where
  abbrev end : ℕ
  end = place + length piece

  abbrev long : List ℕ
  long = padded file end

  length_long : length long ≡ length file + (end - length file)
  length_long = length-append file _ ∙ ap (λ (n : ℕ). length file + n) (length-replicate (end - length file) 0)

  length_low : length (take place long) ≡ place
  length_low = length-take-le place long (omega (arith, length_long))

  length_front : length (take place long ++ piece) ≡ end
  length_front = length-append (take place long) piece ∙ ap (λ (n : ℕ). n + length piece) length_low

  before : (i : ℕ) → i < length file → i < place → get_or (overwritten file place piece) i 0 ≡ get_or file i 0
  before i within low =
      get_or_append_left (take place long ++ piece) (drop end long) 0 i (omega (arith, length_front))
      ∙ get_or_append_left (take place long) piece 0 i (omega (arith, length_low))
      ∙ get_or-take place long i 0 low
      ∙ get_or_append_left file _ 0 i within

  behind : (i : ℕ) → i < length file → end ≤ i → get_or (overwritten file place piece) i 0 ≡ get_or file i 0
  behind i within high =
      let there : end + (i - end) ≡ i = omega arith in
      get_or-append_right (take place long ++ piece) (drop end long) end i 0 length_front high
      ∙ get_or-drop end long (i - end) 0
      ∙ ap (λ (k : ℕ). get_or long k 0) there
      ∙ get_or_append_left file _ 0 i within

  outside : (i : ℕ) → i < length file → ((place ≤ i) × (i < end) → ⊥) → get_or (overwritten file place piece) i 0 ≡ get_or file i 0
  outside i within out = ⊎_elim (before i within) (λ h. ⊎_elim (λ l. absurd (out (h, l))) (behind i within) (cases_lt i end)) (cases_lt i place)

  pub overwritten_torn : IsTorn file place (length piece) (overwritten file place piece)
  overwritten_torn = record {
    same = outside;
    no_shorter = omega (arith, length-append (take place long ++ piece) (drop end long), length_front, length-drop end long, length_long);
  }

-- what may be left of a file that was all kept, with one range written
left_torn : (file : List ℕ) (place size : ℕ) (c : List ℕ) → MayLeave file (record { place = place; size = size } ∷ []) c → IsTorn file place size c
left_torn file place size c l = record { same = λ i low out. l.same i low (⊎_elim out (λ e. e)); no_shorter = l.no_shorter }

pub written_image : (file : List ℕ) (place : ℕ) (piece : List ℕ) (r : Result (Unit {0}) Failed) (made : Moment) → AfterWrite (settled file) place piece r made → (c : List ℕ) → IsImage made c → IsTorn file place (length piece) c
written_image file place piece (Ok u) made w c i =
    ⊎_elim (λ e. subst (IsTorn file place (length piece)) (sym (e ∙ ap (λ (m : Moment). m.file) w)) (overwritten_torn file place piece))
    (λ (l : MayLeave made.kept made.ranges c). left_torn file place (length piece) c (subst (λ (m : Moment). MayLeave m.kept m.ranges c) w l)) i
written_image file place piece (Err e) made t c i =
    ⊎_elim (λ e. subst (IsTorn file place (length piece)) (sym e) t.file)
    (λ (l : MayLeave made.kept made.ranges c). left_torn file place (length piece) c (subst (λ (k : List ℕ). MayLeave k (with_range place piece []) c) t.kept (subst (λ (rs : List Range). MayLeave made.kept rs c) t.ranges l))) i

pub kept_left : (file : List ℕ) → MayLeave file [] file
kept_left file = record { same = λ i low out. refl; no_shorter = omega arith; synced = λ e. refl }

-- what a write, broken off anywhere, may make of a file that a crash may leave, a crash may leave after it
more_left : (kept : List ℕ) (ranges : List Range) (file c : List ℕ) (place size : ℕ) → MayLeave kept ranges file → IsTorn file place size c → MayLeave kept (record { place = place; size = size } ∷ ranges) c
more_left kept ranges file c place size l t = record {
  same = λ k low out. t.same k (omega (arith, low, l.no_shorter)) (λ w. out (inl w)) ∙ l.same k low (λ w. out (inr w));
  no_shorter = omega (arith, l.no_shorter, t.no_shorter);
  synced = λ e. absurd cc;
}

pub cut_image : (old new : Moment) (place : ℕ) (piece c : List ℕ) (r : Result (Unit {0}) Failed) → AfterWrite old place piece r new → MayLeave old.kept old.ranges old.file → IsTorn old.file place (length piece) c → MayLeave new.kept new.ranges c
cut_image old new place piece c (Ok u) w l t = subst (λ (m : Moment). MayLeave m.kept m.ranges c) (sym w) (more_left old.kept old.ranges old.file c place (length piece) l t)
cut_image old new place piece c (Err e) w l t =
    subst (λ (k : List ℕ). MayLeave k new.ranges c) (sym w.kept) (subst (λ (rs : List Range). MayLeave old.kept rs c) (sym w.ranges) (more_left old.kept old.ranges old.file c place (length piece) l t))

pub file_left : (old new : Moment) (place : ℕ) (piece : List ℕ) (r : Result (Unit {0}) Failed) → AfterWrite old place piece r new → MayLeave old.kept old.ranges old.file → MayLeave new.kept new.ranges new.file
file_left old new place piece (Ok u) w l =
    cut_image old new place piece new.file (Ok u) w l (subst (IsTorn old.file place (length piece)) (sym (ap (λ (m : Moment). m.file) w)) (overwritten_torn old.file place piece))
file_left old new place piece (Err e) w l = cut_image old new place piece new.file (Err e) w l w.file

pub tore_at : (old new : DiskValue) (place : ℕ) (piece : List ℕ) (e : Failed) → new ≡ goes_to (unread old.now place piece) old → IsPlanned old ⊎ (old.room < place + length piece) → WritesAt old new place piece (Err e)
tore_at old new place piece e next cause = record { made = unread old.now place piece; next = next; moment = record { file = torn_same old.now.file place (length piece); kept = refl; ranges = refl }; planned = cause }
