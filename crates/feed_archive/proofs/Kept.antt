-- What is kept of what a port gave, call by call.
use Rattle.std.proofs.Common.{◌≡◌, inl, inr, ⊎_elim, ℕ, zero, suc, ◌+◌, ◌*◌, ◌<◌, ◌≤◌, length, List, [], ◌∷◌, ◌++◌, refl, sym, ◌∙◌, ap, subst, append_assoc, append-nil, length-append, arith, Option, None, Some, Err}
use mathlib.Core.Bool.{Bool, true, false, false≢true}
use Rattle.bmp_specs.specs.Life.{most_read}
use Rattle.disk_doors.specs.Images.{Moment, IsImage}
use Rattle.disk_doors.specs.Disk.{DiskValue, moments, AllImages, Passes, Lasts}
use Rattle.disk_doors.specs.Note.{Event}
use Rattle.disk_doors.proofs.Passing.{passes_none, passes_then, passes_weaker, rests_none, lasts_none, lasts_then, sound_later, sound_smaller}
use Rattle.wire_io.specs.Aside.{Aside}
use Rattle.feed_archive.specs.Archive.{HasContent}
use Rattle.feed_archive.specs.Recovering.{Holds, HasOnly}
use Rattle.feed_archive.specs.Appending.{IsBeforeOrAfter, AppendCause, AppendAnswers, AppendPlanned, ArchiveValue}
use Rattle.feed_archive.specs.declared.fault.AppendFault.{AppendFault}
use Rattle.feed_archive.specs.declared.fault.AppendFault.TheVariants.{Failed as DiskFailed, Full, Stopped}
use Rattle.wire_io.specs.Faults.{Rose}
use Rattle.std.specs.Option.{is_some}
use Rattle.feed_archive.proofs.OneContent.{seen_archive}
use Rattle.feed_archive.specs.Keeping.{gave, lost, is_refused, failures, keep_aside, told_by, HasFrontOf, HasBetween, Ran, HasKept, KeepCause, KeepsExactly, KeepsDisk, KeepsGoing, KeepsPlace}

pub kept_new : (tells : Type 0) (d : DiskValue) → HasKept tells d d []
kept_new tells d = record {
  run = λ t first only.
      let has : (c : List ℕ) → IsImage d.now c → Holds c (first ++ []) = λ c i. subst (λ (w : List ℕ). Holds c w) (sym (append-nil first)) (only c i) in
      record {
        over = rests_none d;
        any_moment = passes_none (HasFrontOf first []) d (λ c i. record { front = []; back = []; parts = refl; has = has c i });
        present = λ c i. inl (has c i);
      };
  none = λ e. refl;
  small = omega arith;
}

-- the images at the last moment
passes_now : (P : List ℕ → Type 0) (a b : DiskValue) → Passes P a b → (c : List ℕ) → IsImage b.now c → P c
passes_now P a b p = at p.made p.since p.each
  where
    first_of : List Moment → Moment → Moment
    first_of [] d = d
    first_of (m ∷ ms) d = m

    at : (made : List Moment) → moments b ≡ made ++ moments a → AllImages P made → (c : List ℕ) → IsImage b.now c → P c
    at [] e each c i = p.start c (subst (λ (m : Moment). IsImage m c) (ap (λ (l : List Moment). first_of l b.now) e) i)
    at (m ∷ ms) e each c i = each.0 c (subst (λ (n : Moment). IsImage n c) (ap (λ (l : List Moment). first_of l b.now) e) i)

front_more : (first given more c : List ℕ) → HasFrontOf first given c → HasFrontOf first (given ++ more) c
front_more first given more c h = record { front = h.front; back = h.back ++ more; parts = ap (λ (l : List ℕ). l ++ more) h.parts ∙ append_assoc h.front h.back more; has = h.has }

front_either : (first given piece c : List ℕ) → IsBeforeOrAfter (first ++ given) piece c → HasFrontOf first (given ++ piece) c
front_either first given piece c (inl has) = record { front = given; back = piece; parts = refl; has = has }
front_either first given piece c (inr has) = record { front = given ++ piece; back = []; parts = sym (append-nil (given ++ piece)); has = subst (λ (w : List ℕ). Holds c w) (append_assoc first given piece) has }

between_either : (first given piece c : List ℕ) → IsBeforeOrAfter (first ++ given) piece c → HasBetween first given (given ++ piece) c
between_either first given piece c (inl has) = record { front = []; back = piece; parts = ap (λ (l : List ℕ). l ++ piece) (sym (append-nil given)); has = subst (λ (w : List ℕ). Holds c w) (sym (append-nil (first ++ given))) has }
between_either first given piece c (inr has) = record { front = piece; back = []; parts = sym (append-nil (given ++ piece)); has = has }

-- what is noted of a later read and of an opening changes nothing
pub kept_on : (k : ℕ) (tells : Type 0) (made now : DiskValue) (es : List Event) → HasKept tells made now es → HasKept tells made now ((suc (suc k), 0, []) ∷ es)
kept_on k tells made now es h = record {
  run = λ t first only.
      let r = h.run t first only in
      record {
        over = (now, r.over, passes_none (HasBetween first (gave es) (gave es ++ lost es)) now (λ c i. between_either first (gave es) (lost es) c (r.present c i)));
        any_moment = r.any_moment;
        present = r.present;
      };
  none = h.none;
  small = h.small;
}

-- nothing is written
pub exact_new : (tells : Type 0) (d : DiskValue) (refused : Option AppendFault) → KeepsExactly tells d d [] refused
exact_new tells d refused = record { exact = λ t first only not. λ c i. subst (λ (w : List ℕ). Holds c w) (sym (append-nil first)) (only c i) }

pub exact_on : (k : ℕ) (tells : Type 0) (made now : DiskValue) (es : List Event) (refused : Option AppendFault) → KeepsExactly tells made now es refused → KeepsExactly tells made now ((suc (suc k), 0, []) ∷ es) refused
exact_on k tells made now es refused h = record { exact = λ t first only not. h.exact t first only not }

-- only a disk that fails changes
pub refused_same : {D : Type 0} (shows : D → DiskValue) (old new : ArchiveValue D) (size : ℕ) (fault : AppendFault) → AppendAnswers old new size (Err fault) → (fault ≡ DiskFailed → ⊥) → (shows new.disk).now ≡ (shows old.disk).now
refused_same shows old new size DiskFailed a not = absurd (not refl)
refused_same shows old new size Full a not = ap (λ (v : ArchiveValue _). (shows v.disk).now) a.2
refused_same shows old new size Stopped a not = ap (λ (v : ArchiveValue _). (shows v.disk).now) a.1

pub between_rest : (tells : Type 0) (made now : DiskValue) (es : List Event) → HasKept tells made now es → tells → (first : List ℕ) → HasOnly made.now first → Passes (HasBetween first (gave es) (gave es ++ lost es)) now now
between_rest tells made now es h t first only = passes_none (HasBetween first (gave es) (gave es ++ lost es)) now (λ c i. between_either first (gave es) (lost es) c ((h.run t first only).present c i))

-- what a crash inside a read leaves, between these notes and those
abbrev pub InRead : Type 0 → DiskValue → List Event → List Event → DiskValue → DiskValue → Type 0
InRead tells made es fs old new = tells → (first : List ℕ) → HasOnly made.now first → Passes (HasBetween first (gave es) (gave fs ++ lost fs)) old new

pub in_rest : (k : ℕ) (tells : Type 0) (made now : DiskValue) (es fs : List Event) → HasKept tells made now es → fs ≡ (suc (suc k), 0, []) ∷ es → InRead tells made es fs now now
in_rest k tells made now es fs h is = subst (λ (l : List Event). InRead tells made es l now now) (sym is) (between_rest tells made now es h)

module _ (tells : Type 0) (made old new : DiskValue) (es : List Event) (piece : List ℕ) (h : HasKept tells made old es) (fine : is_refused es ≡ false)
    (any : tells → (w : List ℕ) → HasOnly old.now w → Passes (IsBeforeOrAfter w piece) old new) where
  module _ (t : tells) (first : List ℕ) (only : HasOnly made.now first) where
    abbrev given : List ℕ
    given = gave es

    r : Ran first es made old
    r = h.run t first only

    pub only_old : HasOnly old.now (first ++ given)
    only_old c i = ⊎_elim (λ has. has) (λ has. subst (λ (w : List ℕ). Holds c w) (ap (λ (l : List ℕ). first ++ given ++ l) (h.none fine) ∙ append-nil (first ++ given)) has) (r.present c i)

    so_far : Passes (HasFrontOf first (given ++ piece)) made old
    so_far =
        let whole : given ++ lost es ≡ given = ap (λ (l : List ℕ). given ++ l) (h.none fine) ∙ append-nil given in
        passes_weaker (HasFrontOf first given) (HasFrontOf first (given ++ piece)) made old (front_more first given piece)
        (subst (λ (x : List ℕ). Passes (HasFrontOf first x) made old) whole r.any_moment)

    goes_on : Passes (HasFrontOf first (given ++ piece)) made new
    goes_on =
        passes_then (HasFrontOf first (given ++ piece)) made old new so_far
        (passes_weaker (IsBeforeOrAfter (first ++ given) piece) (HasFrontOf first (given ++ piece)) old new (front_either first given piece) (any t (first ++ given) only_old))

  pub between_step : tells → (first : List ℕ) → HasOnly made.now first → Passes (HasBetween first (gave es) (gave es ++ piece)) old new
  between_step t first only = passes_weaker (IsBeforeOrAfter (first ++ gave es) piece) (HasBetween first (gave es) (gave es ++ piece)) old new (between_either first (gave es) piece) (any t (first ++ gave es) (only_old t first only))

  pub between_gave : tells → (first : List ℕ) → HasOnly made.now first → Passes (HasBetween first (gave es) ((gave es ++ piece) ++ lost es)) old new
  between_gave t first only =
      let whole : (gave es ++ piece) ++ lost es ≡ gave es ++ piece = ap (λ (l : List ℕ). (gave es ++ piece) ++ l) (h.none fine) ∙ append-nil (gave es ++ piece) in
      subst (λ (x : List ℕ). Passes (HasBetween first (gave es) x) old new) (sym whole) (between_step t first only)

  pub in_gave : (fs : List Event) → fs ≡ (0, 0, piece) ∷ es → InRead tells made es fs old new
  in_gave fs is = subst (λ (l : List Event). InRead tells made es l old new) (sym is) between_gave

  pub in_lost : (fs : List Event) → fs ≡ (1, 0, piece) ∷ es → InRead tells made es fs old new
  in_lost fs is = subst (λ (l : List Event). InRead tells made es l old new) (sym is) between_step

  -- a piece was appended and given
  pub kept_gave : (tells → (w : List ℕ) → HasOnly old.now w → HasOnly new.now (w ++ piece)) → HasKept tells made new ((0, 0, piece) ∷ es)
  kept_gave kept = record {
    run = λ t first only.
        let whole : (gave es ++ piece) ++ lost es ≡ gave es ++ piece = ap (λ (l : List ℕ). (gave es ++ piece) ++ l) (h.none fine) ∙ append-nil (gave es ++ piece) in
        record {
          over = (old, (h.run t first only).over, between_gave t first only);
          any_moment = subst (λ (x : List ℕ). Passes (HasFrontOf first x) made new) (sym whole) (goes_on t first only);
          present = λ c i. inl (subst (λ (w : List ℕ). Holds c w) (append_assoc first (gave es) piece) (kept t (first ++ gave es) (only_old t first only) c i));
        };
    none = λ e. h.none fine;
    small = h.small;
  }

  pub exact_gave : (refused : Option AppendFault) → (tells → (w : List ℕ) → HasOnly old.now w → HasOnly new.now (w ++ piece)) → KeepsExactly tells made new ((0, 0, piece) ∷ es) refused
  exact_gave refused kept = record { exact = λ t first only not. λ c i. subst (λ (w : List ℕ). Holds c w) (append_assoc first (gave es) piece) (kept t (first ++ gave es) (only_old t first only) c i) }

  pub exact_lost : (fault : AppendFault) → ((fault ≡ DiskFailed → ⊥) → new.now ≡ old.now) → KeepsExactly tells made new ((1, 0, piece) ∷ es) (Some fault)
  exact_lost fault same = record { exact = λ t first only not. λ c i. only_old t first only c (subst (λ (m : Moment). IsImage m c) (same (λ e. not (ap Some e))) i) }

  -- a piece was refused
  pub kept_lost : length piece ≤ most_read → HasKept tells made new ((1, 0, piece) ∷ es)
  kept_lost small = record {
    run = λ t first only.
        record {
          over = (old, (h.run t first only).over, between_step t first only);
          any_moment = goes_on t first only;
          present = passes_now (IsBeforeOrAfter (first ++ gave es) piece) old new (any t (first ++ gave es) (only_old t first only));
        };
    none = λ e. absurd (false≢true (sym e));
    small = small;
  }

-- the count of the disk, where an append was refused
pub cause_refused : (made old new : ℕ) (fault : AppendFault) → old ≡ made → AppendCause old new (Err fault) → KeepCause made new (Some fault)
cause_refused made old new DiskFailed e c = (omega (arith, e, c.0), subst (λ (n : ℕ). Rose n new) e c.1)
cause_refused made old new Full e c = c ∙ e
cause_refused made old new Stopped e c = c ∙ e

pub cause_none : (made old : ℕ) (refused : Option AppendFault) → is_some refused ≡ false → KeepCause made old refused → old ≡ made
cause_none made old None e c = c
cause_none made old (Some fault) e c = absurd (false≢true (sym e))

pub cause_kept : (made old new : ℕ) (refused : Option AppendFault) → is_some refused ≡ false → KeepCause made old refused → new ≡ old → KeepCause made new refused
cause_kept made old new None e c same = same ∙ c
cause_kept made old new (Some fault) e c same = absurd (false≢true (sym e))

-- the disk's plan and room, and why an append failed
pub disk_new : (tells : Type 0) (d : DiskValue) (place : ℕ) (refused : Option AppendFault) → (refused ≡ Some DiskFailed → ⊥) → KeepsDisk tells d d place [] refused
disk_new tells d place refused not = record { lasts = λ t. lasts_none d; planned = λ t e sound. not e }

pub disk_on : (k : ℕ) (tells : Type 0) (made now : DiskValue) (place : ℕ) (es : List Event) (refused : Option AppendFault) → KeepsDisk tells made now place es refused → KeepsDisk tells made now place ((suc (suc k), 0, []) ∷ es) refused
disk_on k tells made now place es refused d = record { lasts = d.lasts; planned = d.planned }

pub disk_gave : (tells : Type 0) (made old new : DiskValue) (place : ℕ) (es : List Event) (piece : List ℕ) (refused : Option AppendFault) → is_some refused ≡ false → KeepsDisk tells made old place es refused → (tells → Lasts old new) → KeepsDisk tells made new place ((0, 0, piece) ∷ es) refused
disk_gave tells made old new place es piece None e d l = record { lasts = λ t. lasts_then made old new (d.lasts t) (l t); planned = λ t is sound. absurd cc }
disk_gave tells made old new place es piece (Some fault) e d l = absurd (false≢true (sym e))

more_room : (made old gave piece : ℕ) → old ≤ made + 6 * gave → 0 < piece → old + 6 + piece ≤ made + 6 * (gave + piece) + 1
more_room made old gave piece small some = omega (arith, small, some)

pub disk_lost : (tells : Type 0) (made old new : DiskValue) (first place : ℕ) (es : List Event) (piece : List ℕ) (refused : Option AppendFault) (fault : AppendFault) → is_some refused ≡ false → KeepsDisk tells made old first es refused → KeepsPlace first place es refused
    → (tells → Lasts old new) → (tells → AppendPlanned old (place + 6 + length piece) (Err fault)) → 0 < length piece → KeepsDisk tells made new first ((1, 0, piece) ∷ es) (Some fault)
disk_lost tells made old new first place es piece (Some other) fault e d p l a some = absurd (false≢true (sym e))
disk_lost tells made old new first place es piece None DiskFailed e d p l a some = record {
  lasts = λ t. lasts_then made old new (d.lasts t) (l t);
  planned = λ t is sound.
      let room : place + 6 + length piece ≤ first + 6 * length (gave es ++ piece) + 1 = omega (arith, more_room first place (length (gave es)) (length piece) (p.small (λ f. absurd cc)) some, length-append (gave es) piece) in
      a t (sound_smaller old (place + 6 + length piece) (first + 6 * length (gave es ++ piece) + 1) room (sound_later made old (first + 6 * length (gave es ++ piece) + 1) (d.lasts t) sound));
}
disk_lost tells made old new first place es piece None Full e d p l a some = record { lasts = λ t. lasts_then made old new (d.lasts t) (l t); planned = λ t is sound. absurd cc }
disk_lost tells made old new first place es piece None Stopped e d p l a some = record { lasts = λ t. lasts_then made old new (d.lasts t) (l t); planned = λ t is sound. absurd cc }

-- whether the archive has stopped
pub going_new : (made : Bool) → KeepsGoing made made None
going_new made = record { same = λ e. refl; stopped = λ e. absurd cc }

pub going_gave : (made old new : Bool) (refused : Option AppendFault) → KeepsGoing made old refused → old ≡ false → new ≡ false → KeepsGoing made new refused
going_gave made old new refused g before after = record { same = λ e. after ∙ sym before ∙ g.same e; stopped = g.stopped }

pub going_lost : {D : Type 0} (made : Bool) (old new : ArchiveValue D) (size : ℕ) (refused : Option AppendFault) (fault : AppendFault) → is_some refused ≡ false → KeepsGoing made old.stopped refused → AppendAnswers old new size (Err fault) → KeepsGoing made new.stopped (Some fault)
going_lost made old new size (Some other) fault e g a = absurd (false≢true (sym e))
going_lost made old new size None DiskFailed e g a = record { same = λ not. absurd (not refl); stopped = λ is. absurd cc }
going_lost made old new size None Full e g a = record { same = λ not. ap (λ (v : ArchiveValue _). v.stopped) a.2 ∙ g.same (λ f. absurd cc); stopped = λ is. absurd cc }
going_lost made old new size None Stopped e g a = record { same = λ not. ap (λ (v : ArchiveValue _). v.stopped) a.1 ∙ g.same (λ f. absurd cc); stopped = λ is. sym (g.same (λ f. absurd cc)) ∙ a.0 }

-- each refused piece, and each read after it, counts among the reads that failed
failures_some : (es : List Event) → is_refused es ≡ true → 0 < failures es
failures_some [] e = absurd (cc e)
failures_some ((zero, m, b) ∷ es) e = failures_some es e
failures_some ((suc zero, m, b) ∷ es) e = omega arith
failures_some ((suc (suc zero), m, b) ∷ es) e = omega (arith, failures_some es e)
failures_some ((suc (suc (suc k)), m, b) ∷ es) e = failures_some es e

pub refused_counts : (inner base : Aside) (es : List Event) → is_refused es ≡ true → inner.read_faults < (keep_aside inner base es).read_faults
refused_counts inner base es e = subst (λ (b : Bool). inner.read_faults < (told_by b inner base es).read_faults) (sym e) (omega (arith, failures_some es e))

-- the file as it reads has the content that each file has which a crash may leave
pub file_content : (m : Moment) (content : List ℕ) → HasOnly m content → HasContent m.file content
file_content m content only =
    let has = only m.file (inl refl) in
    record { pieces = has.pieces; place = has.place; is = seen_archive m.file has.pieces has.place has.is; content_is = has.content_is }
