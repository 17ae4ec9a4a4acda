-- A write and a sync.
use Rattle.std.proofs.Common.{◌≡◌, ℕ, List, length, sym, ◌∙◌, ap, subst, ⊎_elim, arith, Result, Ok, Err}
use mathlib.Core.Bool.{true, false≢true}
use Rattle.std.specs.Result.{is_err}
use Rattle.std.specs.Prelude.{OnOk, OnErr}
use Rattle.wire_io.specs.declared.sink.Failed.{Failed}
use Rattle.disk_doors.specs.Images.{Moment, IsImage, IsTorn, settled, overwritten, AfterWrite}
use Rattle.disk_doors.specs.Disk.{DiskValue, WritesAt, Syncs, Passes}
use Rattle.disk_doors.specs.Put.{Puts}
use Rattle.disk_doors.proofs.Torn.{settled_image, torn_same, written_image, overwritten_torn}
use Rattle.disk_doors.proofs.Passing.{passes_none, passes_more, not_planned, sound_later}

on_err : (r : Result (Unit {0}) Failed) {P : Type 0} → P → OnErr r P
on_err (Ok u) p = tt
on_err (Err e) p = p

on_none : (r : Result (Unit {0}) Failed) (P : Type 0) → is_err r ≡ true → OnOk r P
on_none (Ok u) P h = absurd (false≢true h)
on_none (Err e) P h = tt

module _ (old : DiskValue) (place : ℕ) (piece : List ℕ) (kept : old.now ≡ settled old.now.file) where
  abbrev P : List ℕ → Type 0
  P = IsTorn old.now.file place (length piece)

  start : (c : List ℕ) → IsImage old.now c → P c
  start c i = subst P (sym (settled_image old.now.file c (subst (λ (m : Moment). IsImage m c) kept i))) (torn_same old.now.file place (length piece))

  written : (r : Result (Unit {0}) Failed) (made : Moment) → AfterWrite old.now place piece r made → (c : List ℕ) → IsImage made c → P c
  written r made w = written_image old.now.file place piece r made (subst (λ (m : Moment). AfterWrite m place piece r made) kept w)

  pub after_wrote : (mid : DiskValue) (r : Result (Unit {0}) Failed) → WritesAt old mid place piece r → Passes P old mid
  after_wrote mid r w = passes_more P old old mid w.made (passes_none P old start) w.next (written r w.made w.moment)

  pub puts_failed : (mid : DiskValue) (e : Failed) (r : Result (Unit {0}) Failed) → is_err r ≡ true → WritesAt old mid place piece (Err e) → Puts old mid place piece r
  puts_failed mid e r h w = record { passes = after_wrote mid (Err e) w; planned = on_err r (λ s. ⊎_elim (not_planned old _ s) (λ l. omega (arith, l, s.fits)) w.planned); done = on_none r _ h; few = omega (arith, ap (λ (d : DiskValue). d.calls) w.next) }

  pub puts_synced : (mid new : DiskValue) (u : Unit {0}) (r : Result (Unit {0}) Failed) → WritesAt old mid place piece (Ok u) → Syncs mid new r → Puts old new place piece r
  puts_synced mid new u (Ok v) w s =
      let first = after_wrote mid (Ok u) w in
      let file : mid.now.file ≡ overwritten old.now.file place piece = ap (λ (d : DiskValue). d.now.file) w.next ∙ ap (λ (m : Moment). m.file) w.moment in
      record {
        passes = passes_more P old mid new (settled mid.now.file) first s.next (λ c i. subst P (sym (settled_image mid.now.file c i ∙ file)) (overwritten_torn old.now.file place piece));
        planned = tt;
        done = ap (λ (d : DiskValue). d.now) s.next ∙ ap settled file;
        few = omega (arith, ap (λ (d : DiskValue). d.calls) w.next, ap (λ (d : DiskValue). d.calls) s.next);
      }
  puts_synced mid new u (Err e) w s =
      let first = after_wrote mid (Ok u) w in
      let now : mid.now ≡ w.made = ap (λ (d : DiskValue). d.now) w.next in
      record {
        passes = passes_more P old mid new mid.now first s.next (λ c i. written (Ok u) w.made w.moment c (subst (λ (m : Moment). IsImage m c) now i));
        planned = λ sound. not_planned mid _ (sound_later old mid _ first.lasts sound) s.planned;
        done = tt;
        few = omega (arith, ap (λ (d : DiskValue). d.calls) w.next, ap (λ (d : DiskValue). d.calls) s.next);
      }
