-- The moments that are made where an archive is created.
use Rattle.std.proofs.Common.{ℕ, [], ◌∷◌, ◌∙◌, ap, subst, arith, Result, Ok, Err}
use Rattle.wire_io.specs.declared.sink.Failed.{Failed}
use Rattle.disk_doors.specs.Images.{Moment, AfterWrite, after_sync}
use Rattle.disk_doors.specs.Disk.{DiskValue, moments, Sizes, WritesAt, Syncs}
use Rattle.feed_archive.specs.Creating.{Makes, WriteFails, WritesAndSyncs}

-- the size was asked for
pub makes_none : (old new : DiskValue) (r : Result ℕ Failed) → Sizes old new r → Makes old new []
makes_none old new r size = record { since = ap moments size.next; few = omega (arith, ap (λ (d : DiskValue). d.calls) size.next) }

module _ (old sized mid : DiskValue) (n : ℕ) (size : Sizes old sized (Ok n)) where
  -- the write that comes next is one of the disk as it was
  of_old : (r : Result (Unit {0}) Failed) (made : Moment) → AfterWrite sized.now 0 (0 ∷ []) r made → AfterWrite old.now 0 (0 ∷ []) r made
  of_old r made w = subst (λ (m : Moment). AfterWrite m 0 (0 ∷ []) r made) (ap (λ (d : DiskValue). d.now) size.next) w

  pub write_fails : (e : Failed) → WritesAt sized mid 0 (0 ∷ []) (Err e) → WriteFails old mid
  write_fails e w = record {
    why = e;
    torn = w.made;
    write = of_old (Err e) w.made w.moment;
    made = record {
      since = ap moments w.next ∙ ap (λ (d : DiskValue). w.made ∷ moments d) size.next;
      few = omega (arith, ap (λ (d : DiskValue). d.calls) size.next, ap (λ (d : DiskValue). d.calls) w.next);
    };
  }

  pub writes_and_syncs : (new : DiskValue) (u : Unit {0}) (r : Result (Unit {0}) Failed) → WritesAt sized mid 0 (0 ∷ []) (Ok u) → Syncs mid new r → WritesAndSyncs old new r
  writes_and_syncs new u r w s = record {
    written = w.made;
    write = of_old (Ok u) w.made w.moment;
    made = record {
      since = ap moments s.next ∙ ap (λ (d : DiskValue). after_sync d.now r ∷ moments d) w.next ∙ ap (λ (d : DiskValue). after_sync w.made r ∷ w.made ∷ moments d) size.next;
      few = omega (arith, ap (λ (d : DiskValue). d.calls) size.next, ap (λ (d : DiskValue). d.calls) w.next, ap (λ (d : DiskValue). d.calls) s.next);
    };
  }
