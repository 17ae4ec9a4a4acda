-- An archive that was read and then synced.
use Rattle.std.proofs.Common.{◌≡◌, inl, inr, ℕ, List, [], ◌∷◌, length, length-append, arith, refl, sym, ◌∙◌, ap, subst, Result, Ok, Err}
use Rattle.wire_io.specs.declared.sink.Failed.{Failed as DiskFailed}
use Rattle.disk_doors.specs.Images.{Moment, IsImage, settled}
use Rattle.disk_doors.specs.Disk.{DiskValue, Rests, Syncs}
use Rattle.disk_doors.proofs.Torn.{settled_image}
use Rattle.disk_doors.proofs.Passing.{passes_rests, passes_more, lasts_then, goes_lasts}
use Rattle.feed_archive.specs.Archive.{IsArchive, joined}
use Rattle.feed_archive.specs.Recovering.{Holds, FaultFits, seen}
use Rattle.feed_archive.specs.Scanning.{IsPlain}
use Rattle.feed_archive.specs.Appending.{IsClosedAt, Keeps, Began, Refuses}
use Rattle.feed_archive.specs.declared.fault.RecoverFault.{RecoverFault}
use Rattle.feed_archive.specs.declared.fault.RecoverFault.TheVariants.{Failed, Damaged, TooLong, NoMemory}
use Rattle.feed_archive.proofs.OneContent.{seen_archive}
use Rattle.feed_archive.proofs.Empty.{settled_only, empty_content}

pub keeps_rests : (old new : DiskValue) → Rests old new → Keeps old new
keeps_rests old new r = record { keeps = λ w only. passes_rests (λ c. Holds c w) old new r only }

pub keeps_synced : (old mid new : DiskValue) (r : Result (Unit {0}) DiskFailed) → Rests old mid → Syncs mid new r → Keeps old new
keeps_synced old mid new (Ok u) rests s = record {
  keeps = λ w only.
      passes_more (λ c. Holds c w) old mid new (settled mid.now.file) (passes_rests (λ c. Holds c w) old mid rests only) s.next
      (λ c i. subst (λ (f : List ℕ). Holds f w) (sym (settled_image mid.now.file c i ∙ ap (λ (m : Moment). m.file) rests.now)) (only old.now.file (inl refl)));
}
keeps_synced old mid new (Err e) rests s = record {
  keeps = λ w only.
      passes_more (λ c. Holds c w) old mid new mid.now (passes_rests (λ c. Holds c w) old mid rests only) s.next (λ c i. only c (subst (λ (m : Moment). IsImage m c) rests.now i));
}

-- the disk of an archive that wasn't begun
pub refuses_rests : (old new : DiskValue) (fault : RecoverFault) → Rests old new → Refuses old new fault
refuses_rests old new Failed r = inl r
refuses_rests old new (Damaged offset) r = r
refuses_rests old new TooLong r = r
refuses_rests old new NoMemory r = r

pub refuses_synced : (old mid new : DiskValue) (e : DiskFailed) → Rests old mid → Syncs mid new (Err e) → Refuses old new Failed
refuses_synced old mid new e rests s = inr (record {
  now = ap (λ (d : DiskValue). d.now) s.next ∙ rests.now;
  past = ap (λ (d : DiskValue). d.past) s.next ∙ (λ i. rests.now i ∷ rests.past i);
  lasts = lasts_then old mid new rests.lasts (goes_lasts mid new mid.now s.next);
})

module _ (old mid new : DiskValue) (u : Unit {0}) (rests : Rests old mid) (s : Syncs mid new (Ok u)) where
  now_is : new.now ≡ settled old.now.file
  now_is = ap (λ (d : DiskValue). d.now) s.next ∙ ap (λ (m : Moment). settled m.file) rests.now

  file_is : new.now.file ≡ old.now.file
  file_is = ap (λ (m : Moment). m.file) now_is

  pub begun_closed : (pieces : List (List ℕ)) (place : ℕ) → IsArchive (seen old.now.file) pieces place → IsClosedAt new.now place
  begun_closed pieces place a = record {
    kept = now_is ∙ ap settled (sym file_is);
    pieces = pieces;
    is = subst (λ (f : List ℕ). IsArchive f pieces place) (sym file_is) (seen_archive old.now.file pieces place a);
  }

  pub begun : (pieces : List (List ℕ)) (place : ℕ) → IsArchive (seen old.now.file) pieces place → Began old new
  begun pieces place a =
      let has : Holds old.now.file (joined pieces) = record { pieces = pieces; place = place; is = a; content_is = refl } in
      record {
        now = now_is;
        past = ap (λ (d : DiskValue). d.past) s.next ∙ (λ i. rests.now i ∷ rests.past i);
        lasts = lasts_then old mid new rests.lasts (goes_lasts mid new (settled mid.now.file) s.next);
        content = joined pieces;
        had = has;
        only = settled_only new.now old.now.file (joined pieces) now_is has;
        keeps = keeps_synced old mid new (Ok u) rests s;
      }

-- an archive that was created, and to which nothing was appended
fresh_file : (d : DiskValue) → d.now ≡ settled (0 ∷ []) → d.now.file ≡ 0 ∷ []
fresh_file d is = ap (λ (m : Moment). m.file) is

pub fresh_plain : (d : DiskValue) (fault : RecoverFault) → d.now ≡ settled (0 ∷ []) → FaultFits d.now.file fault → IsPlain fault
fresh_plain d Failed is f = tt
fresh_plain d NoMemory is f = tt
fresh_plain d (Damaged offset) is f = f.2 [] (subst (λ (l : List ℕ). Holds l []) (sym (fresh_file d is)) empty_content)
fresh_plain d TooLong is f = f.1 [] (subst (λ (l : List ℕ). Holds l []) (sym (fresh_file d is)) empty_content)

pub fresh_place : (d : DiskValue) (pieces : List (List ℕ)) (place : ℕ) → d.now ≡ settled (0 ∷ []) → IsArchive (seen d.now.file) pieces place → place ≡ 0
fresh_place d pieces place is a =
    let whole = seen_archive d.now.file pieces place a in
    omega (arith, ap length (fresh_file d is), ap length whole.split, length-append whole.front (whole.gate ∷ whole.rest), whole.place_is)
