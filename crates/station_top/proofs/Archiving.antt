-- What `archive` comes to, from what its steps say.
use Rattle.std.proofs.Common.{◌≡◌, ◌⊎◌, ℕ, List, [], ◌∷◌, ◌++◌, Option, Some, None, Ok, Err, refl, sym, ap, ◌∙◌, subst, inl, inr, arith}
use Rattle.disk_doors.proofs.Passing.{lasts_then, sound_later, sound_smaller}
use Rattle.disk_doors.specs.Disk.{DiskValue}
use Rattle.disk_doors.specs.Images.{Moment}
use Rattle.feed_archive.proofs.Empty.{empty_archive}
use Rattle.feed_archive.proofs.OneContent.{content_one, place_one}
use Rattle.feed_archive.specs.Appending.{Began, IsClosedAt, Refuses}
use Rattle.feed_archive.specs.Archive.{IsArchive}
use Rattle.feed_archive.specs.Recovering.{FaultCause, FaultFits, FaultPlanned, HasOnly, seen}
use Rattle.feed_archive.specs.Scanning.{IsPlain}
use Rattle.feed_archive.specs.declared.fault.AppendFault.TheVariants as append
use Rattle.feed_archive.specs.declared.fault.RecoverFault.{RecoverFault}
use Rattle.feed_archive.specs.declared.fault.RecoverFault.TheVariants as recover
use Rattle.bmp_specs.specs.Meaning.{Meaning}
use Rattle.wire_io.specs.declared.sink.Failed.{Failed}
use Rattle.wire_io.specs.Aside.{Aside, Plan}
use Rattle.station_doors.proofs.DiskPaths.{disk_put, with_twice}
use Rattle.station_doors.specs.Disks.{HandsOutDisk, TakesDiskBack}
use Rattle.station_doors.specs.Doors.{DiskAt, DiskShown, HandsOut, TakesBack, YardValue, one_more, untouched}
use Rattle.station_top.specs.ArchiveRuns.{ArchiveConcludes, HandsBoth, HandsEmpty, HasCreated, HasNotBegun, IsBegun, IsKept, IsTakenIn, KeepsFor, KeepsFront, KeepsInput, LendsBothWhereTold, OnArchive, RefusesPortWhereTold, diskless, portless}
use Rattle.station_top.specs.RecallRuns.{RefusesDisk}
use Rattle.station_top.specs.declared.archive.Kept.{Kept}
use Rattle.station_top.specs.declared.archive.Kept.TheVariants as kept
use Rattle.station_top.specs.declared.status.Status.TheVariants.{YardFault}

-- the yard handed out the disk and the port, and took both back
pub lends_both : {P D : Type 0} (Is : Plan → Aside → DiskShown → DiskShown → Type 0) (aside : P → Aside) (calls : P → ℕ) (tells : Type 0) (shows : D → DiskValue) (faults : D → ℕ) (path : List ℕ) (old a b c new : Option YardValue) (number : ℕ) (port : P) (disk : D) (after : Aside) (back : DiskShown)
    → HandsOutDisk tells shows faults path number old a (Ok disk) → HandsOut aside calls 0 (one_more number) a b (Ok port) → HandsBoth tells (aside port) (calls port) (record { value = shows disk; faults = faults disk }) after back Is → TakesBack 0 after b c → TakesDiskBack path back c new → LendsBothWhereTold Is path old new number
lends_both Is aside calls tells shows faults path None a b c new number port disk after back h p uses t d =
    let p1 = subst (λ (m : Option YardValue). HandsOut aside calls 0 (one_more number) m b (Ok port)) h p in
    let t1 = subst (λ (m : Option YardValue). TakesBack 0 after m c) p1 t in
    subst (λ (m : Option YardValue). TakesDiskBack path back m new) t1 d
lends_both Is aside calls tells shows faults path (Some old) a b c new number port disk after back h p uses t d =
    let p1 = subst (λ (m : Option YardValue). HandsOut aside calls 0 (one_more number) m b (Ok port)) h.3 p in
    let t1 = subst (λ (m : Option YardValue). TakesBack 0 after m c) p1.4 t in
    let d1 = subst (λ (m : Option YardValue). TakesDiskBack path back m new) (t1.lent (0, omega arith, refl)) d in
    record {
      planned = h.0;
      lent = record { value = shows disk; faults = faults disk };
      stood = h.2;
      port_planned = p1.0;
      plan = p1.1;
      waiting = p1.2;
      first = p1.3;
      shows = after;
      back = back;
      given_back = d1.lent (disk_put path None (Some (record { value = shows disk; faults = faults disk })) old.disks h.2)
          ∙ ap (λ (l : List DiskAt). Some (record old { ports = p1.2; back = old.back ++ record { lane = 0; shows = after } ∷ []; disks = l })) (with_twice path (Some back) None old.disks);
      is = uses h.1 p1.1 p1.5 p1.6;
    }

-- it handed out the disk, refused the port, and took the disk back
pub refuses_port : {P D : Type 0} (aside : P → Aside) (calls : P → ℕ) (tells : Type 0) (shows : D → DiskValue) (faults : D → ℕ) (path : List ℕ) (old a b new : Option YardValue) (number : ℕ) (e : Failed) (disk : D)
    → HandsOutDisk tells shows faults path number old a (Ok disk) → HandsOut aside calls 0 (one_more number) a b (Err e) → TakesDiskBack path (record { value = shows disk; faults = faults disk }) b new → RefusesPortWhereTold path old new number
refuses_port aside calls tells shows faults path None a b new number e disk h p d =
    let p1 = subst (λ (m : Option YardValue). HandsOut aside calls 0 (one_more number) m b (Err e)) h p in
    subst (λ (m : Option YardValue). TakesDiskBack path (record { value = shows disk; faults = faults disk }) m new) p1 d
refuses_port aside calls tells shows faults path (Some old) a b new number e disk h p d =
    let p1 = subst (λ (m : Option YardValue). HandsOut aside calls 0 (one_more number) m b (Err e)) h.3 p in
    let d1 = subst (λ (m : Option YardValue). TakesDiskBack path (record { value = shows disk; faults = faults disk }) m new) p1.1 d in
    record {
      planned = h.0;
      lent = record { value = shows disk; faults = faults disk };
      stood = h.2;
      refused = p1.0;
      given_back = d1.lent (disk_put path None (Some (record { value = shows disk; faults = faults disk })) old.disks h.2)
          ∙ ap (λ (l : List DiskAt). Some (record old { disks = l })) (with_twice path (Some (record { value = shows disk; faults = faults disk })) None old.disks);
    }

-- what holds of what was handed back holds where that follows
taken_where : (meaning : Meaning) (U V : (Plan → Aside → DiskShown → DiskShown → Type 0) → Type 0) → ((Is : Plan → Aside → DiskShown → DiskShown → Type 0) → U Is → V Is) → (k : Kept) → IsTakenIn meaning U k → IsTakenIn meaning V k
taken_where meaning U V f (kept.Uncreated why) t = absurd t
taken_where meaning U V f (kept.Unbegun why) t = absurd t
taken_where meaning U V f kept.Starved t = f (KeepsFront meaning) t
taken_where meaning U V f (kept.Whole bytes cause) t = (t.0, t.1, t.2, t.3, t.4, f (KeepsInput meaning t.0 t.1 cause) t.5)
taken_where meaning U V f (kept.CutOff bytes append.Failed) t = (t.0, t.1, t.2, f (KeepsFor append.Failed t.0) t.3)
taken_where meaning U V f (kept.CutOff bytes append.Full) t = (t.0, t.1, t.2, f (KeepsFor append.Full t.0) t.3)
taken_where meaning U V f (kept.CutOff bytes append.Stopped) t = absurd t

pub kept_where : (meaning : Meaning) (U V : (Plan → Aside → DiskShown → DiskShown → Type 0) → Type 0) → ((Is : Plan → Aside → DiskShown → DiskShown → Type 0) → U Is → V Is) → (k : Kept) → IsKept meaning U k → IsKept meaning V k
kept_where meaning U V f (kept.Uncreated why) t = f (λ plan shows lent back. (shows ≡ untouched plan) × HasCreated (Err why) lent back) t
kept_where meaning U V f (kept.Unbegun why) t = f (λ plan shows lent back. (shows ≡ untouched plan) × HasNotBegun why lent back) t
kept_where meaning U V f kept.Starved t = taken_where meaning (λ Is. U (OnArchive Is)) (λ Is. V (OnArchive Is)) (λ Is. f (OnArchive Is)) kept.Starved t
kept_where meaning U V f (kept.Whole bytes cause) t = taken_where meaning (λ Is. U (OnArchive Is)) (λ Is. V (OnArchive Is)) (λ Is. f (OnArchive Is)) (kept.Whole bytes cause) t
kept_where meaning U V f (kept.CutOff bytes why) t = taken_where meaning (λ Is. U (OnArchive Is)) (λ Is. V (OnArchive Is)) (λ Is. f (OnArchive Is)) (kept.CutOff bytes why) t

-- what was taken into an archive that had just been begun, was kept in one
pub kept_on : (meaning : Meaning) (U V : (Plan → Aside → DiskShown → DiskShown → Type 0) → Type 0) → ((Is : Plan → Aside → DiskShown → DiskShown → Type 0) → U Is → V (OnArchive Is)) → (k : Kept) → IsTakenIn meaning U k → IsKept meaning V k
kept_on meaning U V f (kept.Uncreated why) t = absurd t
kept_on meaning U V f (kept.Unbegun why) t = absurd t
kept_on meaning U V f kept.Starved t = taken_where meaning U (λ Is. V (OnArchive Is)) f kept.Starved t
kept_on meaning U V f (kept.Whole bytes cause) t = taken_where meaning U (λ Is. V (OnArchive Is)) f (kept.Whole bytes cause) t
kept_on meaning U V f (kept.CutOff bytes why) t = taken_where meaning U (λ Is. V (OnArchive Is)) f (kept.CutOff bytes why) t

-- an archive that was created was begun
pub is_begun : (lent made begun : DiskShown) → HasCreated (Ok tt) lent made → Began made.value begun.value → begun.faults ≡ made.faults → IsBegun lent begun
is_begun lent made begun c b calm = record {
  made = made;
  created = c;
  began = b;
  only = subst (λ (l : List ℕ). HasOnly begun.value.now l) (content_one (seen made.value.now.file) b.content [] b.had (c.creates.1 made.value.now.file (inl refl))) b.only;
  lasts = lasts_then lent.value made.value begun.value c.lasts b.lasts;
  calm = calm ∙ c.cause;
}

-- it is closed at its first byte
pub begun_place : (lent made begun : DiskShown) (place : ℕ) → HasCreated (Ok tt) lent made → Began made.value begun.value → IsClosedAt begun.value.now place → place ≡ 0
begun_place lent made begun place c b closed =
    let file : begun.value.now.file ≡ 0 ∷ [] = ap (λ (m : Moment). m.file) b.now ∙ ap (λ (m : Moment). m.file) c.creates.2 in
    (place_one (0 ∷ []) closed.pieces [] place 0 (subst (λ (l : List ℕ). IsArchive l closed.pieces place) file closed.is) empty_archive).1

same_now : (old new : DiskValue) (why : RecoverFault) → Refuses old new why → new.now ≡ old.now
same_now old new recover.Failed (inl rests) = rests.now
same_now old new recover.Failed (inr repeats) = repeats.now
same_now old new (recover.Damaged offset) rests = rests.now
same_now old new recover.TooLong rests = rests.now
same_now old new recover.NoMemory rests = rests.now

-- an archive that was created was not begun
pub has_not_begun : (why : RecoverFault) (lent made back : DiskShown) → HasCreated (Ok tt) lent made → Refuses made.value back.value why → FaultFits made.value.now.file why → FaultPlanned made.value why → FaultCause made.faults back.faults why → HasNotBegun why lent back
has_not_begun why lent made back c did fits planned cause = record {
  made = made;
  created = c;
  did = did;
  only = subst (λ (m : Moment). HasOnly m []) (sym (same_now made.value back.value why did)) c.creates.1;
  plain = plain why fits;
  planned = λ is sound. subst (λ (w : RecoverFault). FaultPlanned made.value w) is planned (sound_later lent.value made.value 0 c.lasts (sound_smaller lent.value 0 1 (omega arith) sound));
  cause = subst (λ (n : ℕ). FaultCause n back.faults why) c.cause cause;
}
  where
    plain : (w : RecoverFault) → FaultFits made.value.now.file w → IsPlain w
    plain recover.Failed f = tt
    plain (recover.Damaged offset) f = absurd (f.2 [] (c.creates.1 made.value.now.file (inl refl)))
    plain recover.TooLong f = absurd (f.1 [] (c.creates.1 made.value.now.file (inl refl)))
    plain recover.NoMemory f = tt

-- what was taken into the archive that was created and begun
pub begun_on : (meaning : Meaning) (tells : Type 0) (first : Aside) (calls : ℕ) (lent made begun : DiskShown) (place : ℕ) (shows : Aside) (back : DiskShown) (k : Kept) → (tells → HasCreated (Ok tt) lent made) → (tells → Began made.value begun.value) → begun.faults ≡ made.faults → (tells → IsClosedAt begun.value.now place)
    → IsTakenIn meaning (HandsEmpty tells first calls begun place shows back) k → IsKept meaning (HandsBoth tells first calls lent shows back) k
begun_on meaning tells first calls lent made begun place shows back k created began calm closed taken =
    kept_on meaning (HandsEmpty tells first calls begun place shows back) (HandsBoth tells first calls lent shows back)
    (λ Is h t plan u z. (begun, is_begun lent made begun (created t) (began t) calm, h t (is_begun lent made begun (created t) (began t) calm).only (begun_place lent made begun place (created t) (began t) (closed t)) plan u z)) k taken

-- the yard refused the disk or the port
pub archive_refused : (meaning : Meaning) (path : List ℕ) (old new : Option YardValue) (number calls : ℕ) (told : Option (List ℕ)) → (RefusesDisk path old new number × (calls ≡ one_more number)) ⊎ (RefusesPortWhereTold path old new number × (calls ≡ one_more (one_more number)))
    → ArchiveConcludes meaning path old new number calls told told YardFault
archive_refused meaning path old new number calls told (inl r) = diskless r.0 r.1 refl refl
archive_refused meaning path old new number calls told (inr r) = portless r.0 r.1 refl refl
