-- Reading an archive, record by record.
use Rattle.std.proofs.Common.{◌≡◌, ◌≢◌, ⊎_elim, ℕ, ◌+◌, ◌-◌, ◌<◌, ◌≤◌, min, List, [], ◌∷◌, ◌++◌, length, get_or, take, drop, refl, sym, ◌∙◌, ap, subst, arith, length-append, length-take, length-drop, take-append-drop, Bool, true, Result, Ok}
use Rattle.std.proofs.lemmas.Bool.{cases_lt}
use Rattle.std.proofs.lemmas.List.{get_or-take, get_or-drop, drop-take, drop-drop, take-take, take_at, take_all, drop_all, nil_from_length}
use Rattle.std.proofs.Math.Seq.{take-add}
use Rattle.bmp_specs.specs.Parts.{AreParts}
use Rattle.bmp_specs.proofs.PartsJoined.{parts_snoc}
use Rattle.feed_archive.specs.Archive.{IsRecord, IsArchive, BreaksRecord, IsDamagedAt, joined, most_archive}
use Rattle.feed_archive.specs.Recovering.{FaultFits, FaultCause, FaultPlanned, seen}
use Rattle.disk_doors.specs.Images.{Moment}
use Rattle.disk_doors.specs.Disk.{DiskValue, Rests, Lasts}
use Rattle.disk_doors.proofs.Passing.{sound_later}
use Rattle.feed_archive.specs.declared.scanning.Found.{Found}
use Rattle.feed_archive.specs.Scanning.{WindowValue, IsPart, Covers, rest_of, Finds, FitsEnd, Takes, IsPlain, IsDamage, HasScanned}
use Rattle.feed_archive.specs.declared.fault.RecoverFault.{RecoverFault}
use Rattle.feed_archive.specs.declared.fault.RecoverFault.TheVariants.{Failed, Damaged, TooLong, NoMemory}
use Rattle.feed_archive.specs.declared.scanning.Found.TheVariants.{Record, Closed, Broken}
use Rattle.feed_archive.proofs.Records.{record_here, stated_front, breaks_nil, breaks_longer, joined-snoc}
use Rattle.feed_archive.proofs.Windows.{at_place}
use Rattle.feed_archive.proofs.OneContent.{damaged_none}

rest_is : (file : List ℕ) (end place : ℕ) → place ≤ end → rest_of file end place ≡ take (end - place) (drop place file)
rest_is file end place l = let whole : place + (end - place) ≡ end = omega (arith, l) in ap (λ (n : ℕ). drop place (take n file)) (sym whole) ∙ drop-take place (end - place) file

pub length-rest : (file : List ℕ) (end place : ℕ) → end ≤ length file → length (rest_of file end place) ≡ end - place
length-rest file end place l = omega (arith, length-drop place (take end file), length-take end file, l)

rest_front : (file : List ℕ) (end place k : ℕ) → place + k ≤ end → take k (rest_of file end place) ≡ take k (drop place file)
rest_front file end place k l = ap (λ (x : List ℕ). take k x) (rest_is file end place (omega (arith, l))) ∙ take-take k (end - place) (drop place file) (omega (arith, l))

-- no bytes are the file's
pub part_none : (file : List ℕ) (w : WindowValue) → length w.bytes ≡ 0 → IsPart file w
part_none file w none = nil_from_length w.bytes none ∙ ap (λ (n : ℕ). take n (drop w.place file)) (sym none)

pub part_before : (a b : DiskValue) (w : WindowValue) → Rests a b → IsPart b.now.file w → IsPart a.now.file w
part_before a b w r part = subst (λ (m : Moment). IsPart m.file w) r.now part

pub covered : {E : Type 0} (w : WindowValue) (place count : ℕ) (r : Result Bool E) (b : Bool) → b ≡ true → r ≡ Ok b → (r ≡ Ok true → Covers w place count) → Covers w place count
covered w place count r b e is f = f (is ∙ ap (λ (x : Bool). Ok x) e)

-- the first bytes of a part of the file
pub lent : (file : List ℕ) (w : WindowValue) (place count : ℕ) → IsPart file w → Covers w place count → take count (drop (place - w.place) w.bytes) ≡ take count (drop place file)
lent file w place count is c =
    let k = place - w.place in
    let len = length w.bytes in
    let whole : w.place + k ≡ place = omega (arith, c.0) in
    ap (λ (x : List ℕ). take count (drop k x)) is
    ∙ rest_front (drop w.place file) len k count (omega (arith, c.0, c.1))
    ∙ ap (λ (x : List ℕ). take count x) (drop-drop k w.place file)
    ∙ ap (λ (n : ℕ). take count (drop n file)) whole

-- what is found at the front of as many bytes as a record has, or of all there are, stands at the front of all
finds_longer : (bytes : List ℕ) (count : ℕ) (found : Found) → 65541 ≤ count → count ≤ length bytes → Finds (take count bytes) found → Finds bytes found
finds_longer bytes count (Record n) most l f =
    (sym (get_or-take count bytes 0 0 (omega (arith, most))) ∙ f.0, sym (stated_front bytes count (omega (arith, most)) l) ∙ f.1, f.2, omega (arith, f.3, length-take count bytes))
finds_longer bytes count Closed most l f = (omega (arith, f.0, length-take count bytes), λ e. f.1 (get_or-take count bytes 0 0 (omega (arith, most)) ∙ e))
finds_longer bytes count Broken most l f = breaks_longer bytes count most l f

pub finds_all : (bytes : List ℕ) (count : ℕ) (found : Found) → count ≡ min (length bytes) 65541 → Finds (take count bytes) found → Finds bytes found
finds_all bytes count found is f = ⊎_elim
    (λ (l : length bytes < 65541). subst (λ (x : List ℕ). Finds x found) (take_all count bytes (omega (arith, is, l))) f)
    (λ (l : 65541 ≤ length bytes). finds_longer bytes count found (omega (arith, is, l)) (omega (arith, is, l)) f)
    (cases_lt (length bytes) 65541)

-- what was found in the bytes that a window lends
module _ (file : List ℕ) (end place count : ℕ) (w : WindowValue) (bytes : List ℕ) (within : end ≤ length file) (before : place < end) (count_is : count ≡ min (end - place) 65541) (part : IsPart file w) (covers : Covers w place count)
    (bytes_is : bytes ≡ take count (drop (place - w.place) w.bytes)) where
  abbrev here : List ℕ
  here = rest_of file end place

  front : bytes ≡ take count here
  front = bytes_is ∙ lent file w place count part covers ∙ sym (rest_front file end place count (omega (arith, count_is, before)))

  finds : (found : Found) → Finds bytes found → Finds here found
  finds found f = finds_all here count found (omega (arith, count_is, length-rest file end place within)) (subst (λ (x : List ℕ). Finds x found) front f)

  -- the piece's end is reckoned from the front
  pub takes_record : (n m : ℕ) (found : Found) (old new : List ℕ) → found ≡ Record n → Finds bytes found → new ≡ old ++ take m (drop 5 bytes) → m ≡ n → Takes here old new (Record n)
  takes_record n m found old new is f grown size =
      let g = subst (λ (x : Found). Finds bytes x) is f in
      let h = finds (Record n) g in
      let piece = take n (drop 5 here) in
      let same : take m (drop 5 bytes) ≡ piece =
      ap (λ (k : ℕ). take k (drop 5 bytes)) size ∙ ap (λ (x : List ℕ). take n (drop 5 x)) front ∙ rest_front here count 5 n (omega (arith, g.3, ap length front, length-take count here)) in
      (piece, record_here here n h.0 h.1 h.2 h.3, grown ∙ ap (λ (x : List ℕ). old ++ x) same)

  pub takes_none : (found : Found) (content : List ℕ) → ((n : ℕ) → found ≡ Record n → ⊥) → Finds bytes found → Takes here content content found
  takes_none (Record n) content other f = absurd (other n refl)
  takes_none Closed content other f = let h = finds Closed f in (h.0, h.1, refl)
  takes_none Broken content other f = finds Broken f

-- what is found in bytes before the end
pub fits_end : (end place : ℕ) (bytes : List ℕ) (found : Found) → place < end → length bytes ≤ end - place → Finds bytes found → FitsEnd end place found
fits_end end place bytes (Record n) before most f = (omega (arith, f.3, before, most), f.2)
fits_end end place bytes Closed before most f = tt
fits_end end place bytes Broken before most f = tt

-- what is looked at ends at the file's end or at the most
pub seen_end : (file : List ℕ) (end : ℕ) → end ≡ min (length file) most_archive → take end file ≡ seen file
unfolding seen
seen_end file end is = ⊎_elim
    (λ (l : length file < most_archive). take_all end file (omega (arith, is, l)) ∙ sym (take_all most_archive file (omega (arith, l))))
    (λ (l : most_archive ≤ length file). let e : end ≡ most_archive = omega (arith, is, l) in ap (λ (n : ℕ). take n file) e)
    (cases_lt (length file) most_archive)

pub length-seen : (file : List ℕ) → length (seen file) ≡ min most_archive (length file)
unfolding seen
length-seen file = length-take most_archive file

pub scan_starts : (file : List ℕ) → HasScanned file 0 []
scan_starts file = record { pieces = []; records = refl; content_is = refl; within = omega arith }

-- one record more
pub scan_more : (file : List ℕ) (end place n : ℕ) (old new : List ℕ) → take end file ≡ seen file → place + 5 + n ≤ length (seen file) → HasScanned file place old → Takes (rest_of file end place) old new (Record n) → HasScanned file (place + (5 + n)) new
scan_more file end place n old new is l s (piece, (front, split, here), grown) =
    let S = seen file in
    let rest : rest_of file end place ≡ drop place S = ap (λ (x : List ℕ). drop place x) is in
    let size : length front ≡ 5 + n = omega (arith, ap length split.joined, length-append front (drop (5 + n) (rest_of file end place)), length-drop (5 + n) (rest_of file end place), ap length rest, length-drop place S, l) in
    let taken : take (5 + n) (drop place S) ≡ front = ap (λ (x : List ℕ). take (5 + n) x) (sym rest ∙ split.joined) ∙ take_at front (drop (5 + n) (rest_of file end place)) (5 + n) size in
    let whole : take (place + (5 + n)) S ≡ take place S ++ front = take-add place (5 + n) S ∙ ap (λ (x : List ℕ). take place S ++ x) taken in
    record {
      pieces = s.pieces ++ piece ∷ [];
      records = subst (λ (x : List ℕ). AreParts IsRecord x (s.pieces ++ piece ∷ [])) (sym whole) (parts_snoc IsRecord (take place S) front s.pieces piece s.records here);
      content_is = grown ∙ ap (λ (x : List ℕ). x ++ piece) s.content_is ∙ sym (joined-snoc s.pieces piece);
      within = omega (arith, l);
    }

-- the byte that closes it
pub scan_closed : (file : List ℕ) (place : ℕ) (content : List ℕ) → place < length (seen file) → HasScanned file place content → get_or (drop place (seen file)) 0 0 ≢ 1
    → (pieces : List (List ℕ)) × IsArchive (seen file) pieces place × (content ≡ joined pieces)
scan_closed file place content l s shut =
    let S = seen file in
    let zero : place + 0 ≡ place = omega arith in (
      s.pieces,
      record {
        front = take place S;
        gate = get_or S place 0;
        rest = drop (place + 1) S;
        split = at_place S place l;
        records = s.records;
        closed = λ e. shut (get_or-drop place S 0 0 ∙ ap (λ (n : ℕ). get_or S n 0) zero ∙ e);
        place_is = omega (arith, length-take place S, l);
      },
      s.content_is,
    )

pub scan_broken : (file : List ℕ) (place : ℕ) (content : List ℕ) → HasScanned file place content → BreaksRecord (drop place (seen file)) → IsDamagedAt (seen file) place
scan_broken file place content s b = record {
  front = take place (seen file);
  rest = drop place (seen file);
  split = sym (take-append-drop place (seen file));
  pieces = s.pieces;
  records = s.records;
  offset_is = omega (arith, length-take place (seen file), s.within);
  broken = b;
}

pub scan_ends : (file : List ℕ) (place : ℕ) (content : List ℕ) → HasScanned file place content → length (seen file) ≤ place → IsDamagedAt (seen file) place
scan_ends file place content s l = scan_broken file place content s (subst BreaksRecord (sym (drop_all place (seen file) l)) breaks_nil)

pub damage_fits : (file : List ℕ) (place : ℕ) (fault : RecoverFault) → IsDamage (length file) place fault → IsDamagedAt (seen file) place → FaultFits file fault
damage_fits file place Failed d is = absurd d
damage_fits file place (Damaged offset) d is = (d.0, subst (λ (n : ℕ). IsDamagedAt (seen file) n) (sym d.1) is, damaged_none (seen file) place is)
damage_fits file place TooLong d is = (d, damaged_none (seen file) place is)
damage_fits file place NoMemory d is = absurd d

pub damage_calm : (size place before now : ℕ) (fault : RecoverFault) → IsDamage size place fault → now ≡ before → FaultCause before now fault
damage_calm size place before now Failed d e = absurd d
damage_calm size place before now (Damaged offset) d e = e
damage_calm size place before now TooLong d e = e
damage_calm size place before now NoMemory d e = absurd d

pub plain_fits : (file : List ℕ) (fault : RecoverFault) → IsPlain fault → FaultFits file fault
plain_fits file Failed p = tt
plain_fits file (Damaged offset) p = absurd p
plain_fits file TooLong p = absurd p
plain_fits file NoMemory p = tt

-- with the same count before
pub cause_from : (first before now : ℕ) (fault : RecoverFault) → before ≡ first → FaultCause before now fault → FaultCause first now fault
cause_from first before now fault e c = subst (λ (n : ℕ). FaultCause n now fault) e c

-- where a reader stands that has read the records before its place
module _ (first mid : DiskValue) (size end place : ℕ) (old : List ℕ) (rests : Rests first mid) (size_is : size ≡ length first.now.file) (end_is : end ≡ min size most_archive) (s : HasScanned first.now.file place old) where
  abbrev file : List ℕ
  file = first.now.file

  abbrev rest : List ℕ
  rest = rest_of mid.now.file end place

  ends : take end file ≡ seen file
  ends = seen_end file end (end_is ∙ ap (λ (n : ℕ). min n most_archive) size_is)

  length_is : length (seen file) ≡ end
  length_is = omega (arith, length-seen file, end_is, size_is)

  rest_is_seen : rest ≡ drop place (seen file)
  rest_is_seen = ap (λ (m : Moment). rest_of m.file end place) rests.now ∙ ap (λ (x : List ℕ). drop place x) ends

  pub scan_on : (n : ℕ) (found : Found) (new : List ℕ) → FitsEnd end place found → found ≡ Record n → Takes rest old new found → HasScanned file (place + (5 + n)) new
  scan_on n found new fits is takes =
      let fits_n = subst (λ (x : Found). FitsEnd end place x) is fits in
      let takes_n = subst (λ (x : Found). Takes rest old new x) is takes in
      scan_more file end place n old new ends (omega (arith, fits_n.0, length_is)) s (subst (λ (m : Moment). Takes (rest_of m.file end place) old new (Record n)) rests.now takes_n)

  pub scan_shut : (found : Found) (new : List ℕ) → found ≡ Closed → Takes rest old new found → (pieces : List (List ℕ)) × IsArchive (seen file) pieces place × (new ≡ joined pieces)
  scan_shut found new is takes =
      let t = subst (λ (x : Found). Takes rest old new x) is takes in
      let a = scan_closed file place old (omega (arith, t.0, ap length rest_is_seen, length-drop place (seen file))) s (λ e. t.1 (ap (λ (l : List ℕ). get_or l 0 0) rest_is_seen ∙ e)) in
      (a.0, a.1, t.2 ∙ a.2)

  pub scan_fault : (found : Found) (new : List ℕ) (fault : RecoverFault) → found ≡ Broken → Takes rest old new found → IsDamage size place fault → FaultFits file fault
  scan_fault found new fault is takes d =
      let b = subst (λ (x : Found). Takes rest old new x) is takes in
      damage_fits file place fault (subst (λ (n : ℕ). IsDamage n place fault) size_is d) (scan_broken file place old s (subst BreaksRecord rest_is_seen b))

  pub scan_over : (fault : RecoverFault) → end ≤ place → IsDamage size place fault → FaultFits file fault
  scan_over fault l d = damage_fits file place fault (subst (λ (n : ℕ). IsDamage n place fault) size_is d) (scan_ends file place old s (omega (arith, l, length_is)))

  pub end_within : end ≤ length mid.now.file
  end_within = omega (arith, end_is, size_is, ap (λ (m : Moment). length m.file) rests.now)

pub damage_planned : (d : DiskValue) (size place : ℕ) (fault : RecoverFault) → IsDamage size place fault → FaultPlanned d fault
damage_planned d size place Failed is = absurd is
damage_planned d size place (Damaged offset) is = tt
damage_planned d size place TooLong is = tt
damage_planned d size place NoMemory is = absurd is

pub planned_later : (a b : DiskValue) (fault : RecoverFault) → Lasts a b → FaultPlanned b fault → FaultPlanned a fault
planned_later a b Failed l p = λ s. p (sound_later a b 0 l s)
planned_later a b (Damaged offset) l p = tt
planned_later a b TooLong l p = tt
planned_later a b NoMemory l p = tt
