-- What holds of each port that keeps what it gives, read by read.
use Rattle.std.proofs.Common.{◌≡◌, ◌≢◌, ℕ, ◌+◌, ◌<◌, ◌≤◌, length, take, List, [], ◌∷◌, ◌++◌, Option, Some, sym, ◌∙◌, ap, subst, refl, Ok, Err, arith, length-take, length-append, append-nil, Fits, w64}
use mathlib.Core.Bool.{Bool, true, false, false≢true}
use Rattle.std.specs.Option.{is_some}
use Rattle.wire_io.specs.declared.sink.Failed.{Failed}
use Rattle.wire_io.specs.Aside.{Aside}
use Rattle.disk_doors.specs.Disk.{DiskValue, Passes, Lasts}
use Rattle.disk_doors.specs.Note.{Event}
use Rattle.station_doors.specs.Doors.{Reads, AsPlanned, read_size}
use Rattle.feed_archive.specs.Archive.{most_archive}
use Rattle.feed_archive.specs.Recovering.{HasOnly}
use Rattle.feed_archive.specs.Appending.{ArchiveValue, IsBeforeOrAfter, AppendAnswers, AppendCause, AppendPlanned}
use Rattle.feed_archive.specs.Keeping.{HasKept, TellsBytes, InnerGave, KeepsPlan, KeepsPlace, KeepCause, KeepsExactly, KeepsDisk, KeepsGoing, is_refused, gave, lost, keep_aside}
use Rattle.feed_archive.specs.declared.fault.AppendFault.{AppendFault}
use Rattle.feed_archive.proofs.Kept.{kept_on, kept_gave, kept_lost, cause_refused, cause_none, cause_kept, exact_on, exact_gave, exact_lost, refused_same, disk_on, disk_gave, disk_lost, going_gave, going_lost}
use Rattle.feed_archive.proofs.Telling.{tells_gave, tells_none, tells_failed, tells_lost, tells_later, inner_same, inner_gave, inner_failed, place_on, place_gave, place_lost, moved, behind}
use Rattle.feed_archive.proofs.Asked.{plan_gave, plan_none, plan_failed, plan_lost, plan_later, asked_size, asked_open}

-- a piece that was given has a byte, and no more than a read has
pub piece_some : (n : ℕ) (buf : List ℕ) → n ≢ 0 → n ≤ length buf → 0 < length (take n buf)
piece_some n buf not within = omega (arith, length-take n buf, not, within)

pub piece_most : (taken n : ℕ) (buf room : List ℕ) → length buf ≡ length room → length room ≡ read_size taken → length (take n buf) ≤ 65536
piece_most taken n buf room same size = omega (arith, length-take n buf, same, size)

-- a port made over this one and this archive's disk, which now shows this
module _ (tells : Type 0) (made : DiskValue) (first : Aside) (calls_first place_first faults_first : ℕ) (stopped_first : Bool) where
  abbrev pub Held : DiskValue → Aside → Aside → ℕ → ℕ → ℕ → Bool → ℕ → List Event → Option AppendFault → Type 0
  Held disk inner before calls place faults stopped given es refused = (is_refused es ≡ is_some refused) × HasKept tells made disk es
      × TellsBytes first (keep_aside inner before es) (gave es)
      × KeepCause faults_first faults refused
      × KeepsExactly tells made disk es refused
      × InnerGave first inner es
      × KeepsPlace place_first place es refused
      × (given ≡ length (gave es))
      × KeepsDisk tells made disk place_first es refused
      × KeepsGoing stopped_first stopped refused
      × KeepsPlan first inner calls_first calls es

  -- a piece was refused before, and the port below wasn't asked
  pub held_later : (disk : DiskValue) (inner before : Aside) (calls place faults : ℕ) (stopped : Bool) (given : ℕ) (es fs : List Event) (refused : Option AppendFault) → Held disk inner before calls place faults stopped given es refused → is_refused es ≡ true → fs ≡ (2, 0, []) ∷ es
      → Held disk inner before calls place faults stopped given fs refused
  held_later disk inner before calls place faults stopped given es fs refused h gone more = subst (λ (l : List Event). Held disk inner before calls place faults stopped given l refused) (sym more) (
    h.0,
    kept_on 0 tells made disk es h.1,
    tells_later first inner inner before es h.2 (record {}) gone,
    h.3,
    exact_on 0 tells made disk es refused h.4,
    inner_same first inner es ((2, 0, []) ∷ es) refl h.5,
    place_on 0 place_first place es refused h.6,
    h.7,
    disk_on 0 tells made disk place_first es refused h.8,
    h.9,
    plan_later first inner calls_first calls es gone h.10,
  )

  module _ (disk : DiskValue) (inner before : Aside) (calls place faults : ℕ) (stopped : Bool) (given : ℕ) (es : List Event) (refused : Option AppendFault) (h : Held disk inner before calls place faults stopped given es refused) (fine : is_some refused ≡ false)
      (told : Aside) (is : keep_aside inner before es ≡ told) (room : List ℕ) (shown : told.is_open ≡ true) (size : length room ≡ read_size told.taken) (room_some : 0 < length room) (now : Aside) (calls_now n : ℕ) (buf : List ℕ) (same_size : length buf ≡ length room) where
    calm : is_refused es ≡ false
    calm = h.0 ∙ fine

    opened : (keep_aside inner before es).is_open ≡ true
    opened = ap (λ (a : Aside). a.is_open) is ∙ shown

    below : inner.is_open ≡ true
    below = asked_open inner before told es is shown

    sized : length buf ≡ read_size inner.taken
    sized = same_size ∙ asked_size inner before told es is (length room) calm size

    some : 0 < length buf
    some = omega (arith, same_size, room_some)

    -- the count of bytes has room for more
    pub given_fits : (size : ℕ) → place + 6 + size ≤ most_archive → n ≤ length buf → Fits w64 (given + n)
    given_fits size most within = omega (arith, h.7, h.6.least (λ e. false≢true (sym fine ∙ ap is_some e)), most, within, sized)

    -- its piece was appended, and given
    pub held_gave : (disk_now : DiskValue) (base : Aside) (place_now faults_now : ℕ) (stopped_now : Bool) (given_now : ℕ) → n ≢ 0 → n ≤ length buf → Reads inner now (Ok n) buf → AsPlanned inner.plan calls calls_now (Ok n)
        → (tells → (w : List ℕ) → HasOnly disk.now w → Passes (IsBeforeOrAfter w (take n buf)) disk disk_now) → (tells → (w : List ℕ) → HasOnly disk.now w → HasOnly disk_now.now (w ++ take n buf)) → (tells → Lasts disk disk_now)
        → stopped ≡ false → stopped_now ≡ false → place_now ≡ place + 5 + length (take n buf) → faults_now ≡ faults → given_now ≡ given + n
        → (fs : List Event) → fs ≡ (0, 0, take n buf) ∷ es → Held disk_now now base calls_now place_now faults_now stopped_now given_now fs refused
    held_gave disk_now base place_now faults_now stopped_now given_now not within reads planned any kept lasts started still placed same more fs is_fs = subst (λ (l : List Event). Held disk_now now base calls_now place_now faults_now stopped_now given_now l refused) (sym is_fs) (
      h.0,
      kept_gave tells made disk disk_now es (take n buf) h.1 calm any kept,
      tells_gave first inner now before es h.2 base n buf calm opened reads,
      cause_kept faults_first faults faults_now refused fine h.3 same,
      exact_gave tells made disk disk_now es (take n buf) h.1 calm any refused kept,
      inner_gave first inner now es ((0, 0, take n buf) ∷ es) h.5 n buf below reads (moved (gave es) (lost es) (take n buf) (h.1.none calm)),
      place_gave place_first place place_now es (take n buf) refused fine h.6 (piece_some n buf not within) placed,
      omega (arith, h.7, more, length-append (gave es) (take n buf), length-take n buf, within),
      disk_gave tells made disk disk_now place_first es (take n buf) refused fine h.8 lasts,
      going_gave stopped_first stopped stopped_now refused h.9 started still,
      plan_gave first inner now calls_first calls calls_now es h.10 n buf (take n buf) not below reads planned within some sized,
    )

    -- the read failed
    pub held_failed : (base : Aside) (e : Failed) → Reads inner now (Err e) buf → AsPlanned inner.plan calls calls_now (Err e) → (fs : List Event) → fs ≡ (5, 0, []) ∷ es → Held disk now base calls_now place faults stopped given fs refused
    held_failed base e reads planned fs is_fs = subst (λ (l : List Event). Held disk now base calls_now place faults stopped given l refused) (sym is_fs) (
      h.0,
      kept_on 3 tells made disk es h.1,
      tells_failed first inner now before es h.2 base e buf calm reads,
      h.3,
      exact_on 3 tells made disk es refused h.4,
      inner_failed first inner now es ((5, 0, []) ∷ es) h.5 calls calls_now e buf reads planned refl,
      place_on 3 place_first place es refused h.6,
      h.7,
      disk_on 3 tells made disk place_first es refused h.8,
      h.9,
      plan_failed first inner now calls_first calls calls_now es h.10 e buf below reads planned,
    )

    -- it gave none
    pub held_none : (base : Aside) → n ≡ 0 → Reads inner now (Ok n) buf → AsPlanned inner.plan calls calls_now (Ok n) → (fs : List Event) → fs ≡ (4, 0, []) ∷ es → Held disk now base calls_now place faults stopped given fs refused
    held_none base nil came went fs is_fs =
        let none = subst (λ (m : ℕ). Reads inner now (Ok m) buf) nil came in
        let planned = subst (λ (m : ℕ). AsPlanned inner.plan calls calls_now (Ok m)) nil went in
        subst (λ (l : List Event). Held disk now base calls_now place faults stopped given l refused) (sym is_fs) (
          h.0,
          kept_on 2 tells made disk es h.1,
          tells_none first inner now before es h.2 base buf calm opened none,
          h.3,
          exact_on 2 tells made disk es refused h.4,
          inner_gave first inner now es ((4, 0, []) ∷ es) h.5 0 buf below none (sym (append-nil _)),
          place_on 2 place_first place es refused h.6,
          h.7,
          disk_on 2 tells made disk place_first es refused h.8,
          h.9,
          plan_none first inner now calls_first calls calls_now es h.10 buf below none planned some sized,
        )

    -- the append of its piece was refused
    pub held_lost : {D : Type 0} (shows : D → DiskValue) (old new : ArchiveValue D) (faults_now : ℕ) (fault : AppendFault) → shows old.disk ≡ disk → old.place ≡ place → old.stopped ≡ stopped → n ≢ 0 → n ≤ length buf → Reads inner now (Ok n) buf → AsPlanned inner.plan calls calls_now (Ok n)
        → (tells → (w : List ℕ) → HasOnly (shows old.disk).now w → Passes (IsBeforeOrAfter w (take n buf)) (shows old.disk) (shows new.disk)) → (tells → Lasts (shows old.disk) (shows new.disk)) → AppendAnswers old new (length (take n buf)) (Err fault)
        → (tells → AppendPlanned (shows old.disk) (old.place + 6 + length (take n buf)) (Err fault)) → AppendCause faults faults_now (Err fault) → (base : Aside) → base ≡ inner → (fs : List Event) → fs ≡ (1, 0, take n buf) ∷ es
        → Held (shows new.disk) now base calls_now new.place faults_now new.stopped given fs (Some fault)
    held_lost shows old new faults_now fault disk_is place_is stopped_is not within reads planned any lasts answers as_planned cause base is_base fs is_fs =
        let kept : HasKept tells made (shows old.disk) es = subst (λ (d : DiskValue). HasKept tells made d es) (sym disk_is) h.1 in
        let placed : KeepsPlace place_first old.place es refused = subst (λ (p : ℕ). KeepsPlace place_first p es refused) (sym place_is) h.6 in
        let some_piece : 0 < length (take n buf) = piece_some n buf not within in
        subst (λ (l : List Event). Held (shows new.disk) now base calls_now new.place faults_now new.stopped given l (Some fault)) (sym is_fs)
        (subst (λ (a : Aside). Held (shows new.disk) now a calls_now new.place faults_now new.stopped given ((1, 0, take n buf) ∷ es) (Some fault)) (sym is_base) (
          refl {a = true},
          kept_lost tells made (shows old.disk) (shows new.disk) es (take n buf) kept calm any (omega (arith, length-take n buf, sized)),
          tells_lost first inner now before es h.2 n buf (take n buf) (record {}) calm reads,
          cause_refused faults_first faults faults_now fault (cause_none faults_first faults refused fine h.3) cause,
          exact_lost tells made (shows old.disk) (shows new.disk) es (take n buf) kept calm any fault (refused_same shows old new (length (take n buf)) fault answers),
          inner_gave first inner now es ((1, 0, take n buf) ∷ es) h.5 n buf below reads (behind (gave es) (lost es) (take n buf) (h.1.none calm)),
          place_lost place_first old new es (take n buf) refused fault fine placed answers some_piece,
          h.7,
          disk_lost tells made (shows old.disk) (shows new.disk) place_first old.place es (take n buf) refused fault fine (subst (λ (d : DiskValue). KeepsDisk tells made d place_first es refused) (sym disk_is) h.8) placed lasts as_planned some_piece,
          going_lost stopped_first old new (length (take n buf)) refused fault fine (subst (λ (b : Bool). KeepsGoing stopped_first b refused) (sym stopped_is) h.9) answers,
          plan_lost first inner now calls_first calls calls_now es h.10 n buf (take n buf) not below reads planned within some sized,
        ))
