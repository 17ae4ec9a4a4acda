-- What a port that keeps its input, and its archive, are handed back as, once the input was taken through it.
use Rattle.std.proofs.Common.{◌≡◌, ℕ, ◌+◌, ◌*◌, ◌<◌, ◌≤◌, List, [], ◌∷◌, ◌++◌, Option, Some, None, Bool, true, false, refl, sym, ap, ◌∙◌, subst, inl, inr, arith, length, append-nil, length-append}
use Rattle.std.specs.Option.{is_some}
use Rattle.std.specs.Prelude.{unwrap_or}
use Rattle.bmp_specs.specs.Life.{LastRead, Given}
use Rattle.bmp_specs.specs.Meaning.{Meaning}
use Rattle.bmp_specs.specs.Values.{EntryValue}
use Rattle.disk_doors.proofs.Passing.{sound_smaller}
use Rattle.disk_doors.specs.Disk.{DiskValue}
use Rattle.disk_doors.specs.Note.{Event}
use Rattle.feed_archive.proofs.Kept.{file_content, refused_counts}
use Rattle.feed_archive.proofs.Telling.{aside_calm, open_is}
use Rattle.feed_archive.specs.Appending.{ArchiveValue, IsClosedAt}
use Rattle.feed_archive.specs.Keeping.{HasKept, InnerGave, KeepCause, KeepPortValue, KeepsDisk, KeepsExactly, KeepsGoing, KeepsPlace, KeepsPlan, Told, TellsBytes, all_bytes, asked, gave, is_refused, keep_aside, lost, made_over, stays_of, told_by, went_of}
use Rattle.feed_archive.specs.Recovering.{HasOnly}
use Rattle.feed_archive.specs.declared.fault.AppendFault.{AppendFault}
use Rattle.feed_archive.specs.declared.fault.AppendFault.TheVariants as append
use Rattle.station_doors.specs.Doors.{DiskShown, MadeOver, one_more, untouched}
use Rattle.station_doors.specs.Planned.{FollowsBy, FollowsPlan, first_of}
use Rattle.wire_io.specs.Aside.{Aside, Plan}
use Rattle.wire_io.specs.Faults.{Rose}
use Rattle.station_top.specs.ArchiveRuns.{HandsEmpty, IsRefused, IsTakenIn, KeepsBytes, KeepsFor, KeepsFront, KeepsInput}
use Rattle.station_top.specs.Input.{input_of}
use Rattle.station_top.specs.Take.{Comes, CountsOpening, LeavesInput, TakesInput, ToldInput, WentOn, one_for}
use Rattle.station_top.specs.declared.archive.Kept.{Kept}
use Rattle.station_top.specs.declared.archive.Kept.TheVariants as became
use Rattle.station_top.specs.declared.take.Taken.{Taken}
use Rattle.station_top.proofs.Below.{breaks_below, comes_below, front_below, unplanned}

same_some : {A : Type 0} (x y : A) → Some x ≡ Some y → x ≡ y
same_some {A} x y e = ap (λ (o : Option A). unwrap_or o x) e

-- the bytes of the one connection that was given
input_bytes : (given : List Given) (refused : Bool) → length given ≤ 1 → (input_of given refused).bytes ≡ all_bytes given
input_bytes [] true one = refl
input_bytes [] false one = refl
input_bytes (g ∷ []) refused one = sym (append-nil g.bytes)
input_bytes (g ∷ h ∷ gs) refused one = absurd (omega (arith, one))

-- one connection was opened at most, and no opening failed where one was
opens_few : (given : List Given) (refused : Bool) (opened faults : ℕ) → opened ≡ one_for given 0 → (0 < length given → refused ≡ false) → CountsOpening given refused 0 faults → (opened ≤ 1) × (opened ≡ 1 → (refused ≡ false) × (faults ≡ 0))
opens_few [] refused opened faults is asked counts = (omega (arith, is), λ one. absurd (omega (arith, is, one)))
opens_few (g ∷ gs) refused opened faults is asked counts = (omega (arith, is), λ one. (asked (omega arith), counts))

-- where it gave a byte and opened one connection at most, it opened one
opened_once : (plan : Plan) (now : Aside) (calls : ℕ) (went : List LastRead) (given : List Given) → FollowsBy plan now calls went given → now.opened ≤ 1 → 0 < length (all_bytes given) → now.opened ≡ 1
opened_once plan now calls went [] f few some = absurd (omega (arith, some))
opened_once plan now calls went (g ∷ []) f few some = f.0
opened_once plan now calls went (g ∷ h ∷ gs) f few some = absurd (omega (arith, f, few))

not_true : (b : Bool) → (b ≡ true → ⊥) → b ≡ false
not_true true other = absurd (other refl)
not_true false other = refl

none_is : (o : Option AppendFault) → is_some o ≡ false → o ≡ None
none_is None e = refl
none_is (Some fault) e = absurd (cc e)

-- what a port shows that keeps what it gives is what the one below shows, in these
same_opened : (b : Bool) (inner base : Aside) (es : List Event) → (told_by b inner base es).opened ≡ inner.opened
same_opened true inner base es = refl
same_opened false inner base es = refl

same_closed : (b : Bool) (inner base : Aside) (es : List Event) → (told_by b inner base es).closed ≡ inner.closed
same_closed true inner base es = refl
same_closed false inner base es = refl

same_refused : (b : Bool) (inner base : Aside) (es : List Event) → (told_by b inner base es).refused ≡ inner.refused
same_refused true inner base es = refl
same_refused false inner base es = refl

same_faults : (b : Bool) (inner base : Aside) (es : List Event) → (told_by b inner base es).open_faults ≡ inner.open_faults
same_faults true inner base es = refl
same_faults false inner base es = refl

-- what a disk shows
abbrev pub shown_by : {D : Type 0} → (D → DiskValue) → (D → ℕ) → D → DiskShown
shown_by shows faults disk = record { value = shows disk; faults = faults disk }

-- All that is known of a port over another and of its archive as they are handed back, which were made over this port and
-- this archive.
pub record IsRun {P D : Type 0} (aside : P → Aside) (calls : P → ℕ) (shows : D → DiskValue) (faults : D → ℕ) (tells : Type 0) (port : P) (archive : ArchiveValue D) (k : KeepPortValue P D) : Type 0 where
  pub stays : stays_of aside calls shows faults k ≡ Some (made_over aside calls shows faults port archive)
  pub noted : is_refused k.events ≡ is_some k.refused
  pub kept : HasKept tells (shows k.made.disk) (shows k.archive.disk) k.events
  pub told : TellsBytes (aside k.first) (keep_aside (aside k.inner) (aside k.before) k.events) (gave k.events)
  pub inner : InnerGave (aside k.first) (aside k.inner) k.events
  pub place : KeepsPlace k.made.place k.archive.place k.events k.refused
  pub disk : KeepsDisk tells (shows k.made.disk) (shows k.archive.disk) k.made.place k.events k.refused
  pub going : KeepsGoing k.made.stopped k.archive.stopped k.refused
  pub cause : KeepCause (faults k.made.disk) (faults k.archive.disk) k.refused
  pub exact : KeepsExactly tells (shows k.made.disk) (shows k.archive.disk) k.events k.refused
  pub plan : KeepsPlan (aside k.first) (aside k.inner) (calls k.first) (calls k.inner) k.events
  pub closed : tells → k.archive.stopped ≡ false → IsClosedAt (shows k.archive.disk).now k.archive.place

-- from what the calls say that made it, took through it and took it apart
pub is_run : {P D : Type 0} (aside : P → Aside) (calls : P → ℕ) (shows : D → DiskValue) (faults : D → ℕ) (tells : Type 0) (port : P) (archive : ArchiveValue D) (k0 k : KeepPortValue P D) (parts : ArchiveValue D) (disk : D) → k0 ≡ record { inner = port; archive = archive; first = port; made = archive; before = port; events = []; refused = None }
    → stays_of aside calls shows faults k ≡ stays_of aside calls shows faults k0 → is_refused k.events ≡ is_some k.refused → HasKept tells (shows k.made.disk) (shows k.archive.disk) k.events → TellsBytes (aside k.first) (keep_aside (aside k.inner) (aside k.before) k.events) (gave k.events) → InnerGave (aside k.first) (aside k.inner) k.events
    → KeepsPlace k.made.place k.archive.place k.events k.refused → KeepsDisk tells (shows k.made.disk) (shows k.archive.disk) k.made.place k.events k.refused → KeepsGoing k.made.stopped k.archive.stopped k.refused → KeepCause (faults k.made.disk) (faults k.archive.disk) k.refused
    → KeepsExactly tells (shows k.made.disk) (shows k.archive.disk) k.events k.refused → KeepsPlan (aside k.first) (aside k.inner) (calls k.first) (calls k.inner) k.events → parts ≡ k.archive → disk ≡ parts.disk → (tells → parts.stopped ≡ false → IsClosedAt (shows disk).now parts.place) → IsRun aside calls shows faults tells port archive k
is_run aside calls shows faults tells port archive k0 k parts disk start stays noted held told inner place room going cause exact plan same same_disk closed = record {
  stays = stays ∙ ap (λ (v : KeepPortValue _ _). stays_of aside calls shows faults v) start;
  noted = noted;
  kept = held;
  told = told;
  inner = inner;
  place = place;
  disk = room;
  going = going;
  cause = cause;
  exact = exact;
  plan = plan;
  closed = subst (λ (a : ArchiveValue _). tells → a.stopped ≡ false → IsClosedAt (shows a.disk).now a.place) same (λ t go. subst (λ (d : _). IsClosedAt (shows d).now parts.place) same_disk (closed t go));
}

module _ {P D : Type 0} (aside : P → Aside) (calls : P → ℕ) (shows : D → DiskValue) (faults : D → ℕ) (tells : Type 0) (port : P) (archive : ArchiveValue D) (k : KeepPortValue P D) (r : IsRun aside calls shows faults tells port archive k) where
  over : made_over aside calls shows faults k.first k.made ≡ made_over aside calls shows faults port archive
  over = same_some (made_over aside calls shows faults k.first k.made) (made_over aside calls shows faults port archive) r.stays

  value_is : shows k.made.disk ≡ shows archive.disk
  value_is = ap (λ (m : MadeOver). m.disk.value) over

  faults_is : faults k.made.disk ≡ faults archive.disk
  faults_is = ap (λ (m : MadeOver). m.disk.faults) over

  place_is : k.made.place ≡ archive.place
  place_is = ap (λ (m : MadeOver). m.place) over

  stopped_is : k.made.stopped ≡ archive.stopped
  stopped_is = ap (λ (m : MadeOver). m.stopped) over

  -- no append had failed before
  pub not_stopped : archive.stopped ≡ false → k.refused ≡ Some append.Stopped → ⊥
  not_stopped started is = cc (r.going.stopped is, stopped_is, started)

  module _ (meaning : Meaning) (t : tells) (only : HasOnly (shows archive.disk).now []) (zero_is : archive.place ≡ 0) (p : Plan) (u : aside port ≡ untouched p) (z : calls port ≡ 0) where
    first_is : aside k.first ≡ untouched p
    first_is = ap (λ (m : MadeOver). m.shows) over ∙ u

    follows : FollowsPlan p (aside k.inner) (calls k.inner) (asked k.events)
    follows = r.plan.follows.plan p first_is (ap (λ (m : MadeOver). m.calls) over ∙ z)

    told_here : Told (keep_aside (aside k.inner) (aside k.before) k.events) (gave k.events)
    told_here = r.told.told (ap (λ (a : Aside). a.given) first_is) (ap (λ (a : Aside). a.is_open) first_is)

    told_below : Told (aside k.inner) (gave k.events ++ lost k.events)
    told_below = r.inner.told.told (ap (λ (a : Aside). a.given) first_is) (ap (λ (a : Aside). a.is_open) first_is)

    started_is : keep_aside (aside port) (aside port) [] ≡ unplanned (untouched p)
    started_is = ap (λ (a : Aside). keep_aside a a []) u

    bytes_kept : KeepsBytes (gave k.events) (lost k.events) (shown_by shows faults archive.disk) (shown_by shows faults k.archive.disk)
    bytes_kept =
        let kept = subst (λ (d : DiskValue). HasKept tells d (shows k.archive.disk) k.events) value_is r.kept in
        let run = kept.run t [] only in
        record { any_moment = run.any_moment; present = run.present; small = kept.small }

    -- exactly what was given is kept, where the disk failed no append
    only_kept : (k.refused ≡ Some append.Failed → ⊥) → HasOnly (shows k.archive.disk).now (gave k.events)
    only_kept fine = (subst (λ (d : DiskValue). KeepsExactly tells d (shows k.archive.disk) k.events k.refused) value_is r.exact).exact t [] only fine

    -- no append was refused
    lost_none : is_refused k.events ≡ false → lost k.events ≡ []
    lost_none fine = r.kept.none fine

    all_kept : (bytes : List ℕ) → bytes ≡ gave k.events → is_refused k.events ≡ false → KeepsBytes bytes [] (shown_by shows faults archive.disk) (shown_by shows faults k.archive.disk)
    all_kept bytes same fine =
        subst (λ (l : List ℕ). KeepsBytes l [] (shown_by shows faults archive.disk) (shown_by shows faults k.archive.disk)) (sym same)
        (subst (λ (l : List ℕ). KeepsBytes (gave k.events) l (shown_by shows faults archive.disk) (shown_by shows faults k.archive.disk)) (lost_none fine) bytes_kept)

    calm_none : k.refused ≡ None → faults k.archive.disk ≡ faults archive.disk
    calm_none none = subst (λ (o : Option AppendFault). KeepCause (faults k.made.disk) (faults k.archive.disk) o) none r.cause ∙ faults_is

    -- what it gave and was refused is a front of the plan's first connection
    front : ((aside k.inner).opened ≤ 1) × ((aside k.inner).opened ≡ 1 → ((aside k.inner).refused ≡ false) × ((aside k.inner).open_faults ≡ 0)) → (rest : List ℕ) × (first_of p.connections ≡ (gave k.events ++ lost k.events) ++ rest)
    front few =
        let f = front_below p (aside k.inner) (calls k.inner) (asked k.events) follows few.0 few.1 in
        let same : f.0 ≡ told_below.given = same_some f.0 told_below.given (sym f.1 ∙ told_below.given_is) in
        (f.3, f.4 ∙ ap (λ (l : List ℕ). l ++ f.3) (input_bytes f.0 true f.2 ∙ ap all_bytes same ∙ told_below.bytes_are))

    -- memory ran out
    pub keeps_front : LeavesInput meaning (keep_aside (aside port) (aside port) []) (keep_aside (aside k.inner) (aside k.before) k.events) → WentOn (keep_aside (aside port) (aside port) []) (keep_aside (aside k.inner) (aside k.before) k.events) (Some []) (Some (went_of k.events))
        → KeepsFront meaning p (aside k.inner) (shown_by shows faults archive.disk) (shown_by shows faults k.archive.disk)
    keeps_front leaves went =
        let left = subst (λ (a : Aside). LeavesInput meaning a (keep_aside (aside k.inner) (aside k.before) k.events)) started_is leaves in
        let fine : is_refused k.events ≡ false = not_true (is_refused k.events) (λ e. absurd (omega (arith, refused_counts (aside k.inner) (aside k.before) k.events e, calm left))) in
        let calm_is = aside_calm (aside k.inner) (aside k.before) k.events fine in
        let none = none_is k.refused (sym r.noted ∙ fine) in
        let start = subst (λ (a : Aside). WentOn a (keep_aside (aside k.inner) (aside k.before) k.events) (Some []) (Some (went_of k.events))) started_is went in
        let breaks = breaks_below meaning p (aside k.inner) (calls k.inner) (went_of k.events) (subst (λ (a : Aside). LeavesInput meaning (unplanned (untouched p)) a) calm_is left) (subst (λ (a : Aside). WentOn (unplanned (untouched p)) a (Some []) (Some (went_of k.events))) calm_is start)
        (subst (λ (l : List LastRead). FollowsPlan p (aside k.inner) (calls k.inner) l) (r.plan.same fine) follows) in
        let f = front (few (subst (λ (a : Aside). LeavesInput meaning (unplanned (untouched p)) a) calm_is left)) in
        record {
          bytes = gave k.events;
          rest = f.0;
          front = f.1 ∙ ap (λ (l : List ℕ). (gave k.events ++ l) ++ f.0) (lost_none fine) ∙ ap (λ (l : List ℕ). l ++ f.0) (append-nil (gave k.events));
          told = subst (λ (l : List ℕ). Told (aside k.inner) l) (ap (λ (l : List ℕ). gave k.events ++ l) (lost_none fine) ∙ append-nil (gave k.events)) told_below;
          kept = all_kept (gave k.events) refl fine;
          only = only_kept (λ is. cc (is, none));
          calm = calm_none none;
          breaks = breaks;
        }
      where
        calm : LeavesInput meaning (unplanned (untouched p)) (keep_aside (aside k.inner) (aside k.before) k.events) → (keep_aside (aside k.inner) (aside k.before) k.events).read_faults ≡ 0
        calm (inl same) = ap (λ (a : Aside). a.read_faults) same
        calm (inr b) = b.read_faults

        few : LeavesInput meaning (unplanned (untouched p)) (unplanned (aside k.inner)) → ((aside k.inner).opened ≤ 1) × ((aside k.inner).opened ≡ 1 → ((aside k.inner).refused ≡ false) × ((aside k.inner).open_faults ≡ 0))
        few (inl same) =
            let none : (aside k.inner).opened ≡ 0 = ap (λ (a : Aside). a.opened) same in
            (omega (arith, none), λ one. absurd (omega (arith, one, none)))
        few (inr b) =
            let one : (aside k.inner).opened ≡ one_more 0 = b.opened in
            (omega (arith, one), λ is. (b.asked, b.open_faults))

    module _ (Stands : List EntryValue → Type 0) (calls0 : ℕ) (taken : Taken) (i : TakesInput meaning Stands (keep_aside (aside port) (aside port) []) (keep_aside (aside k.inner) (aside k.before) k.events) calls0 taken) where
      told_input : ToldInput [] (keep_aside (aside port) (aside port) []) (keep_aside (aside k.inner) (aside k.before) k.events) i.input
      told_input = i.told [] (ap (λ (a : Aside). a.given) started_is)

      -- the bytes that were taken are those that were given
      bytes_are : i.input.bytes ≡ gave k.events
      bytes_are =
          let told = told_input in
          let same : told.given ≡ told_here.given = same_some told.given told_here.given (sym told.given_is ∙ told_here.given_is) in
          ap (λ (g : Given). g.bytes) told.input_is ∙ input_bytes told.given (keep_aside (aside k.inner) (aside k.before) k.events).refused told.one ∙ ap all_bytes same ∙ told_here.bytes_are

      opened_is : (aside k.inner).opened ≡ one_for told_input.given 0
      opened_is = sym (same_opened (is_refused k.events) (aside k.inner) (aside k.before) k.events) ∙ told_input.opened ∙ ap (one_for told_input.given) (ap (λ (a : Aside). a.opened) started_is)

      -- it was closed as often as it was opened
      closed_is : (aside k.inner).closed ≡ (aside k.inner).opened
      closed_is = sym (same_closed (is_refused k.events) (aside k.inner) (aside k.before) k.events) ∙ told_input.closed ∙ ap (one_for told_input.given) (ap (λ (a : Aside). a.closed) started_is) ∙ sym opened_is

      shut : (aside k.inner).is_open ≡ false
      shut = sym (open_is (is_refused k.events) (aside k.inner) (aside k.before) k.events) ∙ told_input.is_closed (ap (λ (a : Aside). a.is_open) started_is)

      few_opened : ((aside k.inner).opened ≤ 1) × ((aside k.inner).opened ≡ 1 → ((aside k.inner).refused ≡ false) × ((aside k.inner).open_faults ≡ 0))
      few_opened =
          let told = told_input in
          let b = is_refused k.events in
          let refused = same_refused b (aside k.inner) (aside k.before) k.events in
          let counted = subst (λ (n : ℕ). CountsOpening told.given (keep_aside (aside k.inner) (aside k.before) k.events).refused n (keep_aside (aside k.inner) (aside k.before) k.events).open_faults) (ap (λ (a : Aside). a.open_faults) started_is) told.opening in
          let counts = subst (λ (n : ℕ). CountsOpening told.given (aside k.inner).refused 0 n) (same_faults b (aside k.inner) (aside k.before) k.events) (subst (λ (q : Bool). CountsOpening told.given q 0 (keep_aside (aside k.inner) (aside k.before) k.events).open_faults) refused counted) in
          opens_few told.given (aside k.inner).refused (aside k.inner).opened (aside k.inner).open_faults opened_is (λ some. sym refused ∙ told.asked some) counts

      -- the input as it was taken of a port that shows no plan
      unplanned_input : WentOn (keep_aside (aside port) (aside port) []) (keep_aside (aside k.inner) (aside k.before) k.events) (Some []) (Some (went_of k.events)) → is_refused k.events ≡ false → Comes meaning p (aside k.inner) i.input i.messages taken.cause
      unplanned_input went fine =
          let calm_is = aside_calm (aside k.inner) (aside k.before) k.events fine in
          let start = subst (λ (a : Aside). (before : List Given) → a.given ≡ Some before → ToldInput before a (keep_aside (aside k.inner) (aside k.before) k.events) i.input) started_is i.told in
          comes_below meaning Stands p (aside k.inner) calls0 (calls k.inner) (went_of k.events) taken
          (record {
            input = i.input;
            messages = i.messages;
            come = i.come;
            noted = i.noted;
            count = i.count;
            size = i.size;
            no_further = i.no_further;
            early = i.early;
            told = subst (λ (a : Aside). (before : List Given) → (unplanned (untouched p)).given ≡ Some before → ToldInput before (unplanned (untouched p)) a i.input) calm_is start;
            shows = λ plan e none. absurd (cc (ap (λ (a : Aside). a.plan) e));
          })
          (subst (λ (a : Aside). WentOn (unplanned (untouched p)) a (Some []) (Some (went_of k.events))) calm_is (subst (λ (a : Aside). WentOn a (keep_aside (aside k.inner) (aside k.before) k.events) (Some []) (Some (went_of k.events))) started_is went))
          (subst (λ (l : List LastRead). FollowsPlan p (aside k.inner) (calls k.inner) l) (r.plan.same fine) follows)
          (λ calm. (r.inner.calm p (ap (λ (a : Aside). a.plan) first_is) calm).1 ∙ ap (λ (a : Aside). a.open_faults) first_is)

      -- all of the input was kept
      pub keeps_input : WentOn (keep_aside (aside port) (aside port) []) (keep_aside (aside k.inner) (aside k.before) k.events) (Some []) (Some (went_of k.events)) → archive.stopped ≡ false → k.refused ≡ None
          → KeepsInput meaning i.input i.messages taken.cause p (aside k.inner) (shown_by shows faults archive.disk) (shown_by shows faults k.archive.disk)
      keeps_input went started none =
          let fine : is_refused k.events ≡ false = r.noted ∙ ap is_some none in
          let other : k.refused ≡ Some append.Failed → ⊥ = λ is. cc (is, none) in
          let only' = subst (λ (l : List ℕ). HasOnly (shows k.archive.disk).now l) (sym bytes_are) (only_kept other) in
          record {
            kept = all_kept i.input.bytes bytes_are fine;
            settled_is = (r.closed t (r.going.same other ∙ stopped_is ∙ started)).kept;
            holds = file_content (shows k.archive.disk).now i.input.bytes only';
            only = only';
            calm = calm_none none;
            comes = unplanned_input went fine;
          }

      -- an append was refused
      pub keeps_for : (why : AppendFault) → archive.stopped ≡ false → k.refused ≡ Some why → KeepsFor why i.input.bytes p (aside k.inner) (shown_by shows faults archive.disk) (shown_by shows faults k.archive.disk)
      keeps_for why started is =
          let f = front few_opened in
          let within : length (gave k.events ++ lost k.events) ≤ length (first_of p.connections) = omega (arith, ap length f.1, length-append (gave k.events ++ lost k.events) f.0) in
          let some : 0 < length (lost k.events) = r.place.some (r.noted ∙ ap is_some is) in
          let same : all_bytes follows.given ≡ gave k.events ++ lost k.events = ap all_bytes (same_some follows.given told_below.given (sym follows.given_is ∙ told_below.given_is)) ∙ told_below.bytes_are in
          let one : (aside k.inner).opened ≡ 1 = opened_once p (aside k.inner) (calls k.inner) (asked k.events) follows.given follows.follows few_opened.0 (omega (arith, ap length same, length-append (gave k.events) (lost k.events), some)) in
          record {
            lost = lost k.events;
            some = some;
            kept = subst (λ (l : List ℕ). KeepsBytes l (lost k.events) (shown_by shows faults archive.disk) (shown_by shows faults k.archive.disk)) (sym bytes_are) bytes_kept;
            rest = f.0;
            front = f.1 ∙ ap (λ (l : List ℕ). (l ++ lost k.events) ++ f.0) (sym bytes_are);
            shown = follows.shown;
            told = subst (λ (l : List ℕ). Told (aside k.inner) (l ++ lost k.events)) (sym bytes_are) told_below;
            opened = one;
            closed = closed_is ∙ one;
            is_closed = shut;
            refused = by why is (length (first_of p.connections)) within;
          }
        where
          by : (w : AppendFault) → k.refused ≡ Some w → (n : ℕ) → length (gave k.events ++ lost k.events) ≤ n → IsRefused w n i.input.bytes (shown_by shows faults archive.disk) (shown_by shows faults k.archive.disk)
          by append.Failed e n within =
              let rose = subst (λ (m : ℕ). (m ≤ faults k.archive.disk) × Rose m (faults k.archive.disk)) faults_is (subst (λ (o : Option AppendFault). KeepCause (faults k.made.disk) (faults k.archive.disk) o) e r.cause) in
              let planned = (subst (λ (d : DiskValue). KeepsDisk tells d (shows k.archive.disk) k.made.place k.events k.refused) value_is r.disk).planned t e in
              let room : k.made.place + 6 * length (gave k.events ++ lost k.events) + 1 ≤ 6 * n + 1 = omega (arith, place_is, zero_is, within) in
              (rose.0, rose.1, λ sound. planned (sound_smaller (shows archive.disk) (k.made.place + 6 * length (gave k.events ++ lost k.events) + 1) (6 * n + 1) room sound))
          by append.Full e n within = (
            subst (λ (o : Option AppendFault). KeepCause (faults k.made.disk) (faults k.archive.disk) o) e r.cause ∙ faults_is,
            omega (arith, r.place.long e, place_is, zero_is, within),
            subst (λ (l : List ℕ). HasOnly (shows k.archive.disk).now l) (sym bytes_are) (only_kept (λ f. cc (e, f))),
          )
          by append.Stopped e n within = absurd (not_stopped started e)

module _ {P D : Type 0} (aside : P → Aside) (calls : P → ℕ) (shows : D → DiskValue) (faults : D → ℕ) (tells : Type 0) (port : P) (archive : ArchiveValue D) (k : KeepPortValue P D) (r : IsRun aside calls shows faults tells port archive k) (meaning : Meaning) where
  -- what became of the input, where there was no memory
  pub starved_on : LeavesInput meaning (keep_aside (aside port) (aside port) []) (keep_aside (aside k.inner) (aside k.before) k.events) → WentOn (keep_aside (aside port) (aside port) []) (keep_aside (aside k.inner) (aside k.before) k.events) (Some []) (Some (went_of k.events))
      → IsTakenIn meaning (HandsEmpty tells (aside port) (calls port) (shown_by shows faults archive.disk) archive.place (aside k.inner) (shown_by shows faults k.archive.disk)) became.Starved
  starved_on leaves went = λ t only z p u c. keeps_front aside calls shows faults tells port archive k r meaning t only z p u c leaves went

  module _ (Stands : List EntryValue → Type 0) (calls0 : ℕ) (taken : Taken) (i : TakesInput meaning Stands (keep_aside (aside port) (aside port) []) (keep_aside (aside k.inner) (aside k.before) k.events) calls0 taken) (started : archive.stopped ≡ false) where
    -- where no append was refused
    pub whole_on : WentOn (keep_aside (aside port) (aside port) []) (keep_aside (aside k.inner) (aside k.before) k.events) (Some []) (Some (went_of k.events)) → k.refused ≡ None
        → IsTakenIn meaning (HandsEmpty tells (aside port) (calls port) (shown_by shows faults archive.disk) archive.place (aside k.inner) (shown_by shows faults k.archive.disk)) (became.Whole taken.bytes taken.cause)
    whole_on went none = (i.input, i.messages, i.come, i.no_further, i.size, λ t only z p u c. keeps_input aside calls shows faults tells port archive k r meaning t only z p u c Stands calls0 taken i went started none)

    -- where one was
    pub cut_on : (why : AppendFault) → k.refused ≡ Some why
        → IsTakenIn meaning (HandsEmpty tells (aside port) (calls port) (shown_by shows faults archive.disk) archive.place (aside k.inner) (shown_by shows faults k.archive.disk)) (became.CutOff taken.bytes why)
    cut_on append.Failed is = (i.input.bytes, i.no_further, i.size, λ t only z p u c. keeps_for aside calls shows faults tells port archive k r meaning t only z p u c Stands calls0 taken i append.Failed started is)
    cut_on append.Full is = (i.input.bytes, i.no_further, i.size, λ t only z p u c. keeps_for aside calls shows faults tells port archive k r meaning t only z p u c Stands calls0 taken i append.Full started is)
    cut_on append.Stopped is = absurd (not_stopped aside calls shows faults tells port archive k r started is)

-- the same of what the port and the disk are called that were handed back
module _ {P D : Type 0} (aside : P → Aside) (shows : D → DiskValue) (faults : D → ℕ) (meaning : Meaning) (tells : Type 0) (first : Aside) (calls : ℕ) (begun : DiskShown) (place : ℕ) where
  pub handed_on : (p q : P) (d e : D) (b : Kept) → q ≡ p → e ≡ d → IsTakenIn meaning (HandsEmpty tells first calls begun place (aside p) (shown_by shows faults d)) b → IsTakenIn meaning (HandsEmpty tells first calls begun place (aside q) (shown_by shows faults e)) b
  handed_on p q d e b same same_disk t =
      subst (λ (x : P). IsTakenIn meaning (HandsEmpty tells first calls begun place (aside x) (shown_by shows faults e)) b) (sym same)
      (subst (λ (x : D). IsTakenIn meaning (HandsEmpty tells first calls begun place (aside p) (shown_by shows faults x)) b) (sym same_disk) t)
