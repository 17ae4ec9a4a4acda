-- What a port comes to whose input was taken through another over it, which shows all that it shows but its plan.
use Rattle.std.proofs.Common.{◌≡◌, ◌<◌, ◌≤◌, ℕ, length, take, List, [], ◌∷◌, ◌++◌, Option, Some, None, Bool, true, false, refl, ap, sym, ◌∙◌, subst, inl, inr, append-nil, arith}
use Rattle.bmp_specs.specs.declared.causes.Cause.{Cause}
use Rattle.bmp_specs.specs.Life.{LastRead, gave, gave_none, failed, most_taken, Given, HasCome}
use Rattle.bmp_specs.specs.Meaning.{Meaning}
use Rattle.bmp_specs.specs.Values.{EntryValue}
use Rattle.wire_io.specs.Aside.{Aside, Plan}
use Rattle.station_doors.specs.Doors.{untouched, CountsLast}
use Rattle.station_doors.specs.Planned.{first_of, ReadsAsPlanned, GaveBefore, last_of_reads, FollowsFirst, FollowsNone, FollowsBy, FollowsPlan}
use Rattle.station_doors.proofs.Planned.{gives_nothing}
use Rattle.station_top.specs.Input.{input_of}
use Rattle.station_top.specs.Take.{TakesInput, WentOn, ReadsOn, LeavesInput, CountsOpening, IsEarly, Comes, BreaksOff, last_given, one_for}
use Rattle.station_top.specs.declared.take.Taken.{Taken}
use Rattle.station_top.proofs.Causes.{come_of}
use Rattle.station_top.proofs.Coming.{some_is, none_failed, failed_counted}

-- what is shown but for the plan
abbrev pub unplanned : Aside → Aside
unplanned a = record a { plan = None }

-- how its reads went
reads_all : (went : List LastRead) (last : LastRead) → ReadsOn (Some []) (Some went) last → GaveBefore went × (last_of_reads went ≡ last)
reads_all went last (made, gaves, at, is) =
    let same : went ≡ made = some_is went (made ++ []) is ∙ append-nil made in
    (subst (λ (l : List LastRead). GaveBefore l) (sym same) gaves, ap last_of_reads same ∙ at)

module _ (meaning : Meaning) (plan : Plan) (now : Aside) (calls : ℕ) (went : List LastRead) (messages : List EntryValue) (cause : Cause) (shown : now.plan ≡ Some plan) where
  -- it gave one connection
  one_below : (g : Given) → now.given ≡ Some (g ∷ []) → (now.opened ≡ 1) × (now.refused ≡ false → now.open_faults ≡ 0 → FollowsFirst plan now calls went g) → now.closed ≡ 1 → now.is_open ≡ false → now.refused ≡ false → now.open_faults ≡ 0
      → CountsLast 0 now.read_faults g.last → GaveBefore went → last_of_reads went ≡ g.last → HasCome meaning g messages cause
      → (IsEarly cause → (after : List ℕ) (at : LastRead) → length (g.bytes ++ after) ≤ most_taken → HasCome meaning (record { bytes = g.bytes ++ after; last = at }) messages cause) → Comes meaning plan now g messages cause
  one_below g given f closed shut fine calm faults gaves last come early =
      let p = f.1 fine calm in
      let read : ReadsAsPlanned plan g.bytes g.last = subst (λ (l : LastRead). ReadsAsPlanned plan g.bytes l) last (p.reads gaves) in
      let counted = failed_counted now.read_faults g.last faults in
      record {
        shown = shown;
        given = g ∷ [];
        given_is = given;
        one = omega arith;
        some = omega (arith, p.some);
        coming = p.coming;
        opened = f.0;
        closed = closed;
        is_closed = shut;
        asked = λ _. fine;
        none = λ yes'. absurd (cc (fine, yes'));
        input_is = refl;
        rest = p.rest;
        front = p.front;
        whole = p.whole;
        steady = λ h. come_of meaning (first_of plan.connections) g.bytes p.rest g.last messages p.front p.whole (none_failed plan read.0 g.last read.2 h) cause come early;
        reads = read.0;
        gives = read.1;
        next = λ _. read.2;
        opening = (λ h. cc h.0, λ some. absurd (omega (arith, some, calm)));
        reading = (λ h. counted.0 h.1, λ some. (omega arith, counted.1 some));
      }

  -- it gave none
  none_below : (refused : Bool) → now.refused ≡ refused → now.given ≡ Some [] → FollowsNone plan now calls went → now.closed ≡ 0 → CountsOpening [] refused 0 now.open_faults → now.read_faults ≡ 0 → (plan.fails ≡ [] → now.open_faults ≡ 0) → HasCome meaning (input_of [] refused) messages cause
      → Comes meaning plan now (input_of [] refused) messages cause
  none_below true is given f closed opening faults calm come =
      let left = ap first_of (f.none is) in
      record {
        shown = shown;
        given = [];
        given_is = given;
        one = omega arith;
        some = omega arith;
        coming = f.coming;
        opened = f.opened;
        closed = closed;
        is_closed = f.is_closed;
        asked = λ one. absurd (omega (arith, one));
        none = λ yes'. f.none yes';
        input_is = subst (λ (r : Bool). record { bytes = []; last = gave_none } ≡ input_of [] r) (sym is) refl;
        rest = [];
        front = left;
        whole = λ _. refl;
        steady = λ _. subst (λ (l : List ℕ). HasCome meaning (record { bytes = take most_taken l; last = gave_none }) messages cause) (sym left) come;
        reads = 0;
        gives = gives_nothing plan;
        next = λ some. absurd (omega (arith, some));
        opening = (λ h. cc (h.1, is), λ some. absurd (omega (arith, some, opening)));
        reading = (λ h. absurd (omega (arith, h.0)), λ some. absurd (omega (arith, some, faults)));
      }
  none_below false is given f closed opening faults calm come = record {
    shown = shown;
    given = [];
    given_is = given;
    one = omega arith;
    some = omega arith;
    coming = f.coming;
    opened = f.opened;
    closed = closed;
    is_closed = f.is_closed;
    asked = λ one. absurd (omega (arith, one));
    none = λ yes'. absurd (cc (is, yes'));
    input_is = subst (λ (r : Bool). record { bytes = []; last = failed } ≡ input_of [] r) (sym is) refl;
    rest = first_of plan.connections;
    front = refl;
    whole = λ h. absurd (cc h);
    steady = λ h. absurd (omega (arith, opening.0, calm h));
    reads = 0;
    gives = gives_nothing plan;
    next = λ one. absurd (omega (arith, one));
    opening = (λ _. omega (arith, opening.0), λ _. (refl, is));
    reading = (λ h. absurd (omega (arith, h.0)), λ one. absurd (omega (arith, one, faults)));
  }

-- What the input comes to that was taken through a port over this one, which had answered no call before. Its reads went
-- as those of that one, and no opening fails where its plan fails none.
pub comes_below : (meaning : Meaning) (Stands : List EntryValue → Type 0) (plan : Plan) (now : Aside) (calls0 calls : ℕ) (went : List LastRead) (taken : Taken) (t : TakesInput meaning Stands (unplanned (untouched plan)) (unplanned now) calls0 taken)
    → WentOn (unplanned (untouched plan)) (unplanned now) (Some []) (Some went) → FollowsPlan plan now calls went → (plan.fails ≡ [] → now.open_faults ≡ 0) → Comes meaning plan now t.input t.messages taken.cause
comes_below meaning Stands plan now calls0 calls went taken t w f calm =
    let told = t.told [] refl in
    let read = reads_all went w.last w.reads in
    let follows = subst (λ (l : List Given). FollowsBy plan now calls went l) (some_is f.given told.given (sym f.given_is ∙ told.given_is)) f.follows in
    by told.given follows told.given_is told.one told.input_is told.closed (told.is_closed refl) told.asked told.opening told.reading read.0 (read.1 ∙ sym (w.told [] told.given refl told.given_is))
  where
    by : (gs : List Given) → FollowsBy plan now calls went gs → now.given ≡ Some gs → length gs ≤ 1 → t.input ≡ input_of gs now.refused → now.closed ≡ one_for gs 0 → now.is_open ≡ false → (0 < length gs → now.refused ≡ false) → CountsOpening gs now.refused 0 now.open_faults → CountsLast 0 now.read_faults (last_given gs)
        → GaveBefore went → last_of_reads went ≡ last_given gs → Comes meaning plan now t.input t.messages taken.cause
    by [] n given one is closed shut asked opening faults gaves last =
        subst (λ (i : Given). Comes meaning plan now i t.messages taken.cause) (sym is)
        (none_below meaning plan now calls went t.messages taken.cause f.shown now.refused refl given n closed opening faults calm (subst (λ (i : Given). HasCome meaning i t.messages taken.cause) is t.come))
    by (g ∷ []) n given one is closed shut asked opening faults gaves last =
        subst (λ (i : Given). Comes meaning plan now i t.messages taken.cause) (sym is)
        (one_below meaning plan now calls went t.messages taken.cause f.shown g given n closed shut (asked (omega arith)) opening faults gaves last (subst (λ (i : Given). HasCome meaning i t.messages taken.cause) is t.come)
        (subst (λ (i : Given). IsEarly taken.cause → (after : List ℕ) (at : LastRead) → length (i.bytes ++ after) ≤ most_taken → HasCome meaning (record { bytes = i.bytes ++ after; last = at }) t.messages taken.cause) is t.early))
    by (g ∷ h ∷ gs) n given one is closed shut asked opening faults gaves last = absurd (omega (arith, one))

-- What it gave is a front of its plan's first connection, where it gave one at most and was asked for no other.
pub front_below : (plan : Plan) (now : Aside) (calls : ℕ) (went : List LastRead) → FollowsPlan plan now calls went → now.opened ≤ 1 → (now.opened ≡ 1 → (now.refused ≡ false) × (now.open_faults ≡ 0))
    → (given : List Given) × (now.given ≡ Some given) × (length given ≤ 1) × (rest : List ℕ) × (first_of plan.connections ≡ (input_of given true).bytes ++ rest)
front_below plan now calls went f few fine = by f.given f.given_is f.follows
  where
    by : (gs : List Given) → now.given ≡ Some gs → FollowsBy plan now calls went gs → (given : List Given) × (now.given ≡ Some given) × (length given ≤ 1) × (rest : List ℕ) × (first_of plan.connections ≡ (input_of given true).bytes ++ rest)
    by [] is n = ([], is, omega arith, first_of plan.connections, refl)
    by (g ∷ []) is n = let p = n.1 (fine n.0).0 (fine n.0).1 in (g ∷ [], is, omega arith, p.rest, p.front)
    by (g ∷ h ∷ gs) is n = absurd (omega (arith, few, n))

-- what an aside is that shows a plan
planned : (plan : Plan) (a : Aside) → a.plan ≡ Some plan → a ≡ record a { plan = Some plan }
planned plan a shown = ap (λ (p : Option Plan). record a { plan = p }) shown

-- The same where memory ran out.
pub breaks_below : (meaning : Meaning) (plan : Plan) (now : Aside) (calls : ℕ) (went : List LastRead) → LeavesInput meaning (unplanned (untouched plan)) (unplanned now) → WentOn (unplanned (untouched plan)) (unplanned now) (Some []) (Some went) → FollowsPlan plan now calls went → BreaksOff meaning plan now
breaks_below meaning plan now calls went (inl same) w f = inl (planned plan now f.shown ∙ ap (λ (a : Aside). record a { plan = Some plan }) same)
breaks_below meaning plan now calls went (inr b) w f =
    let given : now.given ≡ Some (record { bytes = b.bytes; last = gave } ∷ []) = b.given [] refl in
    let follows = subst (λ (l : List Given). FollowsBy plan now calls went l) (some_is f.given (record { bytes = b.bytes; last = gave } ∷ []) (sym f.given_is ∙ given)) f.follows in
    let p = follows.1 b.asked b.open_faults in
    let read = p.reads (reads_all went w.last w.reads).0 in
    inr (record {
      shown = f.shown;
      bytes = b.bytes;
      given = given;
      some = p.some;
      coming = p.coming;
      opened = b.opened;
      closed = b.closed;
      is_closed = b.is_closed;
      asked = b.asked;
      rest = p.rest;
      front = p.front;
      within = b.within;
      no_further = b.no_further;
      reads = read.0;
      gives = read.1;
      opening = b.open_faults;
      reading = b.read_faults;
    })
