-- The one input connection of a port, opened, taken and closed.
use Rattle.std.proofs.Common.{◌≡◌, ℕ, ◌<◌, length, take, List, [], ◌∷◌, ◌++◌, Option, Some, None, Bool, true, false, Result, Ok, Err, refl, ap, sym, ◌∙◌, subst, inr, append-nil, arith}
use Rattle.std.proofs.lemmas.List.{append_cancel_left}
use Rattle.std.specs.Prelude.{◌↔◌, IfSome, unwrap_or}
use Rattle.std.specs.Io.KnownBytes.{Consumes, IsAtEnd}
use Rattle.bmp_specs.specs.declared.causes.Cause.TheVariants.{Ended, ReadFault}
use Rattle.bmp_specs.proofs.Fronts.{read_no_further}
use Rattle.bmp_specs.specs.Life.{LastRead, gave, gave_none, failed, most_taken, Given, HasCome}
use Rattle.bmp_specs.specs.Meaning.{Meaning}
use Rattle.bmp_specs.specs.Openings.{nothing_told}
use Rattle.bmp_specs.specs.Values.{EntryValue, opened}
use Rattle.wire_io.specs.declared.sink.Failed.{Failed}
use Rattle.wire_io.specs.Aside.{Aside, Plan, fresh}
use Rattle.station_doors.specs.Doors.{Opens, GivesNext, Closes, one_more, untouched, GivesMore, CountsLast}
use Rattle.station_doors.specs.Planned.{first_of, GoesAsPlanned, ReadsAsPlanned}
use Rattle.station_doors.proofs.Planned.{gives_nothing, opens_first, none_left, failed_to_open}
use Rattle.station_doors.proofs.ReadLaws.{front_of}
use Rattle.station_doors.proofs.Sessions.{given_more_last}
use Rattle.station_top.specs.Input.{input_of}
use Rattle.station_top.specs.Take.{IsNew, Takes, TakesBytes, TakesInput, ToldInput, LeavesInput, WentOn, ReadsOn, HasBegun, BreaksOff, CountsOpening, Comes, last_given}
use Rattle.station_top.specs.declared.take.Taken.{Taken}
use Rattle.bmp_specs.specs.Walk.{whole}
use Rattle.station_top.proofs.Causes.{come_of, come_none, come_unopened}

new_given : (a b : Option (List Given)) → GivesNext a b (Ok true) → GivesMore b b [] gave
new_given None b p = subst (λ (o : Option (List Given)). GivesMore o o [] gave) (sym p) refl
new_given (Some gs) b p = subst (λ (o : Option (List Given)). GivesMore o o [] gave) (sym p) (ap (λ (l : List Given). Some l) (sym (given_more_last gs fresh [] gave)))

-- a connection that was opened
pub is_new : (a b : Aside) → Opens a b (Ok true) → IsNew b
is_new a b o = record { is_open = o.is_open; none = o.taken; fresh = new_given a.given b.given o.given }

-- what is told of one list is told of the other
pub some_is : {A : Type 0} (x y : A) → Some x ≡ Some y → x ≡ y
some_is {A} x y e = ap (λ (o : Option A). unwrap_or o x) e

given_first : (given now : Option (List Given)) (bytes : List ℕ) (last : LastRead) → given ≡ Some (fresh ∷ []) → GivesMore given now bytes last → now ≡ Some (record { bytes = bytes; last = last } ∷ [])
given_first given now bytes last e p = subst (λ (o : Option (List Given)). GivesMore o now bytes last) e p

-- where the plan fails no read, none failed
pub none_failed : (plan : Plan) (reads : ℕ) (last : LastRead) → GoesAsPlanned plan reads last → plan.fails ≡ [] → last ≡ failed → ⊥
none_failed plan reads failed fails none h = omega (arith, fails.1, ap length none)
none_failed plan reads gave goes none h = cc h
none_failed plan reads gave_none goes none h = cc h

-- where no read failed before, the count of their faults tells whether the last one did
pub failed_counted : (now : ℕ) (last : LastRead) → CountsLast 0 now last → (last ≡ failed) ↔ 0 < now
failed_counted now gave same = (λ h. cc h, λ some. absurd (omega (arith, same, some)))
failed_counted now gave_none same = (λ h. cc h, λ some. absurd (omega (arith, same, some)))
failed_counted now failed rose = (λ _. omega (arith, rose.0), λ _. refl)

-- the one input connection was opened, taken and closed
comes : (meaning : Meaning) (Stands : List EntryValue → Type 0) (plan : Plan) (a b c d : Aside) (w0 w1 : Option (List LastRead)) (calls : ℕ) (taken : Taken) (t : Takes meaning Stands b c w0 w1 calls taken) → a ≡ untouched plan → calls ≡ 0 → Opens a b (Ok true) → Closes c d
    → Comes meaning plan d (record { bytes = t.bytes; last = t.last }) t.messages taken.cause
comes meaning Stands plan a b c d w0 w1 calls taken t e none o shut =
    let o1 = subst (λ (x : Aside). Opens x b (Ok true)) e o in
    let first = opens_first plan.connections b.coming b.rest o1.coming in
    let front = front_of first.0 c.rest t.bytes (subst (λ (r : Option (List ℕ)). Consumes r c.rest t.bytes) first.1 t.took.rest) in
    let refused : d.refused ≡ false = ap (λ (x : Aside). x.refused) shut.same ∙ t.took.refused ∙ o1.refused in
    let opened : d.open_faults ≡ 0 = ap (λ (x : Aside). x.open_faults) shut.same ∙ t.took.open_faults ∙ o1.cause.fine in
    let faults = subst (λ (k : ℕ). CountsLast k d.read_faults t.last) o1.calm (subst (λ (k : ℕ). CountsLast b.read_faults k t.last) (sym (ap (λ (x : Aside). x.read_faults) shut.same)) t.took.read_faults) in
    let read = failed_counted d.read_faults t.last faults in
    let planned : ReadsAsPlanned plan t.bytes t.last = subst (λ (p : Option Plan). IfSome p (λ x. ReadsAsPlanned x t.bytes t.last)) o1.plan (t.took.planned none) in
    record {
      shown = ap (λ (x : Aside). x.plan) shut.same ∙ t.took.plan ∙ o1.plan;
      given = record { bytes = t.bytes; last = t.last } ∷ [];
      given_is = ap (λ (x : Aside). x.given) shut.same ∙ given_first b.given c.given t.bytes t.last o1.given t.took.given;
      one = omega arith;
      some = omega (arith, first.3);
      coming = ap (λ (x : Aside). x.coming) shut.same ∙ t.took.coming ∙ first.4;
      opened = ap (λ (x : Aside). x.opened) shut.same ∙ t.took.opened ∙ o1.opened;
      closed = ap (λ (x : Aside). x.closed) shut.same ∙ ap one_more (t.took.closed ∙ o1.closed);
      is_closed = ap (λ (x : Aside). x.is_open) shut.same;
      asked = λ _. refused;
      none = λ yes'. absurd (cc (refused, yes'));
      input_is = refl;
      rest = front.0;
      front = first.2 ∙ front.1;
      whole = λ h. front.2 (t.took.end h);
      steady = λ h. come_of meaning (first_of plan.connections) t.bytes front.0 t.last t.messages (first.2 ∙ front.1) (λ w. front.2 (t.took.end w)) (none_failed plan planned.0 t.last planned.2 h) taken.cause t.come t.early;
      reads = planned.0;
      gives = planned.1;
      next = λ _. planned.2;
      opening = (λ h. cc h.0, λ some. absurd (omega (arith, some, opened)));
      reading = (λ h. read.0 h.1, λ some. (omega arith, read.1 some));
    }

-- what a port shows as given whose one connection was opened, read and closed
given_on : (before : List Given) (a b c d : Aside) (bytes : List ℕ) (last : LastRead) → a.given ≡ Some before → Opens a b (Ok true) → GivesMore b.given c.given bytes last → Closes c d → d.given ≡ Some (before ++ record { bytes = bytes; last = last } ∷ [])
given_on before a b c d bytes last is o more shut =
    let opened = subst (λ (x : Option (List Given)). GivesNext x b.given (Ok true)) is o.given in
    ap (λ (x : Aside). x.given) shut.same ∙ subst (λ (x : Option (List Given)). GivesMore x c.given bytes last) opened more ∙ ap (λ (l : List Given). Some l) (given_more_last before fresh bytes last)

told_opened : (meaning : Meaning) (before : List Given) (a b c d : Aside) (w0 w1 : Option (List LastRead)) (calls : ℕ) (bytes : List ℕ) (last : LastRead) → a.given ≡ Some before → TakesBytes meaning b c w0 w1 calls bytes last → Opens a b (Ok true) → Closes c d
    → ToldInput before a d (record { bytes = bytes; last = last })
told_opened meaning before a b c d w0 w1 calls bytes last is t o shut = record {
  given = record { bytes = bytes; last = last } ∷ [];
  given_is = given_on before a b c d bytes last is o t.given shut;
  one = omega arith;
  input_is = refl;
  opened = ap (λ (x : Aside). x.opened) shut.same ∙ t.opened ∙ o.opened;
  closed = ap (λ (x : Aside). x.closed) shut.same ∙ ap one_more (t.closed ∙ o.closed);
  is_closed = λ _. ap (λ (x : Aside). x.is_open) shut.same;
  asked = λ _. ap (λ (x : Aside). x.refused) shut.same ∙ t.refused ∙ o.refused;
  opening = ap (λ (x : Aside). x.open_faults) shut.same ∙ t.open_faults ∙ o.cause.fine;
  reading = subst (λ (k : ℕ). CountsLast k d.read_faults last) o.calm (subst (λ (k : ℕ). CountsLast b.read_faults k last) (sym (ap (λ (x : Aside). x.read_faults) shut.same)) t.read_faults);
}

pub takes_opened : (meaning : Meaning) (Stands : List EntryValue → Type 0) (a b c d : Aside) (w0 w1 : Option (List LastRead)) (calls0 calls : ℕ) (taken : Taken) → Takes meaning Stands b c w0 w1 calls taken → Opens a b (Ok true) → Closes c d → calls ≡ calls0 → TakesInput meaning Stands a d calls0 taken
takes_opened meaning Stands a b c d w0 w1 calls0 calls taken t o shut same = record {
  input = record { bytes = t.bytes; last = t.last };
  messages = t.messages;
  come = t.come;
  noted = t.noted;
  count = t.count;
  size = t.size;
  no_further = t.took.no_further;
  early = t.early;
  told = λ before is. told_opened meaning before a b c d w0 w1 calls t.bytes t.last is t.took o shut;
  shows = λ plan e none. comes meaning Stands plan a b c d w0 w1 calls taken t e (same ∙ none) o shut;
}

-- the one input connection was begun, and memory ran out
has_begun : (meaning : Meaning) (plan : Plan) (a b c d : Aside) (w0 w1 : Option (List LastRead)) (calls : ℕ) (bytes : List ℕ) → TakesBytes meaning b c w0 w1 calls bytes gave → a ≡ untouched plan → calls ≡ 0 → Opens a b (Ok true) → Closes c d → HasBegun meaning plan d
has_begun meaning plan a b c d w0 w1 calls bytes t e none o shut =
    let o1 = subst (λ (x : Aside). Opens x b (Ok true)) e o in
    let first = opens_first plan.connections b.coming b.rest o1.coming in
    let front = front_of first.0 c.rest bytes (subst (λ (r : Option (List ℕ)). Consumes r c.rest bytes) first.1 t.rest) in
    let planned : ReadsAsPlanned plan bytes gave = subst (λ (p : Option Plan). IfSome p (λ x. ReadsAsPlanned x bytes gave)) o1.plan (t.planned none) in
    record {
      shown = ap (λ (x : Aside). x.plan) shut.same ∙ t.plan ∙ o1.plan;
      bytes = bytes;
      given = ap (λ (x : Aside). x.given) shut.same ∙ given_first b.given c.given bytes gave o1.given t.given;
      some = first.3;
      coming = ap (λ (x : Aside). x.coming) shut.same ∙ t.coming ∙ first.4;
      opened = ap (λ (x : Aside). x.opened) shut.same ∙ t.opened ∙ o1.opened;
      closed = ap (λ (x : Aside). x.closed) shut.same ∙ ap one_more (t.closed ∙ o1.closed);
      is_closed = ap (λ (x : Aside). x.is_open) shut.same;
      asked = ap (λ (x : Aside). x.refused) shut.same ∙ t.refused ∙ o1.refused;
      rest = front.0;
      front = first.2 ∙ front.1;
      within = t.within;
      no_further = t.no_further;
      reads = planned.0;
      gives = planned.1;
      opening = ap (λ (x : Aside). x.open_faults) shut.same ∙ t.open_faults ∙ o1.cause.fine;
      reading = ap (λ (x : Aside). x.read_faults) shut.same ∙ t.read_faults ∙ o1.calm;
    }

pub breaks_opened : (meaning : Meaning) (a b c d : Aside) (w0 w1 : Option (List LastRead)) (calls0 calls : ℕ) → (bytes : List ℕ) × TakesBytes meaning b c w0 w1 calls bytes gave → Opens a b (Ok true) → Closes c d → calls ≡ calls0 → (plan : Plan) → a ≡ untouched plan → calls0 ≡ 0 → BreaksOff meaning plan d
breaks_opened meaning a b c d w0 w1 calls0 calls t o shut same plan untold none = inr (has_begun meaning plan a b c d w0 w1 calls t.0 t.1 untold (same ∙ none) o shut)

-- the same of a port that may show no plan
pub leaves_opened : (meaning : Meaning) (a b c d : Aside) (w0 w1 : Option (List LastRead)) (calls : ℕ) → (bytes : List ℕ) × TakesBytes meaning b c w0 w1 calls bytes gave → Opens a b (Ok true) → Closes c d → LeavesInput meaning a d
leaves_opened meaning a b c d w0 w1 calls t o shut = inr (record {
  bytes = t.0;
  given = λ before is. given_on before a b c d t.0 gave is o t.1.given shut;
  opened = ap (λ (x : Aside). x.opened) shut.same ∙ t.1.opened ∙ o.opened;
  closed = ap (λ (x : Aside). x.closed) shut.same ∙ ap one_more (t.1.closed ∙ o.closed);
  is_closed = ap (λ (x : Aside). x.is_open) shut.same;
  asked = ap (λ (x : Aside). x.refused) shut.same ∙ t.1.refused ∙ o.refused;
  within = t.1.within;
  no_further = t.1.no_further;
  open_faults = ap (λ (x : Aside). x.open_faults) shut.same ∙ t.1.open_faults ∙ o.cause.fine;
  read_faults = ap (λ (x : Aside). x.read_faults) shut.same ∙ t.1.read_faults ∙ o.calm;
})

-- how its reads went
reads_moved : (a b c d : Option (List LastRead)) (last : LastRead) → b ≡ a → ReadsOn b c last → d ≡ c → ReadsOn a d last
reads_moved a b c d last first r then' = subst (λ (x : Option (List LastRead)). ReadsOn a x last) (sym then') (subst (λ (x : Option (List LastRead)). ReadsOn x c last) first r)

pub went_opened : (meaning : Meaning) (a b c d : Aside) (v0 w0 w1 v1 : Option (List LastRead)) (calls : ℕ) (bytes : List ℕ) (last : LastRead) → TakesBytes meaning b c w0 w1 calls bytes last → Opens a b (Ok true) → Closes c d → w0 ≡ v0 → v1 ≡ w1 → WentOn a d v0 v1
went_opened meaning a b c d v0 w0 w1 v1 calls bytes last t o shut first then' = record {
  last = last;
  reads = reads_moved v0 w0 w1 v1 last first t.went then';
  told = λ before given was now. ap last_given (append_cancel_left before given (record { bytes = bytes; last = last } ∷ []) (some_is (before ++ given) (before ++ record { bytes = bytes; last = last } ∷ []) (sym now ∙ given_on before a b c d bytes last was o t.given shut)));
}

unread_on : (v : Option (List LastRead)) → ReadsOn v v gave
unread_on None = refl
unread_on (Some old) = ([], tt, refl, refl)

-- no connection was given, and no read was made
pub went_none : (a b : Aside) (v0 v1 : Option (List LastRead)) → b.given ≡ a.given → v1 ≡ v0 → WentOn a b v0 v1
went_none a b v0 v1 same read = record {
  last = gave;
  reads = subst (λ (x : Option (List LastRead)). ReadsOn v0 x gave) (sym read) (unread_on v0);
  told = λ before given was now. ap last_given (append_cancel_left before given [] (some_is (before ++ given) before (sym now ∙ same ∙ was) ∙ sym (append-nil before)));
}

pub unopened_given : (a b : Aside) (r : Result Bool Failed) → (r ≡ Ok true → ⊥) → Opens a b r → b.given ≡ a.given
unopened_given a b r not o = at a.given b.given r not o.given
  where
    at : (x y : Option (List Given)) (r : Result Bool Failed) → (r ≡ Ok true → ⊥) → GivesNext x y r → y ≡ x
    at None y r not g = g
    at (Some gs) y (Ok true) not g = absurd (not refl)
    at (Some gs) y (Ok false) not g = g
    at (Some gs) y (Err e) not g = g

-- there was no connection: an empty one that ended
pub takes_none : (meaning : Meaning) (Stands : List EntryValue → Type 0) (a b : Aside) (calls0 : ℕ) (taken : Taken) → Stands (opened nothing_told ∷ []) → Opens a b (Ok false) → taken ≡ record { cause = Ended; revision = 1; bytes = 0 } → TakesInput meaning Stands a b calls0 taken
takes_none meaning Stands a b calls0 taken stands o is = rw is (record {
  input = record { bytes = []; last = gave_none };
  messages = [];
  come = come_none meaning;
  noted = stands;
  count = refl;
  size = refl;
  no_further = read_no_further meaning [] [] 0 whole (refl, refl) tt [] (omega arith);
  early = λ e. absurd e;
  told = λ before is. record {
    given = [];
    given_is = subst (λ (x : Option (List Given)). GivesNext x b.given (Ok false)) is o.given ∙ ap (λ (l : List Given). Some l) (sym (append-nil before));
    one = omega arith;
    input_is = subst (λ (r : Bool). record { bytes = []; last = gave_none } ≡ input_of [] r) (sym o.refused) refl;
    opened = o.opened;
    closed = o.closed;
    is_closed = λ shut. o.is_open ∙ shut;
    asked = λ one. absurd (omega (arith, one));
    opening = subst (λ (r : Bool). CountsOpening [] r a.open_faults b.open_faults) (sym o.refused) o.cause.fine;
    reading = o.calm;
  };
  shows = shows;
})
  where
    shows : (plan : Plan) → a ≡ untouched plan → calls0 ≡ 0 → Comes meaning plan b (record { bytes = []; last = gave_none }) [] Ended
    shows plan e none =
        let o1 = subst (λ (x : Aside). Opens x b (Ok false)) e o in
        let left = none_left plan.connections b.coming b.rest o1.coming in
        let first = ap first_of left.0 in
        record {
          shown = o1.plan;
          given = [];
          given_is = o1.given;
          one = omega arith;
          some = omega arith;
          coming = left.1;
          opened = o1.opened;
          closed = o1.closed;
          is_closed = o1.is_open;
          asked = λ one. absurd (omega (arith, one));
          none = λ _. left.0;
          input_is = subst (λ (r : Bool). record { bytes = []; last = gave_none } ≡ input_of [] r) (sym o1.refused) refl;
          rest = [];
          front = first;
          whole = λ _. refl;
          steady = λ _. subst (λ (l : List ℕ). HasCome meaning (record { bytes = take most_taken l; last = gave_none }) [] Ended) (sym first) (come_none meaning);
          reads = 0;
          gives = gives_nothing plan;
          next = λ some. absurd (omega (arith, some));
          opening = (λ h. cc (h.1, o1.refused), λ some. absurd (omega (arith, some, o1.cause.fine)));
          reading = (λ h. absurd (omega (arith, h.0)), λ some. absurd (omega (arith, some, o1.calm)));
        }

-- no connection could be opened: an empty one whose read failed
pub takes_unopened : (meaning : Meaning) (Stands : List EntryValue → Type 0) (a b : Aside) (calls0 : ℕ) (e : Failed) (taken : Taken) → Stands (opened nothing_told ∷ []) → Opens a b (Err e) → IfSome a.plan (λ p. p.fails ≡ [] → ⊥) → taken ≡ record { cause = ReadFault 0; revision = 1; bytes = 0 } → TakesInput meaning Stands a b calls0 taken
takes_unopened meaning Stands a b calls0 e taken stands o fails is = rw is (record {
  input = record { bytes = []; last = failed };
  messages = [];
  come = come_unopened meaning;
  noted = stands;
  count = refl;
  size = refl;
  no_further = read_no_further meaning [] [] 0 whole (refl, refl) tt [] (omega arith);
  early = λ e. absurd e;
  told = λ before is'. record {
    given = [];
    given_is = subst (λ (x : Option (List Given)). GivesNext x b.given (Err e)) is' o.given ∙ ap (λ (l : List Given). Some l) (sym (append-nil before));
    one = omega arith;
    input_is = subst (λ (r : Bool). record { bytes = []; last = failed } ≡ input_of [] r) (sym o.refused) refl;
    opened = o.opened;
    closed = o.closed;
    is_closed = λ shut. o.is_open ∙ shut;
    asked = λ one. absurd (omega (arith, one));
    opening = subst (λ (r : Bool). CountsOpening [] r a.open_faults b.open_faults) (sym o.refused) o.cause.failed;
    reading = o.calm;
  };
  shows = shows;
})
  where
    shows : (plan : Plan) → a ≡ untouched plan → calls0 ≡ 0 → Comes meaning plan b (record { bytes = []; last = failed }) [] (ReadFault 0)
    shows plan untold none =
        let o1 = subst (λ (x : Aside). Opens x b (Err e)) untold o in
        let some = subst (λ (x : Aside). IfSome x.plan (λ p. p.fails ≡ [] → ⊥)) untold fails in
        record {
          shown = o1.plan;
          given = [];
          given_is = o1.given;
          one = omega arith;
          some = omega arith;
          coming = failed_to_open plan.connections b.coming b.rest e o1.coming;
          opened = o1.opened;
          closed = o1.closed;
          is_closed = o1.is_open;
          asked = λ one. absurd (omega (arith, one));
          none = λ yes'. absurd (cc (o1.refused, yes'));
          input_is = subst (λ (r : Bool). record { bytes = []; last = failed } ≡ input_of [] r) (sym o1.refused) refl;
          rest = first_of plan.connections;
          front = refl;
          whole = λ h. absurd (cc h);
          steady = λ h. absurd (some h);
          reads = 0;
          gives = gives_nothing plan;
          next = λ one. absurd (omega (arith, one));
          opening = (λ _. omega (arith, o1.cause.failed.0), λ _. (refl, o1.refused));
          reading = (λ h. absurd (omega (arith, h.0)), λ one. absurd (omega (arith, one, o1.calm)));
        }
