-- What is told of a port that keeps what it gives, call by call.
use Rattle.std.proofs.Common.{◌≡◌, ℕ, suc, ◌+◌, ◌*◌, ◌<◌, ◌≤◌, List, [], ◌∷◌, ◌++◌, Option, None, Some, Result, Ok, Err, take, length, refl, sym, ◌∙◌, ap, subst, append_assoc, append-nil, length-append, arith}
use Rattle.std.specs.Option.{is_some}
use Rattle.feed_archive.specs.Archive.{most_archive}
use Rattle.feed_archive.specs.Appending.{ArchiveValue, AppendAnswers}
use Rattle.feed_archive.specs.declared.fault.AppendFault.{AppendFault}
use Rattle.feed_archive.specs.declared.fault.AppendFault.TheVariants.{Failed as DiskFailed, Full, Stopped}
use mathlib.Core.Bool.{Bool, true, false, false≢true}
use Rattle.bmp_specs.specs.Life.{LastRead, failed, Given}
use Rattle.wire_io.specs.declared.sink.Failed.{Failed}
use Rattle.wire_io.specs.Aside.{Aside, Plan, fresh}
use Rattle.std.specs.Prelude.{IfSome, OnErr, Contains}
use Rattle.station_doors.specs.Doors.{given_more, GivesBytes, GivesNext, open_after, Reads, Opens, Closes, AsPlanned}
use Rattle.disk_doors.specs.Note.{Event}
use Rattle.feed_archive.specs.Keeping.{gave, lost, all_bytes, Told, TellsBytes, InnerGave, KeepsPlace, marked, joined_by, given_later, is_refused, keep_aside, calm, late, told_by}

no_call : (fails : List ℕ) (call : ℕ) → fails ≡ [] → Contains fails call → ⊥
no_call fails call none (k, l, is) = omega (arith, l, ap length none)

all_more : (gs : List Given) (bytes : List ℕ) (last : LastRead) → (gs ≡ [] → ⊥) → all_bytes (given_more gs bytes last) ≡ all_bytes gs ++ bytes
all_more [] bytes last some = absurd (some refl)
all_more (g ∷ []) bytes last some = append-nil (g.bytes ++ bytes) ∙ ap (λ (l : List ℕ). l ++ bytes) (sym (append-nil g.bytes))
all_more (g ∷ h ∷ gs) bytes last some = ap (λ (l : List ℕ). g.bytes ++ l) (all_more (h ∷ gs) bytes last (λ e. absurd cc)) ∙ sym (append_assoc g.bytes (all_bytes (h ∷ gs)) bytes)

all_marked : (gs : List Given) (last : LastRead) → all_bytes (given_more gs [] last) ≡ all_bytes gs
all_marked [] last = refl
all_marked (g ∷ gs) last = all_more (g ∷ gs) [] last (λ e. absurd cc) ∙ append-nil (all_bytes (g ∷ gs))

more_some : (gs : List Given) (bytes : List ℕ) (last : LastRead) → (gs ≡ [] → ⊥) → given_more gs bytes last ≡ [] → ⊥
more_some [] bytes last some = λ e. some refl
more_some (g ∷ []) bytes last some = λ e. absurd cc
more_some (g ∷ h ∷ gs) bytes last some = λ e. absurd cc

all_opened : (gs : List Given) → all_bytes (gs ++ fresh ∷ []) ≡ all_bytes gs
all_opened [] = refl
all_opened (g ∷ gs) = ap (λ (l : List ℕ). g.bytes ++ l) (all_opened gs)

opened_some : (gs : List Given) → gs ++ fresh ∷ [] ≡ [] → ⊥
opened_some [] = λ e. absurd cc
opened_some (g ∷ gs) = λ e. absurd cc

-- bytes were given
pub told_gives : (old new : Aside) (bytes after : List ℕ) (n : ℕ) (buf : List ℕ) → Told old bytes → old.is_open ≡ true → GivesBytes old.given new.given (Ok n) buf → new.is_open ≡ old.is_open → after ≡ bytes ++ take n buf → Told new after
told_gives old new bytes after n buf t is_open g same grown =
    let given : GivesBytes (Some t.given) new.given (Ok n) buf = subst (λ (o : Option (List Given)). GivesBytes o new.given (Ok n) buf) t.given_is g in
    record {
      given = given_more t.given (take n buf) _;
      given_is = given;
      bytes_are = all_more t.given (take n buf) _ (t.present is_open) ∙ ap (λ (l : List ℕ). l ++ take n buf) t.bytes_are ∙ sym grown;
      present = λ o. more_some t.given (take n buf) _ (t.present is_open);
    }

-- none were
pub told_fails : (old new : Aside) (bytes : List ℕ) (e : Failed) (buf : List ℕ) → Told old bytes → GivesBytes old.given new.given (Err e) buf → new.is_open ≡ old.is_open → Told new bytes
told_fails old new bytes e buf t g same =
    let given : GivesBytes (Some t.given) new.given (Err e) buf = subst (λ (o : Option (List Given)). GivesBytes o new.given (Err e) buf) t.given_is g in
    record {
      given = given_more t.given [] failed;
      given_is = given;
      bytes_are = all_marked t.given failed ∙ t.bytes_are;
      present = λ o. more_some t.given [] failed (t.present (sym same ∙ o));
    }

-- a connection was opened, or there was none
pub told_opens : (old new : Aside) (bytes : List ℕ) (r : Result Bool Failed) → Told old bytes → GivesNext old.given new.given r → new.is_open ≡ open_after old.is_open r → Told new bytes
told_opens old new bytes (Ok true) t g same =
    let given : GivesNext (Some t.given) new.given (Ok true) = subst (λ (o : Option (List Given)). GivesNext o new.given (Ok true)) t.given_is g in
    record { given = t.given ++ fresh ∷ []; given_is = given; bytes_are = all_opened t.given ∙ t.bytes_are; present = λ o. opened_some t.given }
told_opens old new bytes (Ok false) t g same =
    let given : GivesNext (Some t.given) new.given (Ok false) = subst (λ (o : Option (List Given)). GivesNext o new.given (Ok false)) t.given_is g in
    record { given = t.given; given_is = given; bytes_are = t.bytes_are; present = λ o. t.present (sym same ∙ o) }
told_opens old new bytes (Err e) t g same =
    let given : GivesNext (Some t.given) new.given (Err e) = subst (λ (o : Option (List Given)). GivesNext o new.given (Err e)) t.given_is g in
    record { given = t.given; given_is = given; bytes_are = t.bytes_are; present = λ o. t.present (sym same ∙ o) }

pub told_closes : (old new : Aside) (bytes : List ℕ) → Told old bytes → new.given ≡ old.given → new.is_open ≡ false → Told new bytes
told_closes old new bytes t given shut = record { given = t.given; given_is = given ∙ t.given_is; bytes_are = t.bytes_are; present = λ o. absurd (false≢true (sym shut ∙ o)) }

pub aside_calm : (inner base : Aside) (es : List Event) → is_refused es ≡ false → keep_aside inner base es ≡ calm inner
aside_calm inner base es fine = ap (λ (b : Bool). told_by b inner base es) fine

pub aside_late : (inner base : Aside) (es : List Event) → is_refused es ≡ true → keep_aside inner base es ≡ late inner base es
aside_late inner base es lost = ap (λ (b : Bool). told_by b inner base es) lost

pub marked_is : (o : Option (List Given)) (e : Failed) (buf : List ℕ) → GivesBytes o (marked o) (Err e) buf
marked_is None e buf = refl
marked_is (Some gs) e buf = refl

joined_is : (o : Option (List Given)) → GivesNext o (joined_by o) (Ok true)
joined_is None = refl
joined_is (Some gs) = refl

same_is : (o : Option (List Given)) (r : Result Bool Failed) → (r ≡ Ok true → ⊥) → GivesNext o o r
same_is None r other = refl
same_is (Some gs) (Ok true) other = absurd (other refl)
same_is (Some gs) (Ok false) other = refl
same_is (Some gs) (Err e) other = refl

pub open_is : (b : Bool) (inner base : Aside) (es : List Event) → (told_by b inner base es).is_open ≡ inner.is_open
open_is true inner base es = refl
open_is false inner base es = refl

module _ (first i0 i1 base0 : Aside) (es : List Event) (t : TellsBytes first (keep_aside i0 base0 es) (gave es)) where
  pub tells_gave : (base1 : Aside) (n : ℕ) (buf : List ℕ) → is_refused es ≡ false → (keep_aside i0 base0 es).is_open ≡ true → Reads i0 i1 (Ok n) buf
      → TellsBytes first (keep_aside i1 base1 ((0, 0, take n buf) ∷ es)) (gave es ++ take n buf)
  tells_gave base1 n buf fine o r = record {
    told = λ g s.
        subst (λ (a : Aside). Told a (gave es ++ take n buf)) (sym (aside_calm i1 base1 ((0, 0, take n buf) ∷ es) fine))
        (told_gives (calm i0) (calm i1) (gave es) (gave es ++ take n buf) n buf (subst (λ (a : Aside). Told a (gave es)) (aside_calm i0 base0 es fine) (t.told g s)) (sym (open_is (is_refused es) i0 base0 es) ∙ o) r.given r.is_open refl);
  }

  pub tells_none : (base1 : Aside) (buf : List ℕ) → is_refused es ≡ false → (keep_aside i0 base0 es).is_open ≡ true → Reads i0 i1 (Ok 0) buf → TellsBytes first (keep_aside i1 base1 es) (gave es)
  tells_none base1 buf fine o r = record {
    told = λ g s.
        subst (λ (a : Aside). Told a (gave es)) (sym (aside_calm i1 base1 es fine))
        (told_gives (calm i0) (calm i1) (gave es) (gave es) 0 buf (subst (λ (a : Aside). Told a (gave es)) (aside_calm i0 base0 es fine) (t.told g s)) (sym (open_is (is_refused es) i0 base0 es) ∙ o) r.given r.is_open (sym (append-nil (gave es))));
  }

  pub tells_failed : (base1 : Aside) (e : Failed) (buf : List ℕ) → is_refused es ≡ false → Reads i0 i1 (Err e) buf → TellsBytes first (keep_aside i1 base1 es) (gave es)
  tells_failed base1 e buf fine r = record {
    told = λ g s.
        subst (λ (a : Aside). Told a (gave es)) (sym (aside_calm i1 base1 es fine))
        (told_fails (calm i0) (calm i1) (gave es) e buf (subst (λ (a : Aside). Told a (gave es)) (aside_calm i0 base0 es fine) (t.told g s)) r.given r.is_open);
  }

  pub tells_lost : (n : ℕ) (buf piece : List ℕ) (e : Failed) → is_refused es ≡ false → Reads i0 i1 (Ok n) buf → TellsBytes first (keep_aside i1 i0 ((1, 0, piece) ∷ es)) (gave es)
  tells_lost n buf piece e fine r = record {
    told = λ g s.
        told_fails (calm i0) (late i1 i0 ((1, 0, piece) ∷ es)) (gave es) e buf (subst (λ (a : Aside). Told a (gave es)) (aside_calm i0 base0 es fine) (t.told g s)) (marked_is i0.given e buf) r.is_open;
  }

  pub tells_later : (e : Failed) → is_refused es ≡ true → TellsBytes first (keep_aside i0 base0 ((2, 0, []) ∷ es)) (gave es)
  tells_later e gone = record {
    told = λ g s.
        subst (λ (a : Aside). Told a (gave es)) (sym (aside_late i0 base0 ((2, 0, []) ∷ es) gone))
        (told_fails (late i0 base0 es) (late i0 base0 ((2, 0, []) ∷ es)) (gave es) e [] (subst (λ (a : Aside). Told a (gave es)) (aside_late i0 base0 es gone) (t.told g s)) (marked_is (given_later base0.given es) e []) refl);
  }

  opens_by : (b : Bool) → Told (told_by b i0 base0 es) (gave es) → Opens i0 i1 (Ok true) → Told (told_by b i1 base0 ((3, 0, []) ∷ es)) (gave es)
  opens_by true u o = told_opens (late i0 base0 es) (late i1 base0 ((3, 0, []) ∷ es)) (gave es) (Ok true) u (joined_is (given_later base0.given es)) o.is_open
  opens_by false u o = told_opens (calm i0) (calm i1) (gave es) (Ok true) u o.given o.is_open

  pub tells_opens : Opens i0 i1 (Ok true) → TellsBytes first (keep_aside i1 base0 ((3, 0, []) ∷ es)) (gave es)
  tells_opens o = record { told = λ g s. opens_by (is_refused es) (t.told g s) o }

  stays_by : (b : Bool) (r : Result Bool Failed) → (r ≡ Ok true → ⊥) → Told (told_by b i0 base0 es) (gave es) → Opens i0 i1 r → Told (told_by b i1 base0 es) (gave es)
  stays_by true r other u o = told_opens (late i0 base0 es) (late i1 base0 es) (gave es) r u (same_is (given_later base0.given es) r other) o.is_open
  stays_by false r other u o = told_opens (calm i0) (calm i1) (gave es) r u o.given o.is_open

  pub tells_stays : (r : Result Bool Failed) → (r ≡ Ok true → ⊥) → Opens i0 i1 r → TellsBytes first (keep_aside i1 base0 es) (gave es)
  tells_stays r other o = record { told = λ g s. stays_by (is_refused es) r other (t.told g s) o }

  closes_by : (b : Bool) → Told (told_by b i0 base0 es) (gave es) → Closes i0 i1 → Told (told_by b i1 base0 es) (gave es)
  closes_by true u c = told_closes (late i0 base0 es) (late i1 base0 es) (gave es) u refl (ap (λ (a : Aside). a.is_open) c.same)
  closes_by false u c = told_closes (calm i0) (calm i1) (gave es) u (ap (λ (a : Aside). a.given) c.same) (ap (λ (a : Aside). a.is_open) c.same)

  pub tells_closes : Closes i0 i1 → TellsBytes first (keep_aside i1 base0 es) (gave es)
  tells_closes c = record { told = λ g s. closes_by (is_refused es) (t.told g s) c }

pub tells_new : (first : Aside) → TellsBytes first first []
tells_new first = record { told = λ g s. record { given = []; given_is = g; bytes_are = refl; present = λ o. absurd (false≢true (sym s ∙ o)) } }

pub tells_calm : (first inner : Aside) (bytes : List ℕ) → TellsBytes first inner bytes → TellsBytes first (calm inner) bytes
tells_calm first inner bytes t = record { told = λ g s. let u = t.told g s in record { given = u.given; given_is = u.given_is; bytes_are = u.bytes_are; present = u.present } }

pub inner_new : (first : Aside) → InnerGave first first []
inner_new first = record { plan = refl; told = tells_new first; later = omega arith; calm = λ plan is none. (refl, refl) }

module _ (first i0 i1 : Aside) (es fs : List Event) (t : InnerGave first i0 es) where
  -- it gave bytes, which are kept or refused
  pub inner_gave : (n : ℕ) (buf : List ℕ) → i0.is_open ≡ true → Reads i0 i1 (Ok n) buf → gave fs ++ lost fs ≡ (gave es ++ lost es) ++ take n buf → InnerGave first i1 fs
  inner_gave n buf o r grown = record {
    plan = r.plan ∙ t.plan;
    told = record { told = λ g s. told_gives i0 i1 (gave es ++ lost es) (gave fs ++ lost fs) n buf (t.told.told g s) o r.given r.is_open grown };
    later = omega (arith, r.cause.later, t.later);
    calm = λ plan is none. let c = t.calm plan is none in (r.cause.fine ∙ c.0, r.calm ∙ c.1);
  }

  -- no read fails whose plan fails none
  read_planned : (plan : Plan) (before after : ℕ) (e : Failed) → first.plan ≡ Some plan → plan.fails ≡ [] → AsPlanned i0.plan before after (Err e) → ⊥
  read_planned plan before after e is none p =
      let q = subst (λ (o : Option Plan). AsPlanned o before after (Err e)) (t.plan ∙ is) p in
      no_call plan.fails before none q.1

  pub inner_failed : (before after : ℕ) (e : Failed) (buf : List ℕ) → Reads i0 i1 (Err e) buf → AsPlanned i0.plan before after (Err e) → gave fs ++ lost fs ≡ gave es ++ lost es → InnerGave first i1 fs
  inner_failed before after e buf r p same = record {
    plan = r.plan ∙ t.plan;
    told = record { told = λ g s. subst (Told i1) (sym same) (told_fails i0 i1 (gave es ++ lost es) e buf (t.told.told g s) r.given r.is_open) };
    later = omega (arith, r.cause.later, t.later);
    calm = λ plan is none. absurd (read_planned plan before after e is none p);
  }

  calm_opens : (r : Result Bool Failed) → Opens i0 i1 r → IfSome i0.plan (λ plan. OnErr r (plan.fails ≡ [] → ⊥)) → (plan : Plan) → first.plan ≡ Some plan → plan.fails ≡ [] → (i1.read_faults ≡ first.read_faults) × (i1.open_faults ≡ first.open_faults)
  calm_opens (Ok b) o p plan is none = let c = t.calm plan is none in (o.calm ∙ c.0, o.cause.fine ∙ c.1)
  calm_opens (Err e) o p plan is none = absurd (subst (λ (q : Option Plan). IfSome q (λ (x : Plan). x.fails ≡ [] → ⊥)) (t.plan ∙ is) p none)

  pub inner_opens : (r : Result Bool Failed) → Opens i0 i1 r → IfSome i0.plan (λ plan. OnErr r (plan.fails ≡ [] → ⊥)) → gave fs ++ lost fs ≡ gave es ++ lost es → InnerGave first i1 fs
  inner_opens r o p same = record {
    plan = o.plan ∙ t.plan;
    told = record { told = λ g s. subst (Told i1) (sym same) (told_opens i0 i1 (gave es ++ lost es) r (t.told.told g s) o.given o.is_open) };
    later = omega (arith, o.calm, t.later);
    calm = calm_opens r o p;
  }

  pub inner_closes : Closes i0 i1 → gave fs ++ lost fs ≡ gave es ++ lost es → InnerGave first i1 fs
  inner_closes c same = record {
    plan = ap (λ (a : Aside). a.plan) c.same ∙ t.plan;
    told = record { told = λ g s. subst (Told i1) (sym same) (told_closes i0 i1 (gave es ++ lost es) (t.told.told g s) (ap (λ (a : Aside). a.given) c.same) (ap (λ (a : Aside). a.is_open) c.same)) };
    later = omega (arith, ap (λ (a : Aside). a.read_faults) c.same, t.later);
    calm = λ plan is none. let d = t.calm plan is none in (ap (λ (a : Aside). a.read_faults) c.same ∙ d.0, ap (λ (a : Aside). a.open_faults) c.same ∙ d.1);
  }

-- nothing happened below
pub inner_same : (first i0 : Aside) (es fs : List Event) → gave fs ++ lost fs ≡ gave es ++ lost es → InnerGave first i0 es → InnerGave first i0 fs
inner_same first i0 es fs same t = record { plan = t.plan; told = record { told = λ g s. subst (Told i0) (sym same) (t.told.told g s) }; later = t.later; calm = t.calm }

pub place_new : (place : ℕ) (refused : Option AppendFault) → (refused ≡ Some Full → ⊥) → KeepsPlace place place [] refused
place_new place refused not = record { least = λ f. omega arith; small = λ f. omega arith; full = λ e. absurd (not e); long = λ e. absurd (not e); some = λ e. absurd (false≢true e) }

pub place_on : (k made now : ℕ) (es : List Event) (refused : Option AppendFault) → KeepsPlace made now es refused → KeepsPlace made now ((suc (suc k), 0, []) ∷ es) refused
place_on k made now es refused p = record { least = p.least; small = p.small; full = p.full; long = p.long; some = p.some }

pub place_gave : (made old new : ℕ) (es : List Event) (piece : List ℕ) (refused : Option AppendFault) → is_some refused ≡ false → KeepsPlace made old es refused → 0 < length piece → new ≡ old + 5 + length piece → KeepsPlace made new ((0, 0, piece) ∷ es) refused
place_gave made old new es piece None e p some is = record {
  least = λ f. omega (arith, p.least f, is, length-append (gave es) piece);
  small = λ f. omega (arith, p.small f, some, is, length-append (gave es) piece);
  full = λ e. absurd cc;
  long = λ e. absurd cc;
  some = p.some;
}
place_gave made old new es piece (Some fault) e p some is = absurd (false≢true (sym e))

-- where there is no room for one more record, there is none for six bytes for each byte
too_long : (made now gave piece all : ℕ) → now ≤ made + 6 * gave → 0 < piece → most_archive < now + 6 + piece → all ≡ gave + piece → most_archive < made + 6 * all + 1
too_long made now gave piece all small some full is = omega (arith, small, some, full, is)

pub place_lost : {D : Type 0} (made : ℕ) (old new : ArchiveValue D) (es : List Event) (piece : List ℕ) (refused : Option AppendFault) (fault : AppendFault) → is_some refused ≡ false → KeepsPlace made old.place es refused → AppendAnswers old new (length piece) (Err fault)
    → 0 < length piece → KeepsPlace made new.place ((1, 0, piece) ∷ es) (Some fault)
place_lost made old new es piece (Some other) fault e p a h = absurd (false≢true (sym e))
place_lost made old new es piece None DiskFailed e p a h = record { least = λ f. absurd (f refl); small = λ f. absurd (f refl); full = λ e. absurd cc; long = λ e. absurd cc; some = λ e. h }
place_lost made old new es piece None Full e p a h = record { least = λ f. omega (arith, p.least (λ e. absurd cc), ap (λ (v : ArchiveValue _). v.place) a.2); small = λ f. omega (arith, p.small (λ e. absurd cc), ap (λ (v : ArchiveValue _). v.place) a.2); full = λ e. omega (arith, a.1, ap (λ (v : ArchiveValue _). v.place) a.2); long = λ e. too_long made old.place (length (gave es)) (length piece) (length (gave es ++ piece)) (p.small (λ f. absurd cc)) h a.1 (length-append (gave es) piece); some = λ e. h }
place_lost made old new es piece None Stopped e p a h = record { least = λ f. omega (arith, p.least (λ e. absurd cc), ap (λ (v : ArchiveValue _). v.place) a.1); small = λ f. omega (arith, p.small (λ e. absurd cc), ap (λ (v : ArchiveValue _). v.place) a.1); full = λ e. absurd cc; long = λ e. absurd cc; some = λ e. h }

pub not_false : (r : Result Bool Failed) → r ≡ Ok false → r ≡ Ok true → ⊥
not_false r e f = absurd cc

pub not_failed : (r : Result Bool Failed) (e : Failed) → r ≡ Err e → r ≡ Ok true → ⊥
not_failed r e is f = absurd cc

pub moved : (a gone p : List ℕ) → gone ≡ [] → (a ++ p) ++ gone ≡ (a ++ gone) ++ p
moved a gone p e = ap (λ (x : List ℕ). (a ++ p) ++ x) e ∙ append-nil (a ++ p) ∙ sym (ap (λ (x : List ℕ). (a ++ x) ++ p) e ∙ ap (λ (x : List ℕ). x ++ p) (append-nil a))

pub behind : (a gone p : List ℕ) → gone ≡ [] → a ++ p ≡ (a ++ gone) ++ p
behind a gone p e = sym (ap (λ (x : List ℕ). (a ++ x) ++ p) e ∙ ap (λ (x : List ℕ). x ++ p) (append-nil a))
