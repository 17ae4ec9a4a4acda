-- The port below a port that keeps what it gives: what it gives of its plan.
use Rattle.std.proofs.Common.{◌≡◌, ◌≢◌, ℕ, ◌<◌, ◌≤◌, length, List, [], ◌∷◌, Result, Ok, Err, refl, sym, ◌∙◌, ap, subst, arith}
use mathlib.Core.Bool.{Bool, true, false}
use Rattle.bmp_specs.specs.Life.{LastRead, gave as gave_some, gave_none, failed}
use Rattle.wire_io.specs.declared.sink.Failed.{Failed}
use Rattle.wire_io.specs.Aside.{Aside}
use Rattle.disk_doors.specs.Note.{Event}
use Rattle.station_doors.specs.Doors.{Opens, Reads, Closes, AsPlanned, read_size}
use Rattle.station_doors.specs.Planned.{Follows}
use Rattle.station_doors.proofs.Planned.{follows_new, follows_opens, follows_gave, follows_failed, follows_closes, read_some}
use Rattle.feed_archive.specs.Keeping.{KeepsPlan, asked, is_refused, keep_aside, told_by}
use Rattle.feed_archive.proofs.Telling.{open_is}

pub plan_new : (first : Aside) (calls : ℕ) → KeepsPlan first first calls calls []
plan_new first calls = record { follows = follows_new first calls; same = λ e. refl }

-- how much was taken, where no piece was refused
pub taken_is : (inner base : Aside) (es : List Event) → is_refused es ≡ false → (keep_aside inner base es).taken ≡ inner.taken
taken_is inner base es fine = ap (λ (b : Bool). (told_by b inner base es).taken) fine

-- what is asked of the port below
module _ (inner base told : Aside) (es : List Event) (is : keep_aside inner base es ≡ told) where
  pub asked_size : (size : ℕ) → is_refused es ≡ false → size ≡ read_size told.taken → size ≡ read_size inner.taken
  asked_size size fine e = e ∙ ap (λ (a : Aside). read_size a.taken) (sym is) ∙ ap read_size (taken_is inner base es fine)

  pub asked_open : told.is_open ≡ true → inner.is_open ≡ true
  asked_open e = sym (open_is (is_refused es) inner base es) ∙ ap (λ (a : Aside). a.is_open) is ∙ e

module _ (first a b : Aside) (before c d : ℕ) (es : List Event) (p : KeepsPlan first a before c es) where
  pub plan_opened : (r : Result Bool Failed) → Opens a b r → d ≡ c → KeepsPlan first b before d ((3, 0, []) ∷ es)
  plan_opened r o same = record { follows = follows_opens first a b before c d (asked es) p.follows r o same; same = p.same }

  pub plan_unopened : (r : Result Bool Failed) → Opens a b r → d ≡ c → KeepsPlan first b before d es
  plan_unopened r o same = record { follows = follows_opens first a b before c d (asked es) p.follows r o same; same = p.same }

  pub plan_closes : Closes a b → d ≡ c → KeepsPlan first b before d es
  plan_closes s same = record { follows = follows_closes first a b before c d (asked es) p.follows s same; same = p.same }

  pub plan_failed : (e : Failed) (buf : List ℕ) → a.is_open ≡ true → Reads a b (Err e) buf → AsPlanned a.plan c d (Err e) → KeepsPlan first b before d ((5, 0, []) ∷ es)
  plan_failed e buf is_open r planned = record { follows = follows_failed first a b before c d (asked es) p.follows e buf is_open r planned; same = λ fine. ap (λ (w : List LastRead). failed ∷ w) (p.same fine) }

  pub plan_none : (buf : List ℕ) → a.is_open ≡ true → Reads a b (Ok 0) buf → AsPlanned a.plan c d (Ok 0) → 0 < length buf → length buf ≡ read_size a.taken → KeepsPlan first b before d ((4, 0, []) ∷ es)
  plan_none buf is_open r planned some size = record {
    follows = follows_gave first a b before c d (asked es) p.follows 0 buf is_open r planned (omega arith) some size;
    same = λ fine. ap (λ (w : List LastRead). gave_none ∷ w) (p.same fine);
  }

  came : (n : ℕ) (buf : List ℕ) → n ≢ 0 → a.is_open ≡ true → Reads a b (Ok n) buf → AsPlanned a.plan c d (Ok n) → n ≤ length buf → 0 < length buf → length buf ≡ read_size a.taken → Follows first b before d (gave_some ∷ asked es)
  came n buf not is_open r planned within some size = subst (λ (l : LastRead). Follows first b before d (l ∷ asked es)) (read_some n not) (follows_gave first a b before c d (asked es) p.follows n buf is_open r planned within some size)

  -- it gave bytes, which are kept, or refused
  pub plan_gave : (n : ℕ) (buf piece : List ℕ) → n ≢ 0 → a.is_open ≡ true → Reads a b (Ok n) buf → AsPlanned a.plan c d (Ok n) → n ≤ length buf → 0 < length buf → length buf ≡ read_size a.taken → KeepsPlan first b before d ((0, 0, piece) ∷ es)
  plan_gave n buf piece not is_open r planned within some size = record { follows = came n buf not is_open r planned within some size; same = λ fine. ap (λ (w : List LastRead). gave_some ∷ w) (p.same fine) }

  pub plan_lost : (n : ℕ) (buf piece : List ℕ) → n ≢ 0 → a.is_open ≡ true → Reads a b (Ok n) buf → AsPlanned a.plan c d (Ok n) → n ≤ length buf → 0 < length buf → length buf ≡ read_size a.taken → KeepsPlan first b before d ((1, 0, piece) ∷ es)
  plan_lost n buf piece not is_open r planned within some size = record { follows = came n buf not is_open r planned within some size; same = λ e. absurd (cc e) }

-- it wasn't asked
pub plan_later : (first inner : Aside) (before calls : ℕ) (es : List Event) → is_refused es ≡ true → KeepsPlan first inner before calls es → KeepsPlan first inner before calls ((2, 0, []) ∷ es)
plan_later first inner before calls es gone p = record { follows = p.follows; same = λ e. absurd (cc (gone, e)) }
