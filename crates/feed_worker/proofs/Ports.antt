-- What a port tells of a connection, read by read.
use Rattle.std.proofs.Common.{◌≡◌, ◌≢◌, ℕ, zero, suc, ◌+◌, ◌<◌, ◌≤◌, length, take, List, [], ◌∷◌, ◌++◌, Option, Some, None, Bool, Ok, Err, refl, ap, sym, ◌∙◌, subst, append_assoc, append-nil, length-append, length-take, arith, if◌then◌else◌}
use Rattle.std.proofs.Math.Dec.{eqb-suc-zero}
use Rattle.std.specs.Prelude.{IsTrue, IfSome}
use Rattle.std.specs.Io.KnownBytes.{Consumes, Keeps}
use Rattle.bmp_specs.specs.Life.{LastRead, gave, gave_none, failed, most_taken, IsReadNoFurther, Given}
use Rattle.bmp_specs.specs.Meaning.{Meaning}
use Rattle.bmp_specs.specs.Values.{EntryValue}
use Rattle.wire_io.specs.declared.sink.Failed.{Failed}
use Rattle.wire_io.specs.Aside.{Aside, Plan, fresh}
use Rattle.wire_io.specs.Faults.{Rose}
use Rattle.station_doors.specs.Doors.{Reads, AsPlanned, GivesBytes, given_more, read_of, GivesMore}
use Rattle.station_doors.proofs.Sessions.{given_more_last}
use Rattle.station_doors.proofs.ReadLaws.{consumes_then, consumes_none, keeps_consumes, given_on, given_failed, fails_some}
use Rattle.feed_worker.specs.Connection.{EndsFresh, IsNew, TakesBytes}
use Rattle.feed_worker.specs.FeedPort.{IsPresent, IsPublished, IsPublishedWhereTold, present_of}

-- a connection that was opened gave nothing yet
given_nothing : (a : Option (List Given)) → EndsFresh a → GivesMore a a [] gave
given_nothing None e = refl
given_nothing (Some gs) (earlier, is) = ap (λ (l : List Given). Some l) (is ∙ sym (ap (λ (l : List Given). given_more l [] gave) is ∙ given_more_last earlier fresh [] gave))

present_last : (gs : List Given) (g : Given) → present_of (gs ++ g ∷ []) ≡ g.bytes
present_last [] g = refl
present_last (x ∷ []) g = refl
present_last (x ∷ y ∷ gs) g = present_last (y ∷ gs) g

-- what the present connection gave, where it had given nothing
present_more : (gs earlier : List Given) (bytes : List ℕ) → gs ≡ earlier ++ fresh ∷ [] → present_of (given_more gs bytes gave) ≡ bytes
present_more gs earlier bytes is = ap (λ (l : List Given). present_of (given_more l bytes gave)) is ∙ ap present_of (given_more_last earlier fresh bytes gave) ∙ present_last earlier (record { bytes = bytes; last = gave })

pub present_told : (a b : Option (List Given)) (bytes : List ℕ) → EndsFresh a → GivesMore a b bytes gave → IsPresent b bytes
present_told None b bytes e g = subst (λ (o : Option (List Given)). IsPresent o bytes) (sym g) tt
present_told (Some gs) b bytes (earlier, is) g = subst (λ (o : Option (List Given)). IsPresent o bytes) (sym g) (present_more gs earlier bytes is)

-- what is published of the bytes given is published of what the port tells of them
pub published_told : (meaning : Meaning) (entries : List EntryValue) (a b : Option (List Given)) (bytes : List ℕ) → EndsFresh a → GivesMore a b bytes gave → IsPublished meaning entries bytes → IsPublishedWhereTold meaning entries b
published_told meaning entries None b bytes e g p = subst (λ (o : Option (List Given)). IsPublishedWhereTold meaning entries o) (sym g) tt
published_told meaning entries (Some gs) b bytes (earlier, is) g p =
    let present : present_of (given_more gs bytes gave) ≡ bytes = present_more gs earlier bytes is in
    subst (λ (o : Option (List Given)). IsPublishedWhereTold meaning entries o) (sym g) (subst (λ (l : List ℕ). IsPublished meaning entries l) (sym present) p)

read_some : (n : ℕ) → n ≢ 0 → read_of n ≡ gave
read_some zero h = absurd (h refl)
read_some (suc n) h = ap (λ (b : Bool). if b then gave_none else gave) (eqb-suc-zero n)

-- the bytes taken so far, of a connection that goes on
pub record Goes (first now : Aside) (bytes : List ℕ) (taken : ℕ) : Type 0 where
  pub plan : now.plan ≡ first.plan
  pub coming : now.coming ≡ first.coming
  pub rest : Consumes first.rest now.rest bytes
  pub given : GivesMore first.given now.given bytes gave
  pub opened : now.opened ≡ first.opened
  pub closed : now.closed ≡ first.closed
  pub is_open : IsTrue now.is_open
  pub refused : now.refused ≡ first.refused
  pub taken_is : now.taken ≡ taken
  pub count : length bytes ≡ taken
  pub open_faults : now.open_faults ≡ first.open_faults
  pub read_faults : now.read_faults ≡ first.read_faults

pub goes_none : (a : Aside) → IsNew a → Goes a a [] 0
goes_none a n = record { plan = refl; coming = refl; rest = consumes_none a.rest; given = given_nothing a.given n.fresh; opened = refl; closed = refl; is_open = n.is_open; refused = refl; taken_is = n.none; count = refl; open_faults = refl; read_faults = refl }

-- a read gave bytes
pub goes_more : (a0 a b : Aside) (bytes buf : List ℕ) (n m : ℕ) → Goes a0 a bytes n → Reads a b (Ok m) buf → m ≢ 0 → m ≤ length buf → n + m ≤ most_taken → Goes a0 b (bytes ++ take m buf) (n + m)
goes_more a0 a b bytes buf n m g r some within room = record {
  plan = r.plan ∙ g.plan;
  coming = r.coming ∙ g.coming;
  rest = consumes_then a0.rest a.rest b.rest bytes (take m buf) g.rest r.rest.0;
  given = subst (λ (l : LastRead). GivesMore a0.given b.given (bytes ++ take m buf) l) (read_some m some) (given_on a0.given a.given b.given bytes buf m g.given r.given);
  opened = r.opened ∙ g.opened;
  closed = r.closed ∙ g.closed;
  is_open = r.is_open ∙ g.is_open;
  refused = r.refused ∙ g.refused;
  taken_is = omega (arith, r.taken, g.taken_is, room);
  count = omega (arith, length-append bytes (take m buf), length-take m buf, g.count, within);
  open_faults = r.calm ∙ g.open_faults;
  read_faults = r.cause.fine ∙ g.read_faults;
}

-- nothing more is read
module _ (meaning : Meaning) (a0 a : Aside) (bytes : List ℕ) (n : ℕ) (g : Goes a0 a bytes n) (no_further : IsReadNoFurther meaning bytes) (room : n ≤ most_taken) where
  pub takes_going : TakesBytes meaning a0 a (record { bytes = bytes; last = gave })
  takes_going = record {
    plan = g.plan;
    coming = g.coming;
    rest = g.rest;
    given = g.given;
    opened = g.opened;
    closed = g.closed;
    is_open = g.is_open;
    taken = g.taken_is ∙ sym g.count;
    refused = g.refused;
    within = omega (arith, g.count, room);
    no_further = no_further;
    end = λ other. absurd (cc other);
    planned = λ other. absurd (cc other);
    open_faults = g.open_faults;
    read_faults = g.read_faults;
  }

  -- a read gave none
  pub takes_end : (b : Aside) (buf : List ℕ) → Reads a b (Ok 0) buf → 0 < length buf → TakesBytes meaning a0 b (record { bytes = bytes; last = gave_none })
  takes_end b buf r some =
      let same : bytes ++ take 0 buf ≡ bytes = append-nil bytes in
      record {
        plan = r.plan ∙ g.plan;
        coming = r.coming ∙ g.coming;
        rest = subst (λ (l : List ℕ). Consumes a0.rest b.rest l) same (consumes_then a0.rest a.rest b.rest bytes (take 0 buf) g.rest r.rest.0);
        given = subst (λ (l : List ℕ). GivesMore a0.given b.given l gave_none) same (given_on a0.given a.given b.given bytes buf 0 g.given r.given);
        opened = r.opened ∙ g.opened;
        closed = r.closed ∙ g.closed;
        is_open = r.is_open ∙ g.is_open;
        taken = omega (arith, r.taken, g.taken_is, g.count, room);
        refused = r.refused ∙ g.refused;
        within = omega (arith, g.count, room);
        no_further = no_further;
        end = λ _. r.rest.1 refl some;
        planned = λ other. absurd (cc other);
        open_faults = r.calm ∙ g.open_faults;
        read_faults = r.cause.fine ∙ g.read_faults;
      }

  -- a read failed
  pub takes_fault : (b : Aside) (buf : List ℕ) (e : Failed) (c d : ℕ) → Reads a b (Err e) buf → AsPlanned a.plan c d (Err e) → TakesBytes meaning a0 b (record { bytes = bytes; last = failed })
  takes_fault b buf e c d r p =
      let same : bytes ++ [] ≡ bytes = append-nil bytes in
      record {
        plan = r.plan ∙ g.plan;
        coming = r.coming ∙ g.coming;
        rest = subst (λ (l : List ℕ). Consumes a0.rest b.rest l) same (consumes_then a0.rest a.rest b.rest bytes [] g.rest (keeps_consumes a.rest b.rest r.rest));
        given = subst (λ (l : List ℕ). GivesMore a0.given b.given l failed) same (given_failed a0.given a.given b.given bytes buf e g.given r.given);
        opened = r.opened ∙ g.opened;
        closed = r.closed ∙ g.closed;
        is_open = r.is_open ∙ g.is_open;
        taken = r.taken ∙ g.taken_is ∙ sym g.count;
        refused = r.refused ∙ g.refused;
        within = omega (arith, g.count, room);
        no_further = no_further;
        end = λ other. absurd (cc other);
        planned = λ _. fails_some a0.plan a.plan c d e g.plan p;
        open_faults = r.calm ∙ g.open_faults;
        read_faults = subst (λ (k : ℕ). Rose k b.read_faults) g.read_faults r.cause.failed;
      }
