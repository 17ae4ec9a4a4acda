-- One connection after another.
use Rattle.std.proofs.Common.{◌≡◌, ℕ, ◌+◌, ◌<◌, true, length, List, [], ◌∷◌, ◌++◌, Option, None, Some, refl, sym, ◌∙◌, subst, length-append, arith}
use Rattle.std.specs.Prelude.{nat_lt}
use Rattle.std.specs.Io.KnownBytes.{Keeps}
use Rattle.std.proofs.lemmas.Bool.Decides.{nat_tests}
use Rattle.cut_publisher.specs.History.{Asker, Begins, revision}
use Rattle.cut_publisher.proofs.Prefixes.{begins_self, begins_trans}
use Rattle.rib_model.specs.declared.entry.Entry.{Entry}
use Rattle.station_doors.specs.Doors.{Closes, opened_one}
use Rattle.wire_io.specs.Aside.{Aside}
use Rattle.ask_session.specs.Replies.{History}
use Rattle.ask_session.specs.Connection.{Conversed}
use Rattle.ask_session.specs.Sessions.{Session, Serves, Served, OpensLink, Refuses, Sees}

pub sees_self : (a : Asker Entry) → Sees a a
sees_self a = record { station = refl; seat = refl; seen = begins_self a.seen; unmarked = λ u. u }

pub sees_then : (a b c : Asker Entry) → Sees a b → Sees b c → Sees a c
sees_then a b c p q = record { station = q.station ∙ p.station; seat = q.seat ∙ p.seat; seen = begins_trans a.seen b.seen c.seen p.seen q.seen; unmarked = λ u. q.unmarked (p.unmarked u) }

keeps_self : (a : Option (List ℕ)) → Keeps a a
keeps_self None = tt
keeps_self (Some xs) = refl

keeps_then : (a b c : Option (List ℕ)) → Keeps a b → Keeps b c → Keeps a c
keeps_then None b c p q = tt
keeps_then (Some xs) None c p q = absurd p
keeps_then (Some xs) (Some ys) None p q = absurd q
keeps_then (Some xs) (Some ys) (Some zs) p q = q ∙ p

-- so many connections were served
pub record ServesSome (lanes : ℕ) (seen seen' : History) (aside aside' : Aside) (told told' : Option (List ℕ)) (writes writes' count : ℕ) : Type 0 where
  pub sessions : List Session
  pub serves : Serves lanes seen seen' aside aside' told told' writes writes' sessions
  pub count_is : count ≡ length sessions

-- one more, after which what is told stays
pub record Adds (lanes : ℕ) (seen1 seen2 : History) (aside1 aside2 : Aside) (told1 told2 : Option (List ℕ)) (writes1 writes2 : ℕ) (s : Session) : Type 0 where
  pub sees : Begins seen1 s.seen
  pub opens : OpensLink aside1 s.opened writes1 opened_one
  pub told_is : Keeps told1 s.told0
  pub talk : Conversed lanes s.seen (revision seen1) s.opened s.ended s.input s.told0 s.told1 writes1 s.writes s.close
  pub closes : Closes s.ended s.closed
  pub seen_is : seen2 ≡ s.seen
  pub aside_is : aside2 ≡ s.closed
  pub after : Keeps s.told1 told2
  pub writes_is : writes2 ≡ s.writes

module _ (lanes : ℕ) where
  serves_push : (ss : List Session) (seen seen1 seen2 : History) (aside aside1 aside2 : Aside) (told told1 told2 : Option (List ℕ)) (writes writes1 writes2 : ℕ) (s : Session)
      → Serves lanes seen seen1 aside aside1 told told1 writes writes1 ss → Adds lanes seen1 seen2 aside1 aside2 told1 told2 writes1 writes2 s → Serves lanes seen seen2 aside aside2 told told2 writes writes2 (ss ++ s ∷ [])
  serves_push [] seen seen1 seen2 aside aside1 aside2 told told1 told2 writes writes1 writes2 s p a = (
    subst (λ (l : History). Begins l s.seen) p.0 a.sees,
    subst (λ (x : Aside). OpensLink x s.opened writes opened_one) p.1 (subst (λ (n : ℕ). OpensLink aside1 s.opened n opened_one) p.3 a.opens),
    keeps_then told told1 s.told0 p.2 a.told_is,
    subst (λ (l : History). Conversed lanes s.seen (revision l) s.opened s.ended s.input s.told0 s.told1 writes s.writes s.close) p.0 (subst (λ (n : ℕ). Conversed lanes s.seen (revision seen1) s.opened s.ended s.input s.told0 s.told1 n s.writes s.close) p.3 a.talk),
    a.closes,
    (a.seen_is, a.aside_is, a.after, a.writes_is),
  )
  serves_push (x ∷ ss) seen seen1 seen2 aside aside1 aside2 told told1 told2 writes writes1 writes2 s p a =
      (p.0, p.1, p.2, p.3, p.4, serves_push ss x.seen seen1 seen2 x.closed aside1 aside2 x.told1 told1 told2 x.writes writes1 writes2 s p.5 a)

  pub serves_more : (seen seen1 seen2 : History) (aside aside1 aside2 : Aside) (told told1 told2 : Option (List ℕ)) (writes writes1 writes2 n : ℕ) (s : Session)
      → ServesSome lanes seen seen1 aside aside1 told told1 writes writes1 n → Adds lanes seen1 seen2 aside1 aside2 told1 told2 writes1 writes2 s → ServesSome lanes seen seen2 aside aside2 told told2 writes writes2 (n + 1)
  serves_more seen seen1 seen2 aside aside1 aside2 told told1 told2 writes writes1 writes2 n s p a = record {
    sessions = p.sessions ++ s ∷ [];
    serves = serves_push p.sessions seen seen1 seen2 aside aside1 aside2 told told1 told2 writes writes1 writes2 s p.serves a;
    count_is = omega (arith, p.count_is, length-append p.sessions (s ∷ []));
  }

  -- what is told stays after them
  serves_still : (ss : List Session) (seen seen1 : History) (aside aside1 : Aside) (told told1 told2 : Option (List ℕ)) (writes writes1 writes2 : ℕ)
      → Serves lanes seen seen1 aside aside1 told told1 writes writes1 ss → Keeps told1 told2 → writes2 ≡ writes1 → Serves lanes seen seen1 aside aside1 told told2 writes writes2 ss
  serves_still [] seen seen1 aside aside1 told told1 told2 writes writes1 writes2 p k w = (p.0, p.1, keeps_then told told1 told2 p.2 k, w ∙ p.3)
  serves_still (x ∷ ss) seen seen1 aside aside1 told told1 told2 writes writes1 writes2 p k w =
      (p.0, p.1, p.2, p.3, p.4, serves_still ss x.seen seen1 x.closed aside1 x.told1 told1 told2 x.writes writes1 writes2 p.5 k w)

  pub some_still : (seen seen1 : History) (aside aside1 : Aside) (told told1 told2 : Option (List ℕ)) (writes writes1 writes2 n : ℕ)
      → ServesSome lanes seen seen1 aside aside1 told told1 writes writes1 n → Keeps told1 told2 → writes2 ≡ writes1 → ServesSome lanes seen seen1 aside aside1 told told2 writes writes2 n
  some_still seen seen1 aside aside1 told told1 told2 writes writes1 writes2 n p k w = record {
    sessions = p.sessions;
    serves = serves_still p.sessions seen seen1 aside aside1 told told1 told2 writes writes1 writes2 p.serves k w;
    count_is = p.count_is;
  }

  -- fewer than the rounds, after which there is no further one
  pub served_fewer : (rounds : ℕ) (seen seen1 : History) (aside aside1 aside2 : Aside) (told told1 told2 : Option (List ℕ)) (writes writes1 writes2 n : ℕ)
      → ServesSome lanes seen seen1 aside aside1 told told1 writes writes1 n → n < rounds → Refuses aside1 aside2 writes1 → Keeps told1 told2 → writes2 ≡ writes1 → Served lanes rounds seen seen1 aside aside2 told told2 writes writes2 n
  served_fewer rounds seen seen1 aside aside1 aside2 told told1 told2 writes writes1 writes2 n p few r k w =
      let q = some_still seen seen1 aside aside1 told told1 told2 writes writes1 writes2 n p k w in
      let test : nat_lt n rounds ≡ true = grind (arith, nat_tests) in
      record {
        sessions = q.sessions;
        after = aside1;
        serves = q.serves;
        count_is = q.count_is;
        stop = rw test (subst (λ (m : ℕ). Refuses aside1 aside2 m) (sym w) r);
      }
