-- What a port gives of its plan, call by call.
use Rattle.std.proofs.Common.{◌≡◌, ◌≢◌, ℕ, zero, suc, ◌+◌, ◌<◌, ◌≤◌, length, take, drop, List, [], ◌∷◌, ◌++◌, Option, Some, None, Bool, true, false, Result, Ok, Err, refl, ap, sym, ◌∙◌, subst, append_assoc, append-nil, length-append, length-take, arith, if◌then◌else◌}
use Rattle.std.proofs.Math.Dec.{eqb-suc-zero}
use borrow.Author.Count.{below_more}
use Rattle.std.specs.Prelude.{IfSome, Contains}
use Rattle.std.specs.Io.KnownBytes.{Consumes, IsAtEnd, Keeps}
use Rattle.bmp_specs.specs.Life.{LastRead, gave, gave_none, failed, most_taken, most_read, Given}
use Rattle.wire_io.specs.declared.sink.Failed.{Failed}
use Rattle.wire_io.specs.Aside.{Aside, Plan, fresh}
use Rattle.station_doors.specs.Doors.{Opens, OpensNext, GivesNext, Reads, GivesBytes, Closes, AsPlanned, given_more, one_more, read_of, read_size, untouched}
use Rattle.station_doors.specs.Planned.{first_of, Gives, ReadsAsPlanned, AllGave, GaveBefore, last_of_reads, FollowsBy, FollowsPlan, Follows}

-- a read gave bytes, or none
pub read_some : (n : ℕ) → n ≢ 0 → read_of n ≡ gave
read_some zero h = absurd (h refl)
read_some (suc n) h = ap (λ (b : Bool). if b then gave_none else gave) (eqb-suc-zero n)

pub read_none : (n : ℕ) → read_of n ≡ gave_none → n ≡ 0
read_none zero e = refl
read_none (suc n) e = absurd (cc (read_some (suc n) (λ z. omega (arith, z)), e))

-- no read was made
pub gives_none : (plan : Option Plan) (calls : ℕ) → calls ≡ 0 → IfSome plan (λ p. Gives p calls [])
gives_none None calls e = tt
gives_none (Some p) calls e = record { most = omega (arith, e); fewest = omega arith; calm = λ k below fails. absurd (omega (arith, e, below)) }

pub gives_nothing : (plan : Plan) → Gives plan 0 []
gives_nothing plan = gives_none (Some plan) 0 refl

-- a read gave bytes
pub gives_then : (plan0 plan : Option Plan) (c d m : ℕ) (bytes buf : List ℕ) → plan ≡ plan0 → IfSome plan0 (λ x. Gives x c bytes) → AsPlanned plan c d (Ok m) → m ≢ 0 → m ≤ length buf → m ≤ most_read → length bytes ≤ most_taken → IfSome plan0 (λ x. Gives x d (bytes ++ take m buf))
gives_then None plan c d m bytes buf e h p some within size room = tt
gives_then (Some x) plan c d m bytes buf e h p some within size room =
    let q = subst (λ (o : Option Plan). AsPlanned o c d (Ok m)) e p in
    let next : d ≡ c + 1 = omega (arith, q.0, h.most, room) in
    let long : length (bytes ++ take m buf) ≡ length bytes + m = omega (arith, length-append bytes (take m buf), length-take m buf, within) in
    record {
      most = omega (arith, next, long, h.most, some);
      fewest = omega (arith, next, long, h.fewest, size);
      calm = subst (λ (i : ℕ). (k : ℕ) → k < i → Contains x.fails k → ⊥) (sym next) (below_more (λ (k : ℕ). Contains x.fails k → ⊥) c h.calm q.1);
    }

-- the last read gave bytes, it gave none, or it failed
pub last_gave : (plan : Option Plan) (c : ℕ) (bytes : List ℕ) → IfSome plan (λ x. Gives x c bytes) → IfSome plan (λ x. ReadsAsPlanned x bytes gave)
last_gave None c bytes h = tt
last_gave (Some x) c bytes h = (c, h, tt)

pub last_none : (plan0 plan : Option Plan) (c d : ℕ) (bytes : List ℕ) → plan ≡ plan0 → IfSome plan0 (λ x. Gives x c bytes) → AsPlanned plan c d (Ok 0) → IfSome plan0 (λ x. ReadsAsPlanned x bytes gave_none)
last_none None plan c d bytes e h p = tt
last_none (Some x) plan c d bytes e h p = let q = subst (λ (o : Option Plan). AsPlanned o c d (Ok 0)) e p in (c, h, q.1)

pub last_failed : (plan0 plan : Option Plan) (c d : ℕ) (bytes : List ℕ) (fault : Failed) → plan ≡ plan0 → IfSome plan0 (λ x. Gives x c bytes) → AsPlanned plan c d (Err fault) → IfSome plan0 (λ x. ReadsAsPlanned x bytes failed)
last_failed None plan c d bytes fault e h p = tt
last_failed (Some x) plan c d bytes fault e h p = let q = subst (λ (o : Option Plan). AsPlanned o c d (Err fault)) e p in (c, h, q.1)

-- the first connection was opened
pub opens_first : (connections : List (List ℕ)) (coming : Option (List (List ℕ))) (rest : Option (List ℕ)) → OpensNext (Some connections) coming rest (Ok true) → (b : List ℕ) × (rest ≡ Some b) × (first_of connections ≡ b) × (0 < length connections) × (coming ≡ Some (drop 1 connections))
opens_first connections None rest p = absurd p
opens_first connections (Some after) None p = absurd p
opens_first connections (Some after) (Some b) p = (b, refl, ap first_of p, omega (arith, ap length p), ap (λ (l : List (List ℕ)). Some l) (sym (ap (λ (l : List (List ℕ)). drop 1 l) p)))

-- there was no connection
pub none_left : (connections : List (List ℕ)) (coming : Option (List (List ℕ))) (rest : Option (List ℕ)) → OpensNext (Some connections) coming rest (Ok false) → (connections ≡ []) × (coming ≡ Some connections)
none_left connections None rest p = absurd p
none_left connections (Some after) None p = (p.0, ap (λ (l : List (List ℕ)). Some l) (p.1 ∙ sym p.0))
none_left connections (Some after) (Some b) p = (p.0, ap (λ (l : List (List ℕ)). Some l) (p.1 ∙ sym p.0))

-- an opening failed: what is to come is as before
pub failed_to_open : (connections : List (List ℕ)) (coming : Option (List (List ℕ))) (rest : Option (List ℕ)) (e : Failed) → OpensNext (Some connections) coming rest (Err e) → coming ≡ Some connections
failed_to_open connections None rest e p = absurd p
failed_to_open connections (Some after) None e p = ap (λ (l : List (List ℕ)). Some l) p
failed_to_open connections (Some after) (Some b) e p = ap (λ (l : List (List ℕ)). Some l) p

-- what is left of a connection of which these bytes were given
left_of : (xs : List ℕ) (now : Option (List ℕ)) (bytes : List ℕ) → Consumes (Some xs) now bytes → (ys : List ℕ) × (now ≡ Some ys) × (xs ≡ bytes ++ ys)
left_of xs None bytes p = absurd p
left_of xs (Some ys) bytes p = (ys, refl, p)

left_kept : (xs : List ℕ) (now : Option (List ℕ)) → Keeps (Some xs) now → now ≡ Some xs
left_kept xs None k = absurd k
left_kept xs (Some ys) k = ap (λ (l : List ℕ). Some l) k

-- where each read gave bytes
pub all_before : (went : List LastRead) → AllGave went → GaveBefore went
all_before [] h = tt
all_before (gave ∷ went) h = h
all_before (gave_none ∷ went) h = absurd h
all_before (failed ∷ went) h = absurd h

pub all_last : (went : List LastRead) → AllGave went → last_of_reads went ≡ gave
all_last [] h = refl
all_last (gave ∷ went) h = refl
all_last (gave_none ∷ went) h = absurd h
all_last (failed ∷ went) h = absurd h

some_gave : (n : ℕ) (went : List LastRead) → AllGave (read_of n ∷ went) → (n ≢ 0) × AllGave went
some_gave zero went h = absurd h
some_gave (suc n) went h = (λ z. omega (arith, z), subst (λ (l : LastRead). AllGave (l ∷ went)) (read_some (suc n) (λ z. omega (arith, z))) h)

-- no read was made
unread_steady : (plan : Plan) (calls : ℕ) (went : List LastRead) → went ≡ [] → calls ≡ 0 → Gives plan (length went) [] × (calls ≡ length went)
unread_steady plan calls [] e none = (gives_nothing plan, none)
unread_steady plan calls (l ∷ went) e none = absurd (omega (arith, ap length e))

unread_reads : (plan : Plan) (went : List LastRead) → went ≡ [] → ReadsAsPlanned plan [] (last_of_reads went)
unread_reads plan [] e = (0, gives_nothing plan, tt)
unread_reads plan (l ∷ went) e = absurd (omega (arith, ap length e))

follows_untouched : (plan : Plan) → FollowsPlan plan (untouched plan) 0 []
follows_untouched plan = record {
  shown = refl;
  given = [];
  given_is = refl;
  follows = record { coming = refl; opened = refl; is_closed = refl; none = λ e. absurd (cc e); unread = refl; uncalled = refl };
}

module _ (plan : Plan) (a b : Aside) (calls : ℕ) (went : List LastRead) where
  opened_by : (gs : List Given) → FollowsBy plan a calls went gs → Opens a b (Ok true) → FollowsBy plan b calls went (gs ++ fresh ∷ [])
  opened_by [] f o =
      let first = opens_first plan.connections b.coming b.rest (subst (λ (c : Option (List (List ℕ))). OpensNext c b.coming b.rest (Ok true)) f.coming o.coming) in (
        o.opened ∙ ap one_more f.opened,
        λ fine calm.
            record {
              some = first.3;
              coming = first.4;
              rest = first.0;
              front = first.2;
              left = λ _. first.1;
              whole = λ e. absurd (cc e);
              within = omega arith;
              taken = λ _. o.taken;
              steady = λ _. unread_steady plan calls went f.unread f.uncalled;
              reads = λ _. unread_reads plan went f.unread;
            },
      )
  opened_by (g ∷ []) f o = omega (arith, o.opened, f.0)
  opened_by (g ∷ h ∷ gs) f o = omega (arith, o.opened, f)

  refused_by : (gs : List Given) → FollowsBy plan a calls went gs → Opens a b (Ok false) → FollowsBy plan b calls went gs
  refused_by [] f o =
      let left = none_left plan.connections b.coming b.rest (subst (λ (c : Option (List (List ℕ))). OpensNext c b.coming b.rest (Ok false)) f.coming o.coming) in
      record { coming = left.1; opened = o.opened ∙ f.opened; is_closed = o.is_open ∙ f.is_closed; none = λ _. left.0; unread = f.unread; uncalled = f.uncalled }
  refused_by (g ∷ []) f o = (o.opened ∙ f.0, λ fine calm. absurd (cc (o.refused, fine)))
  refused_by (g ∷ h ∷ gs) f o = subst (λ (n : ℕ). 1 < n) (sym o.opened) f

  unopened_by : (gs : List Given) (e : Failed) → FollowsBy plan a calls went gs → Opens a b (Err e) → FollowsBy plan b calls went gs
  unopened_by [] e f o =
      let coming = failed_to_open plan.connections b.coming b.rest e (subst (λ (c : Option (List (List ℕ))). OpensNext c b.coming b.rest (Err e)) f.coming o.coming) in
      record { coming = coming; opened = o.opened ∙ f.opened; is_closed = o.is_open ∙ f.is_closed; none = λ yes'. absurd (cc (o.refused, yes')); unread = f.unread; uncalled = f.uncalled }
  unopened_by (g ∷ []) e f o = (o.opened ∙ f.0, λ fine calm. absurd (omega (arith, o.cause.failed.0, calm)))
  unopened_by (g ∷ h ∷ gs) e f o = subst (λ (n : ℕ). 1 < n) (sym o.opened) f

  closed_by : (gs : List Given) → FollowsBy plan a calls went gs → Closes a b → FollowsBy plan b calls went gs
  closed_by [] f c = record {
    coming = ap (λ (x : Aside). x.coming) c.same ∙ f.coming;
    opened = ap (λ (x : Aside). x.opened) c.same ∙ f.opened;
    is_closed = ap (λ (x : Aside). x.is_open) c.same;
    none = λ e. f.none (sym (ap (λ (x : Aside). x.refused) c.same) ∙ e);
    unread = f.unread;
    uncalled = f.uncalled;
  }
  closed_by (g ∷ []) f c = (
    ap (λ (x : Aside). x.opened) c.same ∙ f.0,
    λ fine calm.
        let o = f.1 (sym (ap (λ (x : Aside). x.refused) c.same) ∙ fine) (sym (ap (λ (x : Aside). x.open_faults) c.same) ∙ calm) in
        record {
          some = o.some;
          coming = ap (λ (x : Aside). x.coming) c.same ∙ o.coming;
          rest = o.rest;
          front = o.front;
          left = λ yes'. absurd (cc (ap (λ (x : Aside). x.is_open) c.same, yes'));
          whole = o.whole;
          within = o.within;
          taken = λ yes'. absurd (cc (ap (λ (x : Aside). x.is_open) c.same, yes'));
          steady = o.steady;
          reads = o.reads;
        },
  )
  closed_by (g ∷ h ∷ gs) f c = subst (λ (n : ℕ). 1 < n) (sym (ap (λ (x : Aside). x.opened) c.same)) f

  -- how the read went that came behind reads that each gave bytes
  went_by : (g : Given) (n d : ℕ) (buf : List ℕ) → Gives plan calls g.bytes → (Contains plan.fails calls → ⊥) → (n ≢ 0 → Gives plan d (g.bytes ++ take n buf)) → ReadsAsPlanned plan (g.bytes ++ take n buf) (read_of n)
  went_by g zero d buf same fine more = subst (λ (l : List ℕ). ReadsAsPlanned plan l gave_none) (sym (append-nil g.bytes)) (calls, same, fine)
  went_by g (suc n) d buf same fine more = subst (λ (l : LastRead). ReadsAsPlanned plan (g.bytes ++ take (suc n) buf) l) (sym (read_some (suc n) (λ z. omega (arith, z)))) (d, more (λ z. omega (arith, z)), tt)

  gave_by : (gs : List Given) (n d : ℕ) (buf : List ℕ) → FollowsBy plan a calls went gs → a.is_open ≡ true → a.plan ≡ Some plan → Reads a b (Ok n) buf → AsPlanned a.plan calls d (Ok n) → n ≤ length buf → 0 < length buf → length buf ≡ read_size a.taken
      → FollowsBy plan b d (read_of n ∷ went) (given_more gs (take n buf) (read_of n))
  gave_by [] n d buf f is_open shown r p within some size = absurd (cc (f.is_closed, is_open))
  gave_by (g ∷ h ∷ []) n d buf f is_open shown r p within some size = subst (λ (k : ℕ). 1 < k) (sym r.opened) f
  gave_by (g ∷ h ∷ i ∷ gs) n d buf f is_open shown r p within some size = subst (λ (k : ℕ). 1 < k) (sym r.opened) f
  gave_by (g ∷ []) n d buf f is_open shown r p within some size = (
    r.opened ∙ f.0,
    λ fine calm.
        let o = f.1 (sym r.refused ∙ fine) (sym r.calm ∙ calm) in
        let at = left_of o.rest b.rest (take n buf) (subst (λ (x : Option (List ℕ)). Consumes x b.rest (take n buf)) (o.left is_open) r.rest.0) in
        let long : length (g.bytes ++ take n buf) ≡ length g.bytes + n = omega (arith, length-append g.bytes (take n buf), length-take n buf, within) in
        let room : length g.bytes + n ≤ most_taken = omega (arith, within, size, o.taken is_open, o.within) in
        let piece : n ≤ most_read = omega (arith, within, size) in
        let q = subst (λ (x : Option Plan). AsPlanned x calls d (Ok n)) shown p in
        let more : AllGave went → n ≢ 0 → Gives plan d (g.bytes ++ take n buf) =
        λ all not. let t = o.steady all in gives_then (Some plan) a.plan calls d n g.bytes buf shown (subst (λ (k : ℕ). Gives plan k g.bytes) (sym t.1) t.0) p not within piece o.within in
        record {
          some = o.some;
          coming = r.coming ∙ o.coming;
          rest = at.0;
          front = o.front ∙ ap (λ (l : List ℕ). g.bytes ++ l) at.2 ∙ sym (append_assoc g.bytes (take n buf) at.0);
          left = λ _. at.1;
          whole = λ e. subst (λ (x : Option (List ℕ)). IsAtEnd x) at.1 (r.rest.1 (read_none n e) some);
          within = omega (arith, long, room);
          taken = λ _. omega (arith, r.taken, o.taken is_open, long, room);
          steady = λ all.
              let s = some_gave n went all in
              let t = o.steady s.1 in
              let next : d ≡ length (read_of n ∷ went) = omega (arith, q.0, t.1, t.0.most, o.within) in
              (subst (λ (k : ℕ). Gives plan k (g.bytes ++ take n buf)) next (more s.1 s.0), next);
          reads = λ all. let t = o.steady all in went_by g n d buf (subst (λ (k : ℕ). Gives plan k g.bytes) (sym t.1) t.0) q.1 (more all);
        },
  )

  failed_by : (gs : List Given) (e : Failed) (d : ℕ) (buf : List ℕ) → FollowsBy plan a calls went gs → a.is_open ≡ true → a.plan ≡ Some plan → Reads a b (Err e) buf → AsPlanned a.plan calls d (Err e) → FollowsBy plan b d (failed ∷ went) (given_more gs [] failed)
  failed_by [] e d buf f is_open shown r p = absurd (cc (f.is_closed, is_open))
  failed_by (g ∷ h ∷ []) e d buf f is_open shown r p = subst (λ (k : ℕ). 1 < k) (sym r.opened) f
  failed_by (g ∷ h ∷ i ∷ gs) e d buf f is_open shown r p = subst (λ (k : ℕ). 1 < k) (sym r.opened) f
  failed_by (g ∷ []) e d buf f is_open shown r p = (
    r.opened ∙ f.0,
    λ fine calm.
        let o = f.1 (sym r.refused ∙ fine) (sym r.calm ∙ calm) in
        let same : g.bytes ++ [] ≡ g.bytes = append-nil g.bytes in
        let q = subst (λ (x : Option Plan). AsPlanned x calls d (Err e)) shown p in
        record {
          some = o.some;
          coming = r.coming ∙ o.coming;
          rest = o.rest;
          front = o.front ∙ ap (λ (l : List ℕ). l ++ o.rest) (sym same);
          left = λ _. left_kept o.rest b.rest (subst (λ (x : Option (List ℕ)). Keeps x b.rest) (o.left is_open) r.rest);
          whole = λ h. absurd (cc h);
          within = subst (λ (l : List ℕ). length l ≤ most_taken) (sym same) o.within;
          taken = λ _. r.taken ∙ o.taken is_open ∙ ap length (sym same);
          steady = λ h. absurd h;
          reads = λ all. let t = o.steady all in subst (λ (l : List ℕ). ReadsAsPlanned plan l failed) (sym same) (calls, subst (λ (k : ℕ). Gives plan k g.bytes) (sym t.1) t.0, q.1);
        },
  )

pub follows_new : (first : Aside) (calls : ℕ) → Follows first first calls calls []
follows_new first calls = record { plan = λ plan is none. subst (λ (n : ℕ). FollowsPlan plan first n []) (sym none) (subst (λ (x : Aside). FollowsPlan plan x 0 []) (sym is) (follows_untouched plan)) }

-- The port made one more call.
module _ (first a b : Aside) (before c d : ℕ) (went : List LastRead) (f : Follows first a before c went) where
  pub follows_opens : (r : Result Bool Failed) → Opens a b r → d ≡ c → Follows first b before d went
  follows_opens r o same = record { plan = λ plan is none. subst (λ (n : ℕ). FollowsPlan plan b n went) (sym same) (by r o plan (f.plan plan is none)) }
    where
      by : (r : Result Bool Failed) → Opens a b r → (plan : Plan) → FollowsPlan plan a c went → FollowsPlan plan b c went
      by (Ok true) o plan g = record {
        shown = o.plan ∙ g.shown;
        given = g.given ++ fresh ∷ [];
        given_is = subst (λ (x : Option (List Given)). GivesNext x b.given (Ok true)) g.given_is o.given;
        follows = opened_by plan a b c went g.given g.follows o;
      }
      by (Ok false) o plan g = record {
        shown = o.plan ∙ g.shown;
        given = g.given;
        given_is = subst (λ (x : Option (List Given)). GivesNext x b.given (Ok false)) g.given_is o.given;
        follows = refused_by plan a b c went g.given g.follows o;
      }
      by (Err e) o plan g = record {
        shown = o.plan ∙ g.shown;
        given = g.given;
        given_is = subst (λ (x : Option (List Given)). GivesNext x b.given (Err e)) g.given_is o.given;
        follows = unopened_by plan a b c went g.given e g.follows o;
      }

  pub follows_gave : (n : ℕ) (buf : List ℕ) → a.is_open ≡ true → Reads a b (Ok n) buf → AsPlanned a.plan c d (Ok n) → n ≤ length buf → 0 < length buf → length buf ≡ read_size a.taken → Follows first b before d (read_of n ∷ went)
  follows_gave n buf is_open r p within some size = record {
    plan = λ plan is none.
        let g = f.plan plan is none in
        record {
          shown = r.plan ∙ g.shown;
          given = given_more g.given (take n buf) (read_of n);
          given_is = subst (λ (x : Option (List Given)). GivesBytes x b.given (Ok n) buf) g.given_is r.given;
          follows = gave_by plan a b c went g.given n d buf g.follows is_open g.shown r p within some size;
        };
  }

  pub follows_failed : (e : Failed) (buf : List ℕ) → a.is_open ≡ true → Reads a b (Err e) buf → AsPlanned a.plan c d (Err e) → Follows first b before d (failed ∷ went)
  follows_failed e buf is_open r p = record {
    plan = λ plan is none.
        let g = f.plan plan is none in
        record {
          shown = r.plan ∙ g.shown;
          given = given_more g.given [] failed;
          given_is = subst (λ (x : Option (List Given)). GivesBytes x b.given (Err e) buf) g.given_is r.given;
          follows = failed_by plan a b c went g.given e d buf g.follows is_open g.shown r p;
        };
  }

  pub follows_closes : Closes a b → d ≡ c → Follows first b before d went
  follows_closes s same = record {
    plan = λ plan is none.
        let g = f.plan plan is none in
        subst (λ (n : ℕ). FollowsPlan plan b n went) (sym same) (record {
          shown = ap (λ (x : Aside). x.plan) s.same ∙ g.shown;
          given = g.given;
          given_is = ap (λ (x : Aside). x.given) s.same ∙ g.given_is;
          follows = closed_by plan a b c went g.given g.follows s;
        });
  }
