-- Ports and links, as they are handed out.
use Rattle.std.proofs.Common.{◌≡◌, ◌⊎◌, ℕ, zero, suc, ◌+◌, ◌<◌, List, [], ◌∷◌, ◌++◌, length, Option, Some, None, Ok, Err, refl, sym, ap, ◌∙◌, subst, arith, append-nil, append_assoc, length-append, inl, inr}
use Rattle.std.specs.List.{Contains}
use Rattle.wire_io.specs.Aside.{Aside, Plan}
use Rattle.wire_io.specs.declared.sink.Failed.{Failed}
use Rattle.station_doors.specs.Doors.{YardValue, Returned, ReturnedLink, HandsOut, HandsOutLink, Listens, one_more, untouched, untouched_link}
use Rattle.station_doors.specs.declared.listening.Listening.{Listening}
use Rattle.station_run.specs.Handed.{HasReason, AreFine, Lends, LendsButRefuses, LinkShows, call_after, lending, lent, link_shows, numbered, numbered_links, unused}

-- one call more
pub call_next : (calls n : ℕ) → one_more (call_after calls n) ≡ call_after calls (n + 1)
call_next calls n = let e : suc n ≡ n + 1 = omega arith in ap (λ (k : ℕ). call_after calls k) e

pub lent_next : (first n : ℕ) → lent first (n + 1) ≡ (first + n) ∷ lent first n
lent_next first n = let e : n + 1 ≡ suc n = omega arith in ap (λ (k : ℕ). lent first k) e

pub length-numbered : {A : Type 0} (f : A → Aside) (n : ℕ) (xs : List A) → length (numbered f n xs) ≡ length xs
length-numbered f n [] = refl
length-numbered f n (x ∷ xs) = let e = length-numbered f (n + 1) xs in omega (arith, e)

pub length-numbered_links : {A : Type 0} (f : A → LinkShows) (n : ℕ) (xs : List A) → length (numbered_links f n xs) ≡ length xs
length-numbered_links f n [] = refl
length-numbered_links f n (x ∷ xs) = let e = length-numbered_links f (n + 1) xs in omega (arith, e)

abbrev one_link : ℕ → LinkShows → List ReturnedLink
one_link n l = record { number = n; shows = l.shows; written = l.written; faults = l.faults } ∷ []

pub numbered_more : {A : Type 0} (f : A → Aside) (n : ℕ) (xs : List A) (x : A) → numbered f n (xs ++ x ∷ []) ≡ numbered f n xs ++ record { lane = n + length xs; shows = f x } ∷ []
numbered_more f n [] x = let e : n ≡ n + 0 = omega arith in ap (λ (k : ℕ). the_port k) e
  where
    the_port : ℕ → List Returned
    the_port k = record { lane = k; shows = f x } ∷ []
numbered_more f n (y ∷ xs) x =
    let e : (n + 1) + length xs ≡ n + length (y ∷ xs) = omega arith in
    ap (λ (l : List Returned). record { lane = n; shows = f y } ∷ l) (numbered_more f (n + 1) xs x ∙ ap (λ (k : ℕ). numbered f (n + 1) xs ++ record { lane = k; shows = f x } ∷ []) e)

pub numbered_links_more : {A : Type 0} (f : A → LinkShows) (n : ℕ) (xs : List A) (x : A)
    → numbered_links f n (xs ++ x ∷ []) ≡ numbered_links f n xs ++ record { number = n + length xs; shows = (f x).shows; written = (f x).written; faults = (f x).faults } ∷ []
numbered_links_more f n [] x = let e : n ≡ n + 0 = omega arith in ap (λ (k : ℕ). the_link k) e
  where
    the_link : ℕ → List ReturnedLink
    the_link k = record { number = k; shows = (f x).shows; written = (f x).written; faults = (f x).faults } ∷ []
numbered_links_more f n (y ∷ xs) x =
    let e : (n + 1) + length xs ≡ n + length (y ∷ xs) = omega arith in
    ap (λ (l : List ReturnedLink). record { number = n; shows = (f y).shows; written = (f y).written; faults = (f y).faults } ∷ l)
    (numbered_links_more f (n + 1) xs x ∙ ap (λ (k : ℕ). numbered_links f (n + 1) xs ++ record { number = k; shows = (f x).shows; written = (f x).written; faults = (f x).faults } ∷ []) e)

fine_more : (yard : YardValue) (calls count : ℕ) → AreFine yard calls count → (Contains yard.fails (call_after calls count) → ⊥) → AreFine yard calls (count + 1)
fine_more yard calls count fine next k less fails = at (split k count (omega (arith, less)))
  where
    split : (k count : ℕ) → k < count + 1 → (k < count) ⊎ (k ≡ count)
    split k count h = grind arith

    at : (k < count) ⊎ (k ≡ count) → ⊥
    at (inl below) = fine k below fails
    at (inr same) = next (subst (λ (j : ℕ). Contains yard.fails (call_after calls j)) same fails)

-- it listens, and nothing is handed out yet
pub lends_none : (told now : Option YardValue) (calls : ℕ) → Listens calls told now (Ok tt) → Lends told now calls 1 [] []
lends_none None now calls l = l
lends_none (Some yard) now calls (fine, same) = (
  record {
    plans = [];
    link_plans = [];
    waiting = yard.ports;
    links_waiting = yard.links;
    ports_are = refl;
    links_are = refl;
    shown = refl;
    links_shown = refl;
    fine = λ k less. at k less;
  },
  same,
)
  where
    at : (k : ℕ) → k < 1 → Contains yard.fails (call_after calls k) → ⊥
    at zero h f = fine f
    at (suc k) h f = absurd (omega (arith, h))

-- a port more
pub lends_port : {P : Type 0} (shows : P → Aside) (asks : P → ℕ) (told now new : Option YardValue) (calls count lane : ℕ) (ps : List P) (p : P) (links : List ReturnedLink)
    → Lends told now calls count (numbered shows 0 ps) links → lane ≡ length ps → HandsOut shows asks lane (call_after calls count) now new (Ok p) → Lends told new calls (count + 1) (numbered shows 0 (ps ++ p ∷ [])) links
lends_port {P} shows asks None now new calls count lane ps p links e is h = subst (λ (o : Option YardValue). HandsOut shows asks lane (call_after calls count) o new (Ok p)) e h
lends_port {P} shows asks (Some yard) now new calls count lane ps p links (h0, e) is h =
    let (well, plan, rest, first, told, shown, none) = subst (λ (o : Option YardValue). HandsOut shows asks lane (call_after calls count) o new (Ok p)) e h in
    let same : length ps ≡ length h0.plans = sym (length-numbered shows 0 ps) ∙ ap (λ (l : List Returned). length l) h0.shown ∙ length-numbered untouched 0 h0.plans in
    let one : List Returned = record { lane = 0 + length ps; shows = shows p } ∷ [] in
    let pushed : numbered shows 0 (ps ++ p ∷ []) ≡ numbered untouched 0 (h0.plans ++ plan ∷ []) =
    numbered_more shows 0 ps p ∙ ap (λ (l : List Returned). l ++ one) h0.shown
    ∙ ap (λ (a : Aside). numbered untouched 0 h0.plans ++ record { lane = 0 + length ps; shows = a } ∷ []) shown
    ∙ ap (λ (k : ℕ). numbered untouched 0 h0.plans ++ record { lane = 0 + k; shows = untouched plan } ∷ []) same ∙ sym (numbered_more untouched 0 h0.plans plan) in
    let long : length (numbered shows 0 (ps ++ p ∷ [])) ≡ length (numbered shows 0 ps) + 1 = omega (arith, length-numbered shows 0 (ps ++ p ∷ []), length-numbered shows 0 ps, length-append ps (p ∷ [])) in
    let top : lane ≡ 0 + length (numbered shows 0 ps) = omega (arith, is, length-numbered shows 0 ps) in
    let outs : lane ∷ lent 0 (length (numbered shows 0 ps)) ≡ lent 0 (length (numbered shows 0 (ps ++ p ∷ []))) =
    ap (λ (k : ℕ). k ∷ lent 0 (length (numbered shows 0 ps))) top ∙ sym (lent_next 0 (length (numbered shows 0 ps))) ∙ ap (λ (k : ℕ). lent 0 k) (sym long) in (
      record {
        plans = h0.plans ++ plan ∷ [];
        link_plans = h0.link_plans;
        waiting = rest;
        links_waiting = h0.links_waiting;
        ports_are = h0.ports_are ∙ ap (λ (l : List Plan). h0.plans ++ l) first ∙ sym (append_assoc h0.plans (plan ∷ []) rest);
        links_are = h0.links_are;
        shown = pushed;
        links_shown = h0.links_shown;
        fine = fine_more yard calls count h0.fine well;
      },
      told ∙ ap (λ (l : List ℕ). Some (record (lending yard h0) { ports = rest; out = l ++ yard.out })) outs,
    )

-- a link more
pub lends_link : {K : Type 0} (aside : K → Aside) (written : K → Option (List ℕ)) (faults asks : K → ℕ) (told now new : Option YardValue) (calls count number : ℕ) (ks : List K) (k : K) (ports : List Returned)
    → Lends told now calls count ports (numbered_links (link_shows aside written faults) 0 ks) → number ≡ length ks
    → HandsOutLink aside written faults asks number (call_after calls count) now new (Ok k)
    → Lends told new calls (count + 1) ports (numbered_links (link_shows aside written faults) 0 (ks ++ k ∷ []))
lends_link {K} aside written faults asks None now new calls count number ks k ports e is h = subst (λ (o : Option YardValue). HandsOutLink aside written faults asks number (call_after calls count) o new (Ok k)) e h
lends_link {K} aside written faults asks (Some yard) now new calls count number ks k ports (h0, e) is h =
    let f : K → LinkShows = link_shows aside written faults in
    let (well, plan, rest, first, told, fresh) = subst (λ (o : Option YardValue). HandsOutLink aside written faults asks number (call_after calls count) o new (Ok k)) e h in
    let shown : f k ≡ unused plan = ap (λ (a : Aside). record { shows = a; written = written k; faults = faults k }) fresh.shown
    ∙ ap (λ (w : Option (List ℕ)). record { shows = untouched_link plan; written = w; faults = faults k }) fresh.written
    ∙ ap (λ (n : ℕ). record { shows = untouched_link plan; written = Some []; faults = n }) fresh.calm in
    let same : length ks ≡ length h0.link_plans = sym (length-numbered_links f 0 ks) ∙ ap (λ (l : List ReturnedLink). length l) h0.links_shown ∙ length-numbered_links unused 0 h0.link_plans in
    let pushed : numbered_links f 0 (ks ++ k ∷ []) ≡ numbered_links unused 0 (h0.link_plans ++ plan ∷ []) =
    numbered_links_more f 0 ks k ∙ ap (λ (l : List ReturnedLink). l ++ one_link (0 + length ks) (f k)) h0.links_shown
    ∙ ap (λ (a : LinkShows). numbered_links unused 0 h0.link_plans ++ one_link (0 + length ks) a) shown
    ∙ ap (λ (n : ℕ). numbered_links unused 0 h0.link_plans ++ one_link (0 + n) (unused plan)) same ∙ sym (numbered_links_more unused 0 h0.link_plans plan) in
    let long : length (numbered_links f 0 (ks ++ k ∷ [])) ≡ length (numbered_links f 0 ks) + 1 = omega (arith, length-numbered_links f 0 (ks ++ k ∷ []), length-numbered_links f 0 ks, length-append ks (k ∷ [])) in
    let top : number ≡ 0 + length (numbered_links f 0 ks) = omega (arith, is, length-numbered_links f 0 ks) in
    let outs : number ∷ lent 0 (length (numbered_links f 0 ks)) ≡ lent 0 (length (numbered_links f 0 (ks ++ k ∷ []))) =
    ap (λ (n : ℕ). n ∷ lent 0 (length (numbered_links f 0 ks))) top ∙ sym (lent_next 0 (length (numbered_links f 0 ks))) ∙ ap (λ (n : ℕ). lent 0 n) (sym long) in (
      record {
        plans = h0.plans;
        link_plans = h0.link_plans ++ plan ∷ [];
        waiting = h0.waiting;
        links_waiting = rest;
        ports_are = h0.ports_are;
        links_are = h0.links_are ∙ ap (λ (l : List Plan). h0.link_plans ++ l) first ∙ sym (append_assoc h0.link_plans (plan ∷ []) rest);
        shown = h0.shown;
        links_shown = pushed;
        fine = fine_more yard calls count h0.fine well;
      },
      told ∙ ap (λ (l : List ℕ). Some (record (lending yard h0) { links = rest; links_out = l ++ yard.links_out })) outs,
    )

none_wait : (xs ys zs : List Plan) → zs ≡ xs ++ ys → ys ≡ [] → length zs ≡ length xs
none_wait xs ys zs e none = ap (λ (l : List Plan). length l) (e ∙ ap (λ (l : List Plan). xs ++ l) none ∙ append-nil xs)

-- the call that is to listen failed
pub listen_refused : (at : Listening) (told now : Option YardValue) (calls : ℕ) (e : Failed) → Listens calls told now (Err e) → LendsButRefuses at told now calls 0 [] []
listen_refused at None now calls e l = l
listen_refused at (Some yard) now calls e (fails, same) = (
  inl fails,
  (
    record {
      plans = [];
      link_plans = [];
      waiting = yard.ports;
      links_waiting = yard.links;
      ports_are = refl;
      links_are = refl;
      shown = refl;
      links_shown = refl;
      fine = λ k less. absurd (omega (arith, less));
    },
    same,
  ),
)

-- a call for a port failed
pub port_refused : {P : Type 0} (shows : P → Aside) (asks : P → ℕ) (at : Listening) (told now new : Option YardValue) (calls before lane : ℕ) (ports : List Returned) (links : List ReturnedLink) (e : Failed)
    → Lends told now calls before ports links → 0 < before → length ports < at.feeds → HandsOut shows asks lane (call_after calls before) now new (Err e) → LendsButRefuses at told new calls before ports links
port_refused {P} shows asks at None now new calls before lane ports links e l some few h = subst (λ (o : Option YardValue). HandsOut shows asks lane (call_after calls before) o new (Err e)) l h
port_refused {P} shows asks at (Some yard) now new calls before lane ports links e (h0, is) some few h =
    let (why, same) = subst (λ (o : Option YardValue). HandsOut shows asks lane (call_after calls before) o new (Err e)) is h in
    (reason why, (h0, same))
  where
    reason : Contains yard.fails (call_after calls before) ⊎ (h0.waiting ≡ []) → HasReason at yard (call_after calls before) before (length ports) (length links)
    reason (inl fails) = inl fails
    reason (inr none) = inr (inl (some, few, none_wait h0.plans h0.waiting yard.ports h0.ports_are none ∙ sym (length-numbered untouched 0 h0.plans) ∙ ap (λ (l : List Returned). length l) (sym h0.shown)))

-- a call for a link failed
pub link_refused : {K : Type 0} (aside : K → Aside) (written : K → Option (List ℕ)) (faults asks : K → ℕ) (at : Listening) (told now new : Option YardValue) (calls before number : ℕ) (ports : List Returned) (links : List ReturnedLink) (e : Failed)
    → Lends told now calls before ports links → 0 < before → length ports ≡ at.feeds → HandsOutLink aside written faults asks number (call_after calls before) now new (Err e) → LendsButRefuses at told new calls before ports links
link_refused {K} aside written faults asks at None now new calls before number ports links e l some all h = subst (λ (o : Option YardValue). HandsOutLink aside written faults asks number (call_after calls before) o new (Err e)) l h
link_refused {K} aside written faults asks at (Some yard) now new calls before number ports links e (h0, is) some all h =
    let (why, same) = subst (λ (o : Option YardValue). HandsOutLink aside written faults asks number (call_after calls before) o new (Err e)) is h in
    (reason why, (h0, same))
  where
    reason : Contains yard.fails (call_after calls before) ⊎ (h0.links_waiting ≡ []) → HasReason at yard (call_after calls before) before (length ports) (length links)
    reason (inl fails) = inl fails
    reason (inr none) = inr (inr (some, all, none_wait h0.link_plans h0.links_waiting yard.links h0.links_are none ∙ sym (length-numbered_links unused 0 h0.link_plans) ∙ ap (λ (l : List ReturnedLink). length l) (sym h0.links_shown)))
