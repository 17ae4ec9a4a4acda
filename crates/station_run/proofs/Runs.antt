-- The works of a station, from its opening to its end.
use Rattle.std.proofs.Common.{◌≡◌, ℕ, zero, suc, ◌+◌, ◌<◌, List, [], ◌∷◌, ◌++◌, length, map, take, drop, get_or, Bool, IsTrue, Option, refl, sym, ap, ◌∙◌, subst, arith, append-nil, take_all}
use Rattle.std.proofs.lemmas.List.{drop_all}
use Rattle.std.specs.List.{AllByRecursion}
use Rattle.bmp_specs.specs.Meaning.{Meaning}
use Rattle.cut_publisher.specs.History.{Asker, Begins, Fed, Site, part, revision}
use Rattle.cut_publisher.specs.Opening.{AreFreshFeeds, AreFreshAsks, AreSeated, fresh_feed}
use Rattle.cut_publisher.specs.Ending.{IsEnding}
use Rattle.cut_publisher.proofs.Prefixes.{begins_self, begins_trans}
use Rattle.rib_model.specs.declared.entry.Entry.{Entry}
use Rattle.wire_io.specs.Aside.{Aside}
use Rattle.station_doors.specs.Doors.{Returned, ReturnedLink}
use Rattle.feed_worker.specs.Feed.{ServesFeed}
use Rattle.feed_worker.specs.declared.feed.LaneEnd.{LaneEnd}
use Rattle.feed_worker.specs.declared.feed.LaneEnd.TheVariants as end
use Rattle.ask_session.specs.Replies.{History}
use Rattle.ask_session.specs.Sessions.{Served, Serves, Session}
use Rattle.ask_session.proofs.Later.{dialogue_later, no_further_later}
use Rattle.station_run.specs.declared.tasks.LaneWork.{LaneWork}
use Rattle.station_run.specs.declared.tasks.AskWork.{AskWork}
use Rattle.station_run.specs.declared.tasks.Task.{Task}
use Rattle.station_run.specs.declared.tasks.Task.TheVariants.{Lane, Ask}
use Rattle.station_run.specs.Handed.{LinkShows, link_shows, numbered, numbered_links}
use Rattle.station_run.specs.Pairing.{ArePaired, ask_passes, asks_of, ends, lanes_of, links, outcome_of, passes, ports}
use Rattle.station_run.specs.declared.outcome.Outcome.{Outcome}
use Rattle.cut_publisher.specs.Cuts.{total}
use Rattle.router_tables.specs.Tables.{TablesValue}
use Rattle.station_run.specs.Served.{AreAskRuns, AreLaneRuns, AreOnHistory, AsksServe, AskRun, HaveServed, IsServed, LaneRun, LanesServe, StandFor, ask_of, end_of, first_link_of, first_of, last_link_of, last_of, pass_of}
use Rattle.station_run.specs.Tasks.{AskIsDone, IsDone, LaneIsDone, MayBegin, station_of}
use Rattle.station_run.specs.Works.{AreDone, AreReady}

-- two lists of equal length whose elements are related, each to the other's at its place
abbrev pub Pairs : {A C : Type 0} → (A → C → Type 0) → List A → List C → Type 0
Pairs R [] [] = Unit {0}
Pairs R [] (y ∷ ys) = ⊥
Pairs R (x ∷ xs) [] = ⊥
Pairs R (x ∷ xs) (y ∷ ys) = R x y × Pairs R xs ys

-- works that were done as the slice of a whole list are done in the list
pub done_within : {W : Type 0} (done : W → W → Type 0) (old works : List W) (n : ℕ) → n ≡ length old → AreDone done old works → AreDone done old (take n (works ++ drop (length works) old))
done_within {W} done old works n e d =
    let count = d.count in
    let none = drop_all (length works) old (omega (arith, count)) in
    let all = take_all n works (omega (arith, count, e)) in
    subst (λ (l : List W). AreDone done old l) (sym (ap (λ (l : List W). take n (works ++ l)) none ∙ ap (λ (l : List W). take n l) (append-nil works) ∙ all)) d

pub pairs_of : {W : Type 0} (done : W → W → Type 0) (xs ys : List W) → AreDone done xs ys → Pairs done xs ys
pairs_of done [] [] d = tt
pairs_of done [] (y ∷ ys) d = let e = d.count in absurd (omega (arith, e))
pairs_of done (x ∷ xs) [] d = let e = d.count in absurd (omega (arith, e))
pairs_of done (x ∷ xs) (y ∷ ys) d = let e = d.count in
    (d.each 0 x (omega arith), pairs_of done xs ys (record { count = omega (arith, e); each = λ k z h. d.each (suc k) z (omega (arith, h)) }))

pub all_at : {A : Type 0} (P : A → Type 0) (xs : List A) → AllByRecursion P xs → (k : ℕ) (d : A) → k < length xs → P (get_or xs k d)
all_at P [] a k d h = absurd (omega (arith, h))
all_at P (x ∷ xs) a zero d h = a.0
all_at P (x ∷ xs) a (suc k) d h = all_at P xs a.1 k d (omega (arith, h))

pub all_from : {A : Type 0} (P : A → Type 0) (xs : List A) → ((k : ℕ) (d : A) → k < length xs → P (get_or xs k d)) → AllByRecursion P xs
all_from P [] f = tt
all_from P (x ∷ xs) f = (f 0 x (omega arith), all_from P xs (λ k d h. f (suc k) d (omega (arith, h))))

-- the passes of a station that was just opened
abbrev FreshFrom : Site → ℕ → List (Fed Entry) → Type 0
FreshFrom b k [] = Unit {0}
FreshFrom b k (f ∷ fs) = (f ≡ fresh_feed b k) × FreshFrom b (k + 1) fs

fresh_from : (b : Site) (k : ℕ) (fs : List (Fed Entry)) → ((j : ℕ) (d : Fed Entry) → j < length fs → get_or fs j d ≡ fresh_feed b (k + j)) → FreshFrom b k fs
fresh_from b k [] f = tt
fresh_from b k (x ∷ fs) f =
    let here : k + 0 ≡ k = omega arith in
    (f 0 x (omega arith) ∙ ap (λ (n : ℕ). fresh_feed b n) here, fresh_from b (k + 1) fs (λ j d h. let e : k + suc j ≡ (k + 1) + j = omega arith in f (suc j) d (omega (arith, h)) ∙ ap (λ (n : ℕ). fresh_feed b n) e))

-- whatever the end, the pass is of the same station and lane
kept_station : (meaning : Meaning) (rounds : ℕ) (old new : Aside) (f g : Fed Entry) (e : LaneEnd) → ServesFeed meaning rounds old new f g e → g.station ≡ f.station
kept_station meaning rounds old new f g end.Over s = s.grows.station
kept_station meaning rounds old new f g end.NoMemory s = s.grows.station

kept_lane : (meaning : Meaning) (rounds : ℕ) (old new : Aside) (f g : Fed Entry) (e : LaneEnd) → ServesFeed meaning rounds old new f g e → g.lane ≡ f.lane
kept_lane meaning rounds old new f g end.Over s = s.grows.lane
kept_lane meaning rounds old new f g end.NoMemory s = s.grows.lane

module _ {B P : Type 0} where
  -- the lanes' works before they begin
  abbrev pub LaneStarts : Site → ℕ → ℕ → List (LaneWork B P) → Type 0
  LaneStarts b rounds k [] = Unit {0}
  LaneStarts b rounds k (w ∷ ws) = (w.pass ≡ fresh_feed b k) × (w.rounds ≡ rounds) × LaneStarts b rounds (k + 1) ws

  lane_starts : (b : Site) (rounds k : ℕ) (ws : List (LaneWork B P)) → FreshFrom b k (passes ws) → AllByRecursion (λ w. w.rounds ≡ rounds) ws → LaneStarts b rounds k ws
  lane_starts b rounds k [] f r = tt
  lane_starts b rounds k (w ∷ ws) f r = (f.0, r.0, lane_starts b rounds (k + 1) ws f.1 r.1)

abbrev pub runs_of : {B P : Type 0} → (P → Aside) → List (LaneWork B P) → List (LaneWork B P) → List LaneRun
runs_of shows [] vs = []
runs_of shows (w ∷ ws) [] = []
runs_of shows (w ∷ ws) (v ∷ vs) = record { first = shows w.port; last = shows v.port; pass = v.pass; end = v.end } ∷ runs_of shows ws vs

module _ {B P : Type 0} (meaning : Meaning) (shows : P → Aside) where
  pub runs_passes : (ws vs : List (LaneWork B P)) → Pairs (LaneIsDone meaning shows) ws vs → map pass_of (runs_of shows ws vs) ≡ passes vs
  runs_passes [] [] p = refl
  runs_passes [] (v ∷ vs) p = absurd p
  runs_passes (w ∷ ws) [] p = absurd p
  runs_passes (w ∷ ws) (v ∷ vs) p = ap (λ (l : List (Fed Entry)). v.pass ∷ l) (runs_passes ws vs p.1)

  pub runs_ends : (ws vs : List (LaneWork B P)) → Pairs (LaneIsDone meaning shows) ws vs → map end_of (runs_of shows ws vs) ≡ ends vs
  runs_ends [] [] p = refl
  runs_ends [] (v ∷ vs) p = absurd p
  runs_ends (w ∷ ws) [] p = absurd p
  runs_ends (w ∷ ws) (v ∷ vs) p = ap (λ (l : List LaneEnd). v.end ∷ l) (runs_ends ws vs p.1)

  pub runs_first : (k : ℕ) (ws vs : List (LaneWork B P)) → Pairs (LaneIsDone meaning shows) ws vs → numbered first_of k (runs_of shows ws vs) ≡ numbered shows k (ports ws)
  runs_first k [] [] p = refl
  runs_first k [] (v ∷ vs) p = absurd p
  runs_first k (w ∷ ws) [] p = absurd p
  runs_first k (w ∷ ws) (v ∷ vs) p = ap (λ (l : List Returned). record { lane = k; shows = shows w.port } ∷ l) (runs_first (k + 1) ws vs p.1)

  pub runs_last : (k : ℕ) (ws vs : List (LaneWork B P)) → Pairs (LaneIsDone meaning shows) ws vs → numbered last_of k (runs_of shows ws vs) ≡ numbered shows k (ports vs)
  runs_last k [] [] p = refl
  runs_last k [] (v ∷ vs) p = absurd p
  runs_last k (w ∷ ws) [] p = absurd p
  runs_last k (w ∷ ws) (v ∷ vs) p = ap (λ (l : List Returned). record { lane = k; shows = shows v.port } ∷ l) (runs_last (k + 1) ws vs p.1)

  pub lanes_serve : (b : Site) (rounds k : ℕ) (ws vs : List (LaneWork B P)) → LaneStarts b rounds k ws → Pairs (LaneIsDone meaning shows) ws vs → LanesServe meaning rounds b k (runs_of shows ws vs)
  lanes_serve b rounds k [] [] s p = tt
  lanes_serve b rounds k [] (v ∷ vs) s p = absurd p
  lanes_serve b rounds k (w ∷ ws) [] s p = absurd p
  lanes_serve b rounds k (w ∷ ws) (v ∷ vs) s p = (
    record { serves = subst (λ (f : Fed Entry). ServesFeed meaning rounds (shows w.port) (shows v.port) f v.pass v.end) s.0 (subst (λ (n : ℕ). ServesFeed meaning n (shows w.port) (shows v.port) w.pass v.pass v.end) s.1 p.0.serves) },
    lanes_serve b rounds (k + 1) ws vs s.2 p.1,
  )

-- each lane's part of the history is what it published
pub are_lane_runs : (meaning : Meaning) (b : Site) (rounds k : ℕ) (h : History) (rs : List LaneRun) → LanesServe meaning rounds b k rs → AllByRecursion (λ (f : Fed Entry). part f.lane h ≡ f.entries) (map pass_of rs)
    → AreLaneRuns meaning rounds b h k rs
are_lane_runs meaning b rounds k h [] s a = tt
are_lane_runs meaning b rounds k h (r ∷ rs) s a =
    let lane : r.pass.lane ≡ k = kept_lane meaning rounds r.first r.last (fresh_feed b k) r.pass r.end s.0.serves in
    (record { lane_serves = s.0; published = ap (λ (n : ℕ). part n h) (sym lane) ∙ a.0 }, are_lane_runs meaning b rounds (k + 1) h rs s.1 a.1)

pub lanes_of_station : (meaning : Meaning) (b : Site) (rounds k : ℕ) (rs : List LaneRun) → LanesServe meaning rounds b k rs → AllByRecursion (λ (f : Fed Entry). f.station ≡ b) (map pass_of rs)
lanes_of_station meaning b rounds k [] s = tt
lanes_of_station meaning b rounds k (r ∷ rs) s = (kept_station meaning rounds r.first r.last (fresh_feed b k) r.pass r.end s.0.serves, lanes_of_station meaning b rounds (k + 1) rs s.1)

-- the askers' works before they begin
abbrev pub AskStarts : {K : Type 0} → Site → ℕ → List (AskWork K) → Type 0
AskStarts b rounds [] = Unit {0}
AskStarts b rounds (w ∷ ws) = (w.pass.station ≡ b) × (w.pass.seen ≡ []) × (w.rounds ≡ rounds) × AskStarts b rounds ws

ask_starts : {K : Type 0} (b : Site) (rounds : ℕ) (ws : List (AskWork K)) → AllByRecursion (λ (a : Asker Entry). (a.station ≡ b) × (a.seen ≡ [])) (ask_passes ws) → AllByRecursion (λ w. w.rounds ≡ rounds) ws → AskStarts b rounds ws
ask_starts b rounds [] f r = tt
ask_starts b rounds (w ∷ ws) f r = (f.0.0, f.0.1, r.0, ask_starts b rounds ws f.1 r.1)

abbrev pub ask_runs_of : {K : Type 0} → (K → LinkShows) → List (AskWork K) → List (AskWork K) → List AskRun
ask_runs_of shows [] vs = []
ask_runs_of shows (w ∷ ws) [] = []
ask_runs_of shows (w ∷ ws) (v ∷ vs) = record { first = shows w.link; last = shows v.link; pass = v.pass; served = v.served } ∷ ask_runs_of shows ws vs

-- what is seen grows with each connection
serves_grows : (lanes : ℕ) (sessions : List Session) (seen seen' : History) (a a' : Aside) (t t' : Option (List ℕ)) (w w' : ℕ) → Serves lanes seen seen' a a' t t' w w' sessions → Begins seen seen'
serves_grows lanes [] seen seen' a a' t t' w w' s = subst (λ (h : History). Begins seen h) (sym s.0) (begins_self seen)
serves_grows lanes (x ∷ xs) seen seen' a a' t t' w w' s = begins_trans seen x.seen seen' s.0 (serves_grows lanes xs x.seen seen' x.closed a' x.told1 t' x.writes w' s.5)

on_history : (lanes : ℕ) (h : History) (sessions : List Session) (seen seen' : History) (a a' : Aside) (t t' : Option (List ℕ)) (w w' : ℕ) → Serves lanes seen seen' a a' t t' w w' sessions → Begins seen' h
    → AreOnHistory lanes h seen w sessions
on_history lanes h [] seen seen' a a' t t' w w' s later = tt
on_history lanes h (x ∷ xs) seen seen' a a' t t' w w' s later =
    let rest = s.5 in
    let here : Begins x.seen h = begins_trans x.seen seen' h (serves_grows lanes xs x.seen seen' x.closed a' x.told1 t' x.writes w' rest) later in (
      record {
        reads = s.3.reads;
        few = s.3.few;
        ended = s.3.ended;
        says = s.3.says;
        replies = s.3.replies;
        talk = dialogue_later lanes x.close s.3.ended x.seen h (revision seen) x.input.bytes s.3.replies here s.3.talk;
        written = s.3.written;
        fault = s.3.fault;
        planned = s.3.planned;
        no_further = no_further_later lanes x.seen h (revision seen) x.input.bytes x.told0 x.told1 here s.3.no_further;
      },
      on_history lanes h xs x.seen seen' x.closed a' x.told1 t' x.writes w' rest later,
    )

module _ {K : Type 0} (aside : K → Aside) (told : K → Option (List ℕ)) (faults : K → ℕ) where
  pub ask_runs_passes : (ws vs : List (AskWork K)) → Pairs (AskIsDone aside told faults) ws vs → map ask_of (ask_runs_of (link_shows aside told faults) ws vs) ≡ ask_passes vs
  ask_runs_passes [] [] p = refl
  ask_runs_passes [] (v ∷ vs) p = absurd p
  ask_runs_passes (w ∷ ws) [] p = absurd p
  ask_runs_passes (w ∷ ws) (v ∷ vs) p = ap (λ (l : List (Asker Entry)). v.pass ∷ l) (ask_runs_passes ws vs p.1)

  pub ask_runs_first : (k : ℕ) (ws vs : List (AskWork K)) → Pairs (AskIsDone aside told faults) ws vs → numbered_links first_link_of k (ask_runs_of (link_shows aside told faults) ws vs) ≡ numbered_links (link_shows aside told faults) k (links ws)
  ask_runs_first k [] [] p = refl
  ask_runs_first k [] (v ∷ vs) p = absurd p
  ask_runs_first k (w ∷ ws) [] p = absurd p
  ask_runs_first k (w ∷ ws) (v ∷ vs) p = ap (λ (l : List ReturnedLink). record { number = k; shows = aside w.link; written = told w.link; faults = faults w.link } ∷ l) (ask_runs_first (k + 1) ws vs p.1)

  pub ask_runs_last : (k : ℕ) (ws vs : List (AskWork K)) → Pairs (AskIsDone aside told faults) ws vs → numbered_links last_link_of k (ask_runs_of (link_shows aside told faults) ws vs) ≡ numbered_links (link_shows aside told faults) k (links vs)
  ask_runs_last k [] [] p = refl
  ask_runs_last k [] (v ∷ vs) p = absurd p
  ask_runs_last k (w ∷ ws) [] p = absurd p
  ask_runs_last k (w ∷ ws) (v ∷ vs) p = ap (λ (l : List ReturnedLink). record { number = k; shows = aside v.link; written = told v.link; faults = faults v.link } ∷ l) (ask_runs_last (k + 1) ws vs p.1)

  pub asks_serve : (b : Site) (rounds : ℕ) (ws vs : List (AskWork K)) → AskStarts b rounds ws → Pairs (AskIsDone aside told faults) ws vs → AsksServe rounds b (ask_runs_of (link_shows aside told faults) ws vs)
  asks_serve b rounds [] [] s p = tt
  asks_serve b rounds [] (v ∷ vs) s p = absurd p
  asks_serve b rounds (w ∷ ws) [] s p = absurd p
  asks_serve b rounds (w ∷ ws) (v ∷ vs) s p = (
    record {
      station = p.0.sees.station ∙ s.0;
      served = subst (λ (x : Site). Served x.lanes rounds [] v.pass.seen (aside w.link) (aside v.link) (told w.link) (told v.link) (faults w.link) (faults v.link) v.served) s.0
          (subst (λ (n : ℕ). Served w.pass.station.lanes n [] v.pass.seen (aside w.link) (aside v.link) (told w.link) (told v.link) (faults w.link) (faults v.link) v.served) s.2
          (subst (λ (seen : History). Served w.pass.station.lanes w.rounds seen v.pass.seen (aside w.link) (aside v.link) (told w.link) (told v.link) (faults w.link) (faults v.link) v.served) s.1 p.0.served));
    },
    asks_serve b rounds ws vs s.3 p.1,
  )

-- each asker answered on the history that is seen in the end
pub are_ask_runs : (b : Site) (rounds : ℕ) (h : History) (rs : List AskRun) → AsksServe rounds b rs → AllByRecursion (λ (a : Asker Entry). Begins a.seen h) (map ask_of rs) → AreAskRuns rounds b h rs
are_ask_runs b rounds h [] s a = tt
are_ask_runs b rounds h (r ∷ rs) s a =
    let one = s.0.served in (
      record {
        ask_serves = s.0;
        earlier = a.0;
        on_history = on_history b.lanes h one.sessions [] r.pass.seen r.first.shows one.after r.first.written r.last.written r.first.faults r.last.faults one.serves a.0;
      },
      are_ask_runs b rounds h rs s.1 a.1,
    )

pub asks_of_station : (b : Site) (rounds : ℕ) (rs : List AskRun) → AsksServe rounds b rs → AllByRecursion (λ (a : Asker Entry). a.station ≡ b) (map ask_of rs)
asks_of_station b rounds [] s = tt
asks_of_station b rounds (r ∷ rs) s = (s.0.station, asks_of_station b rounds rs s.1)

module _ {B P K : Type 0} (meaning : Meaning) (port : P → Aside) (aside : K → Aside) (told : K → Option (List ℕ)) (faults : K → ℕ) where
  pub lane_pairs : (ts us : List (Task B P K)) → Pairs (IsDone meaning port aside told faults) ts us → Pairs (LaneIsDone meaning port) (lanes_of ts) (lanes_of us)
  lane_pairs [] [] p = tt
  lane_pairs [] (u ∷ us) p = absurd p
  lane_pairs (t ∷ ts) [] p = absurd p
  lane_pairs (Lane w ∷ ts) (Lane v ∷ us) p = (p.0, lane_pairs ts us p.1)
  lane_pairs (Lane w ∷ ts) (Ask v ∷ us) p = absurd p.0
  lane_pairs (Ask w ∷ ts) (Lane v ∷ us) p = absurd p.0
  lane_pairs (Ask w ∷ ts) (Ask v ∷ us) p = lane_pairs ts us p.1

  pub ask_pairs : (ts us : List (Task B P K)) → Pairs (IsDone meaning port aside told faults) ts us → Pairs (AskIsDone aside told faults) (asks_of ts) (asks_of us)
  ask_pairs [] [] p = tt
  ask_pairs [] (u ∷ us) p = absurd p
  ask_pairs (t ∷ ts) [] p = absurd p
  ask_pairs (Lane w ∷ ts) (Lane v ∷ us) p = ask_pairs ts us p.1
  ask_pairs (Lane w ∷ ts) (Ask v ∷ us) p = absurd p.0
  ask_pairs (Ask w ∷ ts) (Lane v ∷ us) p = absurd p.0
  ask_pairs (Ask w ∷ ts) (Ask v ∷ us) p = (p.0, ask_pairs ts us p.1)

-- each work is of the station
all_of : {B P K : Type 0} (b : Site) (rounds k : ℕ) (ts : List (Task B P K)) → LaneStarts b rounds k (lanes_of ts) → AskStarts b rounds (asks_of ts) → AllByRecursion (λ t. station_of t ≡ b) ts
all_of b rounds k [] l a = tt
all_of b rounds k (Lane w ∷ ts) l a = (ap (λ (f : Fed Entry). f.station) l.0, all_of b rounds (k + 1) ts l.2 a)
all_of b rounds k (Ask w ∷ ts) l a = (a.0, all_of b rounds k ts l a.3)

-- and can be begun
all_able : {B P K : Type 0} (b : Site) (rounds k : ℕ) (ts : List (Task B P K)) → LaneStarts b rounds k (lanes_of ts) → AllByRecursion MayBegin ts
all_able b rounds k [] l = tt
all_able b rounds k (Lane w ∷ ts) l = (ap (λ (f : Fed Entry). f.entries) l.0, all_able b rounds (k + 1) ts l.2)
all_able b rounds k (Ask w ∷ ts) l = (tt, all_able b rounds k ts l)

-- what works have come to that were paired from the passes of a station that was just opened
pub have_served : {B P K : Type 0} (meaning : Meaning) (port : P → Aside) (aside : K → Aside) (told : K → Option (List ℕ)) (faults : K → ℕ) (b : Site) (rounds : ℕ) (feeds feeds2 : List (Fed Entry)) (asks asks2 : List (Asker Entry))
    (ps ps2 : List P) (ks ks2 : List K) (ts us : List (Task B P K)) (kept : Bool) (outcome : Outcome) → LaneStarts b rounds 0 (lanes_of ts) → AskStarts b rounds (asks_of ts) → ArePaired feeds ps asks ks rounds ts
    → AreDone (IsDone meaning port aside told faults) ts us → outcome ≡ outcome_of (ends (lanes_of us)) → ps2 ≡ ports (lanes_of us) → ks2 ≡ links (asks_of us)
    → (IsTrue kept → (feeds2 ≡ passes (lanes_of us)) × (asks2 ≡ ask_passes (asks_of us)))
    → HaveServed meaning rounds b (numbered port 0 ps) (numbered port 0 ps2) (numbered_links (link_shows aside told faults) 0 ks) (numbered_links (link_shows aside told faults) 0 ks2) kept feeds2 asks2 outcome
have_served {B} {P} {K} meaning port aside told faults b rounds feeds feeds2 asks asks2 ps ps2 ks ks2 ts us kept outcome l a paired done is ports_are links_are passes_are =
    let p = pairs_of (IsDone meaning port aside told faults) ts us done in
    let lp = lane_pairs meaning port aside told faults ts us p in
    let kp = ask_pairs meaning port aside told faults ts us p in
    record {
      runs = runs_of port (lanes_of ts) (lanes_of us);
      ask_runs = ask_runs_of (link_shows aside told faults) (asks_of ts) (asks_of us);
      first_are = runs_first meaning port 0 (lanes_of ts) (lanes_of us) lp ∙ ap (λ (l : List P). numbered port 0 l) paired.lanes.ports_are;
      last_are = runs_last meaning port 0 (lanes_of ts) (lanes_of us) lp ∙ ap (λ (l : List P). numbered port 0 l) (sym ports_are);
      first_links_are = ask_runs_first aside told faults 0 (asks_of ts) (asks_of us) kp ∙ ap (λ (l : List K). numbered_links (link_shows aside told faults) 0 l) paired.askers.links_are;
      last_links_are = ask_runs_last aside told faults 0 (asks_of ts) (asks_of us) kp ∙ ap (λ (l : List K). numbered_links (link_shows aside told faults) 0 l) (sym links_are);
      lanes = lanes_serve meaning port b rounds 0 (lanes_of ts) (lanes_of us) l lp;
      askers = asks_serve aside told faults b rounds (asks_of ts) (asks_of us) a kp;
      feeds_are = λ k. (passes_are k).0 ∙ sym (runs_passes meaning port (lanes_of ts) (lanes_of us) lp);
      asks_are = λ k. (passes_are k).1 ∙ sym (ask_runs_passes aside told faults (asks_of ts) (asks_of us) kp);
      outcome_is = is ∙ ap (λ (l : List LaneEnd). outcome_of l) (sym (runs_ends meaning port (lanes_of ts) (lanes_of us) lp));
    }

-- the lanes' works are ready, as they were paired
pub lanes_begin : {B P K : Type 0} (b : Site) (n rounds : ℕ) (feeds : List (Fed Entry)) (asks : List (Asker Entry)) (ps : List P) (ks : List K) (ts : List (Task B P K)) → AreFreshFeeds b n feeds → ArePaired feeds ps asks ks rounds ts → LaneStarts b rounds 0 (lanes_of ts)
lanes_begin b n rounds feeds asks ps ks ts fresh p =
    lane_starts b rounds 0 (lanes_of ts) (subst (λ (l : List (Fed Entry)). FreshFrom b 0 l) (sym p.lanes.passes_are) (fresh_from b 0 feeds (λ j d h. let e : j ≡ 0 + j = omega arith in fresh.each j d (omega (arith, h, fresh.count)) ∙ ap (λ (n : ℕ). fresh_feed b n) e))) p.lanes.rounds_are

pub asks_begin : {B P K : Type 0} (b : Site) (n rounds : ℕ) (feeds : List (Fed Entry)) (asks0 asks : List (Asker Entry)) (ps : List P) (ks : List K) (ts : List (Task B P K)) → AreFreshAsks b n asks0 → AreSeated asks0 asks → ArePaired feeds ps asks ks rounds ts
    → AskStarts b rounds (asks_of ts)
asks_begin b n rounds feeds asks0 asks ps ks ts fresh seated p =
    ask_starts b rounds (asks_of ts) (subst (λ (l : List (Asker Entry)). AllByRecursion (λ (a : Asker Entry). (a.station ≡ b) × (a.seen ≡ [])) l) (sym p.askers.passes_are)
    (all_from (λ (a : Asker Entry). (a.station ≡ b) × (a.seen ≡ [])) asks (λ k d h. let here : k < length asks0 = omega (arith, h, seated.count) in let there : k < n = omega (arith, here, fresh.count) in
    (ap (λ (a : Asker Entry). a.station) (seated.each k d here) ∙ ap (λ (a : Asker Entry). a.station) (fresh.each k d there), ap (λ (a : Asker Entry). a.seen) (seated.each k d here) ∙ ap (λ (a : Asker Entry). a.seen) (fresh.each k d there))))) p.askers.rounds_are

pub are_ready : {B P K : Type 0} (b : Site) (rounds : ℕ) (ts : List (Task B P K)) → LaneStarts b rounds 0 (lanes_of ts) → AskStarts b rounds (asks_of ts) → AreReady station_of MayBegin b ts
are_ready b rounds ts l a = record {
  of = all_at (λ t. station_of t ≡ b) ts (all_of b rounds 0 ts l a);
  able = all_at MayBegin ts (all_able b rounds 0 ts l);
}

-- the history that all have seen at the end
pub is_served : (meaning : Meaning) (rounds lanes askers : ℕ) (b : Site) (runs : List LaneRun) (ask_runs : List AskRun) (cut : List (TablesValue × ℕ)) (feeds feeds2 : List (Fed Entry)) (asks asks2 : List (Asker Entry)) (rev : ℕ)
    → b.lanes ≡ lanes → length runs ≡ lanes → length ask_runs ≡ askers → LanesServe meaning rounds b 0 runs → AsksServe rounds b ask_runs → feeds ≡ map pass_of runs → asks ≡ map ask_of ask_runs
    → IsEnding StandFor b.lanes feeds asks cut feeds2 asks2 → rev ≡ total cut → IsServed meaning rounds lanes askers runs ask_runs cut feeds2 asks2 rev
is_served meaning rounds lanes askers b runs ask_runs cut feeds feeds2 asks asks2 rev wide n m l a f k e r =
    let end : IsEnding StandFor lanes (map pass_of runs) (map ask_of ask_runs) cut feeds2 asks2 =
    subst (λ (w : ℕ). IsEnding StandFor w (map pass_of runs) (map ask_of ask_runs) cut feeds2 asks2) wide
    (subst (λ (x : List (Asker Entry)). IsEnding StandFor b.lanes (map pass_of runs) x cut feeds2 asks2) k
    (subst (λ (x : List (Fed Entry)). IsEnding StandFor b.lanes x asks cut feeds2 asks2) f e)) in
    record {
      site = b;
      wide = wide;
      count = n;
      ask_count = m;
      ending = end;
      rev_is = r ∙ end.cut_is.rev;
      lanes_are = are_lane_runs meaning b rounds 0 end.history runs l (all_from (λ (f : Fed Entry). part f.lane end.history ≡ f.entries) (map pass_of runs) end.parts);
      asks_are = are_ask_runs b rounds end.history ask_runs a (all_from (λ (a : Asker Entry). Begins a.seen end.history) (map ask_of ask_runs) end.asks_end.earlier);
    }

pub length-pairs : {A C : Type 0} (R : A → C → Type 0) (xs : List A) (ys : List C) → Pairs R xs ys → length ys ≡ length xs
length-pairs R [] [] p = refl
length-pairs R [] (y ∷ ys) p = absurd p
length-pairs R (x ∷ xs) [] p = absurd p
length-pairs R (x ∷ xs) (y ∷ ys) p = let e = length-pairs R xs ys p.1 in omega (arith, e)

length_map : {X Y : Type 0} (f : X → Y) (xs : List X) → length (map f xs) ≡ length xs
length_map f [] = refl
length_map f (x ∷ xs) = let r = length_map f xs in omega (arith, r)

-- as many works of lanes as ports, and as many of askers as links
pub as_many_lanes : {B P K : Type 0} (meaning : Meaning) (port : P → Aside) (aside : K → Aside) (told : K → Option (List ℕ)) (faults : K → ℕ) (feeds : List (Fed Entry)) (asks : List (Asker Entry)) (ps : List P) (ks : List K) (rounds : ℕ) (ts us : List (Task B P K))
    → ArePaired feeds ps asks ks rounds ts → AreDone (IsDone meaning port aside told faults) ts us → length (lanes_of us) ≡ length ps
as_many_lanes {B} {P} {K} meaning port aside told faults feeds asks ps ks rounds ts us p d =
    length-pairs (LaneIsDone meaning port) (lanes_of ts) (lanes_of us) (lane_pairs meaning port aside told faults ts us (pairs_of (IsDone meaning port aside told faults) ts us d))
    ∙ sym (length_map (λ (w : LaneWork B P). w.port) (lanes_of ts)) ∙ ap (λ (l : List P). length l) p.lanes.ports_are

pub as_many_askers : {B P K : Type 0} (meaning : Meaning) (port : P → Aside) (aside : K → Aside) (told : K → Option (List ℕ)) (faults : K → ℕ) (feeds : List (Fed Entry)) (asks : List (Asker Entry)) (ps : List P) (ks : List K) (rounds : ℕ) (ts us : List (Task B P K))
    → ArePaired feeds ps asks ks rounds ts → AreDone (IsDone meaning port aside told faults) ts us → length (asks_of us) ≡ length ks
as_many_askers {B} {P} {K} meaning port aside told faults feeds asks ps ks rounds ts us p d =
    length-pairs (AskIsDone aside told faults) (asks_of ts) (asks_of us) (ask_pairs meaning port aside told faults ts us (pairs_of (IsDone meaning port aside told faults) ts us d))
    ∙ sym (length_map (λ (w : AskWork K). w.link) (asks_of ts)) ∙ ap (λ (l : List K). length l) p.askers.links_are
