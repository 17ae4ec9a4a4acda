-- The works and the passes of a drill.
use Rattle.std.proofs.Common.{◌≡◌, ℕ, zero, suc, ◌+◌, ◌<◌, ◌≤◌, List, [], ◌∷◌, ◌++◌, length, get_or, Option, Some, None, refl, sym, ap, ◌∙◌, subst, inl, inr, arith}
use Rattle.std.specs.Prelude.{◌⊎◌, IsTrue, IfSome, slice_index}
use Rattle.std.specs.Io.KnownBytes.{Consumes, IsAtEnd}
use Rattle.std.specs.List.{All, AllByRecursion, Contains}
use Rattle.std.proofs.lemmas.Bool.{cases_lt}
use Rattle.std.proofs.lemmas.List.{get_or_append_left, get_or_push, length_push}
use Rattle.std.proofs.lemmas.List.Elements.{All-nil, All-push, Contains-append_left, Contains-get_or, Contains-push, Contains-push_cases}
use Rattle.bmp_specs.specs.declared.causes.Cause.{Cause}
use Rattle.bmp_specs.specs.Life.{most_taken}
use Rattle.bmp_specs.specs.MessageEffects.{strict}
use Rattle.bmp_specs.specs.Octets.{AreOctets}
use Rattle.bmp_specs.specs.Openings.{nothing_told}
use Rattle.cut_publisher.specs.Ending.{IsEnding}
use Rattle.cut_publisher.specs.History.{Asker, Fed, Site, part}
use Rattle.cut_publisher.specs.Opening.{AreAsksOf, AreFeedsOf, AreFreshFeeds, AreSeated, fresh_feed}
use Rattle.drill_streams.specs.DrillStream.{IsDrillStream}
use Rattle.rib_model.specs.declared.entry.Entry.{Entry}
use Rattle.rib_model.specs.Entries.{entry_values}
use Rattle.router_tables.specs.Tables.{TablesValue}
use Rattle.wire_io.specs.Aside.{Aside, Plan}
use Rattle.feed_worker.specs.Connection.{TakesConnection}
use Rattle.station_run.specs.Drill.{AreWorks, Begins, Ends, HasDrilled, HasDrilledPass, HaveDrilled, IsDrillCut, IsDrilled, IsTakenWhole, MayDrill, drill_station, lane_of}
use Rattle.station_run.specs.Served.{StandFor}
use Rattle.station_run.specs.Works.{AreDone, AreReady}
use Rattle.station_run.specs.declared.drill_tasks.DrillLane.{DrillLane}
use Rattle.station_run.specs.declared.drill_tasks.DrillTask.{DrillTask}
use Rattle.station_run.specs.declared.drill_tasks.DrillTask.TheVariants.{Lane, Ask}
use Rattle.station_run.proofs.Decided.{walks_whole}

-- what holds of the number at each place of a list holds of all
pub all_at : (P : ℕ → Type 0) (xs : List ℕ) → ((i : ℕ) → P (slice_index xs i)) → AllByRecursion P xs
all_at P [] at = tt
all_at P (x ∷ xs) at = (at zero, all_at P xs (λ i. at (suc i)))

-- what a read connection has left
consumed : (stream bytes : List ℕ) (rest : Option (List ℕ)) → Consumes (Some stream) rest bytes → (left : List ℕ) × (stream ≡ bytes ++ left) × (IsAtEnd rest → left ≡ [])
consumed stream bytes None c = absurd c
consumed stream bytes (Some left) c = (left, c, λ e. e)

-- a connection with these bytes whose reads don't fail
pub taken_whole : (stream : List ℕ) (old new : Aside) (pass pass' : Fed Entry) (cause : Cause) → old.rest ≡ Some stream → old.plan ≡ Some (record { connections = stream ∷ []; fails = [] }) → pass.entries ≡ [] → length stream < most_taken
    → TakesConnection strict nothing_told old new pass pass' cause → IsTakenWhole stream (entry_values pass'.entries)
taken_whole stream old new pass pass' cause rest plan none short t =
    let (left, split, end) = consumed stream t.input.bytes new.rest (subst (λ (o : Option (List ℕ)). Consumes o new.rest t.input.bytes) rest t.took.rest) in
    record {
      messages = t.messages;
      offset = t.come.offset;
      verdict = t.come.verdict;
      walk = walks_whole strict stream t.input.bytes left t.messages t.input.last t.come.offset t.come.verdict cause split short (λ e. end (t.took.end e))
          (λ e. subst (λ (o : Option Plan). IfSome o (λ (p : Plan). p.fails ≡ [] → ⊥)) plan (t.took.planned e) refl) t.come.walk t.come.because;
      is = ap (λ (l : List Entry). entry_values l) (t.grows.entries ∙ ap (λ (l : List Entry). l ++ t.grows.made) none) ∙ sym t.grows.values_are;
    }

-- the lanes that have their works, while so many passes are left
pub record Adding (seed messages : ℕ) (b : Site) (lanes : ℕ) (left : List (Fed Entry)) (tasks : List DrillTask) : Type 0 where
  pub fresh : (k : ℕ) (d : Fed Entry) → k < length left → get_or left k d ≡ fresh_feed b k
  pub few : length left ≤ lanes
  pub each : All (Begins seed messages b) tasks
  pub all : (lane : ℕ) → length left ≤ lane → lane < lanes → (task : DrillTask) × Contains tasks task × (lane_of task ≡ Some lane)

pub adding_none : (seed messages : ℕ) (b : Site) (lanes : ℕ) (feeds : List (Fed Entry)) (tasks : List DrillTask) → tasks ≡ [] → AreFreshFeeds b lanes feeds → Adding seed messages b lanes feeds tasks
adding_none seed messages b lanes feeds tasks none fresh = record {
  fresh = λ k d h. fresh.each k d (omega (arith, h, fresh.count));
  few = omega (arith, fresh.count);
  each = subst (λ (l : List DrillTask). All (Begins seed messages b) l) (sym none) (All-nil (Begins seed messages b));
  all = λ lane low high. absurd (omega (arith, low, high, fresh.count));
}

pub adding_more : (seed messages : ℕ) (b : Site) (lanes : ℕ) (left rest : List (Fed Entry)) (tasks after : List DrillTask) (w : DrillLane) → left ≡ rest ++ w.pass ∷ [] → after ≡ tasks ++ Lane w ∷ []
    → AreOctets w.stream → IsDrillStream seed w.pass.lane messages w.stream → length w.stream < most_taken → Adding seed messages b lanes left tasks → Adding seed messages b lanes rest after
adding_more seed messages b lanes left rest tasks after w e t octets stream short a =
    let long : length left ≡ length rest + 1 = ap (λ (l : List (Fed Entry)). length l) e ∙ length_push rest w.pass in
    let here : w.pass ≡ fresh_feed b (length rest) = sym (get_or_push rest w.pass w.pass (length rest) refl) ∙ ap (λ (l : List (Fed Entry)). get_or l (length rest) w.pass) (sym e) ∙ a.fresh (length rest) w.pass (omega (arith, long)) in
    record {
      fresh = λ k d h. sym (get_or_append_left rest (w.pass ∷ []) d k h) ∙ ap (λ (l : List (Fed Entry)). get_or l k d) (sym e) ∙ a.fresh k d (omega (arith, h, long));
      few = omega (arith, a.few, long);
      each = subst (λ (l : List DrillTask). All (Begins seed messages b) l) (sym t)
          (All-push (Begins seed messages b) tasks (Lane w) a.each (ap (λ (f : Fed Entry). f.station) here, record { none = ap (λ (f : Fed Entry). f.entries) here; short = short }, octets, stream));
      all = λ lane low high. elim (cases_lt lane (length left)) [
        | inl this ↦ (
          Lane w,
          subst (λ (l : List DrillTask). Contains l (Lane w)) (sym t) (Contains-push tasks (Lane w)),
          let same : length rest ≡ lane = omega (arith, this, low, long) in ap (λ (n : ℕ). Some n) (ap (λ (f : Fed Entry). f.lane) here ∙ same),
        )
        | inr other ↦ let (task, at, is) = a.all lane other high in (task, subst (λ (l : List DrillTask). Contains l task) (sym t) (Contains-append_left tasks (Lane w ∷ []) task at), is)
      ];
    }

pub adding_done : (seed messages : ℕ) (b : Site) (lanes : ℕ) (left : List (Fed Entry)) (tasks : List DrillTask) → length left ≡ 0 → Adding seed messages b lanes left tasks → AreWorks (Begins seed messages b) lanes tasks
adding_done seed messages b lanes left tasks none a = record { each = a.each; all = λ lane high. a.all lane (omega (arith, none)) high }

-- one more asker
pub works_more : (seed messages : ℕ) (b : Site) (lanes : ℕ) (tasks after : List DrillTask) (t : DrillTask) → after ≡ tasks ++ t ∷ [] → Begins seed messages b t → AreWorks (Begins seed messages b) lanes tasks → AreWorks (Begins seed messages b) lanes after
works_more seed messages b lanes tasks after t e begins a = record {
  each = subst (λ (l : List DrillTask). All (Begins seed messages b) l) (sym e) (All-push (Begins seed messages b) tasks t a.each begins);
  all = λ lane high. let (task, at, is) = a.all lane high in (task, subst (λ (l : List DrillTask). Contains l task) (sym e) (Contains-append_left tasks (t ∷ []) task at), is);
}

-- the passes of askers that are left are of the station
pub asks_rest : (b : Site) (left rest : List (Asker Entry)) (a : Asker Entry) → left ≡ rest ++ a ∷ [] → AreAsksOf b left → AreAsksOf b rest × (a.station ≡ b)
asks_rest b left rest a e of =
    let long : length left ≡ length rest + 1 = ap (λ (l : List (Asker Entry)). length l) e ∙ length_push rest a in (
      λ k d h. ap (λ (x : Asker Entry). x.station) (sym (get_or_append_left rest (a ∷ []) d k h) ∙ ap (λ (l : List (Asker Entry)). get_or l k d) (sym e)) ∙ of k d (omega (arith, h, long)),
      ap (λ (x : Asker Entry). x.station) (sym (get_or_push rest a a (length rest) refl) ∙ ap (λ (l : List (Asker Entry)). get_or l (length rest) a) (sym e)) ∙ of (length rest) a (omega (arith, long)),
    )

-- the askers that have their works
pub record Asking (old new : List DrillTask) (all left : List (Asker Entry)) : Type 0 where
  pub go : (seed messages : ℕ) (b : Site) (lanes : ℕ) → AreAsksOf b all → AreWorks (Begins seed messages b) lanes old → AreAsksOf b left × AreWorks (Begins seed messages b) lanes new

pub asking_none : (tasks : List DrillTask) (all : List (Asker Entry)) → Asking tasks tasks all all
asking_none tasks all = record { go = λ seed messages b lanes of a. (of, a) }

pub asking_more : (old tasks after : List DrillTask) (all left rest : List (Asker Entry)) (t : DrillTask) (a : Asker Entry) → left ≡ rest ++ a ∷ [] → after ≡ tasks ++ t ∷ []
    → ((seed messages : ℕ) (b : Site) → a.station ≡ b → Begins seed messages b t) → Asking old tasks all left → Asking old after all rest
asking_more old tasks after all left rest t a e f begins p = record {
  go = λ seed messages b lanes of works.
      let (left_of, now) = p.go seed messages b lanes of works in
      let (rest_of, this) = asks_rest b left rest a e left_of in
      (rest_of, works_more seed messages b lanes tasks after t f (begins seed messages b this) now);
}

-- each work can begin
station_is : (seed messages : ℕ) (b : Site) (t : DrillTask) → Begins seed messages b t → drill_station t ≡ b
station_is seed messages b (Lane w) begins = begins.0
station_is seed messages b (Ask w) begins = begins

may_drill : (seed messages : ℕ) (b : Site) (t : DrillTask) → Begins seed messages b t → MayDrill t
may_drill seed messages b (Lane w) begins = begins.1
may_drill seed messages b (Ask w) begins = tt

pub drill_ready : (seed messages : ℕ) (b : Site) (lanes : ℕ) (tasks : List DrillTask) → AreWorks (Begins seed messages b) lanes tasks → AreReady drill_station MayDrill b tasks
drill_ready seed messages b lanes tasks a = record {
  of = λ k d h. station_is seed messages b (get_or tasks k d) (a.each k d h);
  able = λ k d h. may_drill seed messages b (get_or tasks k d) (a.each k d h);
}

-- each work is done
ends_of : (seed messages : ℕ) (b : Site) (t u : DrillTask) → Begins seed messages b t → HasDrilled t u → Ends seed messages b u
ends_of seed messages b (Lane w) (Lane v) begins done = (
  done.station ∙ begins.0,
  λ whole. record { bytes = w.stream; octets = begins.2; stream = subst (λ (n : ℕ). IsDrillStream seed n messages w.stream) (sym done.lane) begins.3; taken = done.whole whole },
)
ends_of seed messages b (Lane w) (Ask v) begins done = absurd done
ends_of seed messages b (Ask w) (Lane v) begins done = absurd done
ends_of seed messages b (Ask w) (Ask v) begins done = done ∙ begins

same_lane : (t u : DrillTask) → HasDrilled t u → lane_of u ≡ lane_of t
same_lane (Lane w) (Lane v) done = ap (λ (n : ℕ). Some n) done.lane
same_lane (Lane w) (Ask v) done = absurd done
same_lane (Ask w) (Lane v) done = absurd done
same_lane (Ask w) (Ask v) done = refl

pub drill_done : (seed messages : ℕ) (b : Site) (lanes : ℕ) (tasks after : List DrillTask) → AreWorks (Begins seed messages b) lanes tasks → AreDone HasDrilled tasks after → AreWorks (Ends seed messages b) lanes after
drill_done seed messages b lanes tasks after a done = record {
  each = λ k d h. let here : k < length tasks = omega (arith, h, done.count) in ends_of seed messages b (get_or tasks k d) (get_or after k d) (a.each k d here) (done.each k d here);
  all = λ lane high.
      let (task, at, is) = a.all lane high in
      let (k, here, place) = at in (
        get_or after k task,
        Contains-get_or after k task (omega (arith, here, done.count)),
        same_lane (get_or tasks k task) (get_or after k task) (done.each k task here) ∙ ap lane_of place ∙ is,
      );
}

-- works that are taken apart: those left, and the passes that were taken out
pub record Apart (seed messages : ℕ) (b : Site) (lanes : ℕ) (left : List DrillTask) (feeds : List (Fed Entry)) (asks : List (Asker Entry)) : Type 0 where
  pub each : All (Ends seed messages b) left
  pub feeds_each : All (HasDrilledPass seed messages b) feeds
  pub asks_each : All (λ (a : Asker Entry). a.station ≡ b) asks
  pub all : (lane : ℕ) → lane < lanes → ((task : DrillTask) × Contains left task × (lane_of task ≡ Some lane)) ⊎ ((pass : Fed Entry) × Contains feeds pass × (pass.lane ≡ lane))

pub apart_none : (seed messages : ℕ) (b : Site) (lanes : ℕ) (tasks : List DrillTask) (feeds : List (Fed Entry)) (asks : List (Asker Entry)) → feeds ≡ [] → asks ≡ [] → AreWorks (Ends seed messages b) lanes tasks → Apart seed messages b lanes tasks feeds asks
apart_none seed messages b lanes tasks feeds asks f k a = record {
  each = a.each;
  feeds_each = subst (λ (l : List (Fed Entry)). All (HasDrilledPass seed messages b) l) (sym f) (All-nil (HasDrilledPass seed messages b));
  asks_each = subst (λ (l : List (Asker Entry)). All (λ (a : Asker Entry). a.station ≡ b) l) (sym k) (All-nil (λ (a : Asker Entry). a.station ≡ b));
  all = λ lane high. inl (a.all lane high);
}

-- the works that are left, and the one that was taken out
ends_rest : (seed messages : ℕ) (b : Site) (left rest : List DrillTask) (t : DrillTask) → left ≡ rest ++ t ∷ [] → All (Ends seed messages b) left → All (Ends seed messages b) rest × Ends seed messages b t
ends_rest seed messages b left rest t e all =
    let long : length left ≡ length rest + 1 = ap (λ (l : List DrillTask). length l) e ∙ length_push rest t in (
      λ k d h. subst (λ (x : DrillTask). Ends seed messages b x) (ap (λ (l : List DrillTask). get_or l k d) e ∙ get_or_append_left rest (t ∷ []) d k h) (all k d (omega (arith, h, long))),
      subst (λ (x : DrillTask). Ends seed messages b x) (ap (λ (l : List DrillTask). get_or l (length rest) t) e ∙ get_or_push rest t t (length rest) refl) (all (length rest) t (omega (arith, long))),
    )

some_is : (n m : ℕ) → Some n ≡ Some m → n ≡ m
some_is n m e = ap (λ (o : Option ℕ). at o) e
  where
    at : Option ℕ → ℕ
    at None = n
    at (Some k) = k

none_some : (m : ℕ) → None ≡ Some m → ⊥
none_some m e = cc e

pub apart_lane : (seed messages : ℕ) (b : Site) (lanes : ℕ) (left rest : List DrillTask) (feeds after : List (Fed Entry)) (asks : List (Asker Entry)) (w : DrillLane) → left ≡ rest ++ Lane w ∷ [] → after ≡ feeds ++ w.pass ∷ [] → IsTrue w.is_whole
    → Apart seed messages b lanes left feeds asks → Apart seed messages b lanes rest after asks
apart_lane seed messages b lanes left rest feeds after asks w e f whole a =
    let (others, this) = ends_rest seed messages b left rest (Lane w) e a.each in
    record {
      each = others;
      feeds_each = subst (λ (l : List (Fed Entry)). All (HasDrilledPass seed messages b) l) (sym f) (All-push (HasDrilledPass seed messages b) feeds w.pass a.feeds_each (this.0, this.1 whole));
      asks_each = a.asks_each;
      all = λ lane high. elim (a.all lane high) [
        | inl (task, at, is) ↦ elim (Contains-push_cases rest (Lane w) task (subst (λ (l : List DrillTask). Contains l task) e at)) [
          | inl there ↦ inl (task, there, is)
          | inr same ↦ inr (w.pass, subst (λ (l : List (Fed Entry)). Contains l w.pass) (sym f) (Contains-push feeds w.pass), some_is w.pass.lane lane (ap lane_of same ∙ is))
        ]
        | inr (pass, at, is) ↦ inr (pass, subst (λ (l : List (Fed Entry)). Contains l pass) (sym f) (Contains-append_left feeds (w.pass ∷ []) pass at), is)
      ];
    }

pub apart_ask : (seed messages : ℕ) (b : Site) (lanes : ℕ) (left rest : List DrillTask) (feeds : List (Fed Entry)) (asks after : List (Asker Entry)) (t : DrillTask) (pass : Asker Entry) → left ≡ rest ++ t ∷ [] → lane_of t ≡ None
    → (Ends seed messages b t → pass.station ≡ b) → after ≡ asks ++ pass ∷ [] → Apart seed messages b lanes left feeds asks → Apart seed messages b lanes rest feeds after
apart_ask seed messages b lanes left rest feeds asks after t pass e no_lane of f a =
    let (others, this) = ends_rest seed messages b left rest t e a.each in
    record {
      each = others;
      feeds_each = a.feeds_each;
      asks_each = subst (λ (l : List (Asker Entry)). All (λ (a : Asker Entry). a.station ≡ b) l) (sym f) (All-push (λ (a : Asker Entry). a.station ≡ b) asks pass a.asks_each (of this));
      all = λ lane high. elim (a.all lane high) [
        | inl (task, at, is) ↦ elim (Contains-push_cases rest t task (subst (λ (l : List DrillTask). Contains l task) e at)) [
          | inl there ↦ inl (task, there, is)
          | inr same ↦ absurd (none_some lane (sym no_lane ∙ ap lane_of same ∙ is))
        ]
        | inr found ↦ inr found
      ];
    }

not_in_none : (left : List DrillTask) (task : DrillTask) → length left ≡ 0 → Contains left task → ⊥
not_in_none left task none at = omega (arith, none, at.1)

pub apart_done : (seed messages : ℕ) (b : Site) (lanes : ℕ) (left : List DrillTask) (feeds : List (Fed Entry)) (asks : List (Asker Entry)) → length left ≡ 0 → Apart seed messages b lanes left feeds asks → HaveDrilled seed messages b lanes feeds asks
apart_done seed messages b lanes left feeds asks none a = record {
  feeds_each = a.feeds_each;
  asks_each = a.asks_each;
  all = λ lane high. elim (a.all lane high) [
    | inl (task, at, is) ↦ absurd (not_in_none left task none at)
    | inr found ↦ found
  ];
}

-- the passes are of the station
pub feeds_of : (seed messages : ℕ) (b : Site) (lanes : ℕ) (feeds : List (Fed Entry)) (asks : List (Asker Entry)) → HaveDrilled seed messages b lanes feeds asks → AreFeedsOf b feeds
feeds_of seed messages b lanes feeds asks h k d lt = (h.feeds_each k d lt).0

-- seated passes are of the station that they were of
pub seated_of : (b : Site) (old new : List (Asker Entry)) → AreSeated old new → AreAsksOf b old → AreAsksOf b new
seated_of b old new seated of k d h = let here : k < length old = omega (arith, h, seated.count) in ap (λ (a : Asker Entry). a.station) (seated.each k d here) ∙ of k d here

-- the cut of the end
pub drill_cut : (seed messages lanes : ℕ) (b : Site) (cut : List (TablesValue × ℕ)) (feeds feeds2 : List (Fed Entry)) (asks asks2 : List (Asker Entry)) → b.lanes ≡ lanes → HaveDrilled seed messages b lanes feeds asks
    → IsEnding StandFor b.lanes feeds asks cut feeds2 asks2 → IsDrillCut seed lanes messages cut
drill_cut seed messages lanes b cut feeds feeds2 asks asks2 wide h e = record {
  history = e.history;
  stands = e.cut_is;
  wide = e.wide ∙ wide;
  parts = λ lane high.
      let (pass, at, is) = h.all lane high in
      let (k, here, place) = at in
      let drilled : IsDrilled seed messages pass.lane (entry_values pass.entries) = (subst (λ (f : Fed Entry). HasDrilledPass seed messages b f) place (h.feeds_each k pass here)).1 in
      let same : part pass.lane e.history ≡ pass.entries = subst (λ (f : Fed Entry). part f.lane e.history ≡ f.entries) place (e.parts k pass here) in
      subst (λ (n : ℕ). IsDrilled seed messages n (entry_values (part n e.history))) is (subst (λ (l : List Entry). IsDrilled seed messages pass.lane (entry_values l)) (sym same) drilled);
}
