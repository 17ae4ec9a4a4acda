-- The revision that a run ends with, by the plans of its ports.
use Rattle.std.proofs.Common.{◌≡◌, ℕ, ◌+◌, ◌<◌, List, [], ◌∷◌, ◌++◌, length, map, take, get_or, Option, refl, sym, ap, ◌∙◌, subst, suc, arith}
use Rattle.std.specs.List.{AllByRecursion}
use Rattle.std.proofs.Math.Seq.{take-append_seam}
use Rattle.std.proofs.lemmas.List.{length-map}
use Rattle.std.proofs.lemmas.List.Sums.{sum_by-cons}
use Rattle.bmp_specs.specs.Meaning.{Meaning}
use Rattle.cut_publisher.specs.Cuts.{IsLane, total}
use Rattle.cut_publisher.specs.History.{Asker, Fed, Site, part}
use Rattle.cut_publisher.specs.Opening.{fresh_feed}
use Rattle.rib_model.specs.declared.entry.Entry.{Entry}
use Rattle.rib_model.specs.Entries.{entry_value, entry_values}
use Rattle.router_tables.specs.Tables.{TablesValue}
use Rattle.wire_io.specs.Aside.{Aside, Plan}
use Rattle.station_doors.specs.Doors.{Returned, ReturnedLink, YardValue, untouched}
use Rattle.feed_worker.specs.Feed.{ServesFeed}
use Rattle.feed_worker.specs.Planned.{AreWholeLives, LivesFit}
use Rattle.feed_worker.specs.declared.feed.LaneEnd.{LaneEnd}
use Rattle.feed_worker.specs.declared.feed.LaneEnd.TheVariants as end
use Rattle.feed_worker.proofs.Planned.{publishes_plan}
use Rattle.ask_session.specs.Replies.{History}
use Rattle.station_run.specs.Counting.{AllLivesFit, CountLives, DoneCountsLives, FailNone}
use Rattle.station_run.specs.Handed.{ComeBack, HandsOutTold, numbered, numbered_links}
use Rattle.station_run.specs.Pairing.{outcome_of}
use Rattle.station_run.specs.Served.{AreLaneRuns, IsLaneRun, LaneRun, StandFor, end_of, first_link_of, first_of, last_link_of, last_of}
use Rattle.station_run.specs.declared.outcome.Outcome.{Outcome}
use Rattle.station_run.specs.declared.outcome.Outcome.TheVariants.{Done}
use Rattle.station_run.proofs.Handing.{length-numbered}

abbrev pub AllOver : List LaneRun → Type 0
AllOver runs = AllByRecursion (λ (r : LaneRun). r.end ≡ end.Over) runs

over_more : (r : LaneRun) (rs : List LaneRun) (e : LaneEnd) → r.end ≡ e → (outcome_of (map end_of rs) ≡ Done → AllOver rs) → outcome_of (e ∷ map end_of rs) ≡ Done → AllOver (r ∷ rs)
over_more r rs end.Over is again done = (is, again done)
over_more r rs end.NoMemory is again done = absurd (cc done)

-- no lane ran out of memory
pub all_over : (rs : List LaneRun) → outcome_of (map end_of rs) ≡ Done → AllOver rs
all_over [] done = tt
all_over (r ∷ rs) done = over_more r rs r.end refl (all_over rs) done

abbrev shown_first : Aside → List Returned → Aside
shown_first a [] = a
shown_first a (x ∷ xs) = x.shows

abbrev others : List Returned → List Returned
others [] = []
others (x ∷ xs) = xs

-- what a lane published of its port
one_lane : (meaning : Meaning) (rounds : ℕ) (site : Site) (h : History) (k : ℕ) (r : LaneRun) (plan : Plan) → LivesFit meaning rounds plan → plan.fails ≡ [] → r.first ≡ untouched plan → r.end ≡ end.Over → IsLaneRun meaning rounds site h k r
    → AreWholeLives meaning (take rounds plan.connections) (entry_values r.pass.entries)
one_lane meaning rounds site h k r plan fits none first over is =
    let serves = subst (λ (e : LaneEnd). ServesFeed meaning rounds (untouched plan) r.last (fresh_feed site k) r.pass e) over (subst (λ (a : Aside). ServesFeed meaning rounds a r.last (fresh_feed site k) r.pass r.end) first is.lane_serves.serves) in
    publishes_plan meaning rounds plan r.last (fresh_feed site k) r.pass fits none refl serves

-- the lanes from this one on
count_lives : (meaning : Meaning) (rounds : ℕ) (site : Site) (h : History) (k : ℕ) (rs : List LaneRun) (plans : List Plan) (cut : List (TablesValue × ℕ)) → AllLivesFit meaning rounds plans → FailNone plans → numbered first_of k rs ≡ numbered untouched k plans → AllOver rs
    → AreLaneRuns meaning rounds site h k rs → length cut ≡ length rs → ((j : ℕ) (d : TablesValue × ℕ) → j < length cut → IsLane StandFor (part (k + j) h) (get_or cut j d)) → CountLives meaning rounds plans (total cut)
count_lives meaning rounds site h k [] [] [] fits none same over runs count lanes = refl
count_lives meaning rounds site h k [] [] (x ∷ xs) fits none same over runs count lanes = absurd (omega (arith, count))
count_lives meaning rounds site h k [] (p ∷ ps) cut fits none same over runs count lanes = absurd (omega (arith, ap (λ (l : List Returned). length l) same))
count_lives meaning rounds site h k (r ∷ rs) [] cut fits none same over runs count lanes = absurd (omega (arith, ap (λ (l : List Returned). length l) same))
count_lives meaning rounds site h k (r ∷ rs) (p ∷ ps) [] fits none same over runs count lanes = absurd (omega (arith, count))
count_lives meaning rounds site h k (r ∷ rs) (p ∷ ps) (x ∷ xs) fits none same over runs count lanes =
    let first : r.first ≡ untouched p = ap (λ (l : List Returned). shown_first r.first l) same in
    let lane = lanes 0 x (omega arith) in
    let here : k + 0 ≡ k = omega arith in
    let mine : x.1 ≡ length r.pass.entries = lane.count ∙ ap (λ (n : ℕ). length (part n h)) here ∙ ap (λ (l : List Entry). length l) runs.0.published in
    let more = count_lives meaning rounds site h (k + 1) rs ps xs fits.1 none.1 (ap (λ (l : List Returned). others l) same) over.1 runs.1 (omega (arith, count))
    (λ j d within. let there : k + suc j ≡ (k + 1) + j = omega arith in subst (λ (n : ℕ). IsLane StandFor (part n h) (get_or xs j d)) there (lanes (suc j) d (omega (arith, within)))) in (
      entry_values r.pass.entries,
      total xs,
      one_lane meaning rounds site h k r p fits.0 none.0 first over.0 runs.0,
      more,
      sum_by-cons (λ (y : TablesValue × ℕ). y.1) x xs ∙ ap (λ (n : ℕ). n + total xs) (mine ∙ sym (length-map r.pass.entries entry_value)),
    )

-- the plans of the ports that were handed out are the first that waited
first_plans : (yard : YardValue) (calls count n : ℕ) (ports : List Returned) (links : List ReturnedLink) → (h : HandsOutTold yard calls count ports links) → length ports ≡ n → h.plans ≡ take n yard.ports
first_plans yard calls count n ports links h many =
    let len : length h.plans ≡ n = sym (length-numbered untouched 0 h.plans) ∙ ap (λ (l : List Returned). length l) (sym h.shown) ∙ many in
    sym (ap (λ (l : List Plan). take n l) h.ports_are ∙ ap (λ (k : ℕ). take k (h.plans ++ h.waiting)) (sym len) ∙ take-append_seam h.plans h.waiting)

pub done_counts_lives : {E : Type 0} (Shows : E → List (TablesValue × ℕ) → List (Fed Entry) → List (Asker Entry) → Type 0) (meaning : Meaning) → DoneCountsLives Shows meaning
done_counts_lives {E} Shows meaning at rounds old new yard rev fits told none e =
    let ports = numbered first_of 0 e.runs in
    let links = numbered_links first_link_of 0 e.ask_runs in
    let back = subst (λ (o : Option YardValue). ComeBack o new.told old.calls (1 + (at.feeds + at.askers)) ports (numbered last_of 0 e.runs) links (numbered_links last_link_of 0 e.ask_runs)) told e.back.told in
    let plans : back.0.plans ≡ take at.feeds yard.ports = first_plans yard old.calls (1 + (at.feeds + at.askers)) at.feeds ports links back.0 e.back.ports_count in
    let lanes = e.served.ending.cut_is.lanes in
    let many : length e.cut ≡ length e.runs = e.served.ending.wide ∙ sym e.served.count in
    let counted : CountLives meaning rounds back.0.plans (total e.cut) =
    count_lives meaning rounds e.served.site e.served.ending.history 0 e.runs back.0.plans e.cut (subst (λ (l : List Plan). AllLivesFit meaning rounds l) (sym plans) fits) (subst (λ (l : List Plan). FailNone l) (sym plans) none) back.0.shown (all_over e.runs (sym e.outcome_is)) e.served.lanes_are many
    (λ j d within. let there : j ≡ 0 + j = omega arith in subst (λ (n : ℕ). IsLane StandFor (part n e.served.ending.history) (get_or e.cut j d)) there (lanes j d within)) in
    let is : total e.cut ≡ rev = e.served.ending.cut_is.rev ∙ sym e.served.rev_is in
    subst (λ (l : List Plan). CountLives meaning rounds l rev) plans (subst (λ (n : ℕ). CountLives meaning rounds back.0.plans n) is counted)
