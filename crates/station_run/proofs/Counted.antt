-- The revision that a run ends with, by what its ports count.
use Rattle.std.proofs.Common.{◌≡◌, ℕ, ◌+◌, ◌<◌, Bool, true, false, List, [], ◌∷◌, length, get_or, Result, Ok, Err, refl, sym, ap, ◌∙◌, subst, suc, zero, arith, inl, inr}
use Rattle.std.specs.Prelude.{MatchBool, nat_lt}
use Rattle.std.specs.List.{AllByRecursion}
use Rattle.std.proofs.lemmas.List.Sums.{sum_by-cons}
use Rattle.bmp_specs.specs.Life.{IsLife}
use Rattle.bmp_specs.specs.Meaning.{Meaning}
use Rattle.cut_publisher.specs.Cuts.{IsLane, total}
use Rattle.cut_publisher.specs.History.{Asker, Fed, Site, part}
use Rattle.cut_publisher.specs.Opening.{fresh_feed}
use Rattle.rib_model.specs.declared.entry.Entry.{Entry}
use Rattle.router_tables.specs.Tables.{TablesValue}
use Rattle.wire_io.specs.Aside.{Aside}
use Rattle.wire_io.specs.declared.sink.Failed.{Failed}
use Rattle.station_doors.specs.Doors.{Opens, one_more, IsRefusal}
use Rattle.feed_worker.specs.Feed.{Connection, Serves, ServesFeed, Stops, lives_of}
use Rattle.feed_worker.specs.declared.feed.LaneEnd.{LaneEnd}
use Rattle.feed_worker.specs.declared.feed.LaneEnd.TheVariants as end
use Rattle.feed_worker.proofs.Growing.{grows_values}
use Rattle.ask_session.specs.Replies.{History}
use Rattle.station_run.specs.Counting.{CountsConnections, EndCountsConnections, published_by}
use Rattle.station_run.specs.Handed.{call_after}
use Rattle.station_run.specs.Served.{AreLaneRuns, LaneRun, LaneServes, StandFor}
use Rattle.station_run.proofs.Counting.{AllOver, all_over}

call_first : (n more : ℕ) → call_after (one_more n) more ≡ one_more (call_after n more)
call_first n zero = refl
call_first n (suc more) = ap (λ (k : ℕ). one_more k) (call_first n more)

-- each connection is counted once as given and once as closed
serves_counted : (meaning : Meaning) (cs : List Connection) (old new : Aside) → Serves meaning old new cs → (new.opened ≡ call_after old.opened (length cs)) × (new.closed ≡ call_after old.closed (length cs))
serves_counted meaning [] old new same = (ap (λ (a : Aside). a.opened) same, ap (λ (a : Aside). a.closed) same)
serves_counted meaning (c ∷ cs) old new (visit, life, rest) =
    let opened : c.closed.opened ≡ one_more old.opened = ap (λ (a : Aside). a.opened) visit.closes.same ∙ visit.takes.opened ∙ visit.opens.opened in
    let closed : c.closed.closed ≡ one_more old.closed = ap (λ (a : Aside). a.closed) visit.closes.same ∙ ap (λ (k : ℕ). one_more k) (visit.takes.closed ∙ visit.opens.closed) in
    let more = serves_counted meaning cs c.closed new rest in (
      more.0 ∙ ap (λ (k : ℕ). call_after k (length cs)) opened ∙ call_first old.opened (length cs),
      more.1 ∙ ap (λ (k : ℕ). call_after k (length cs)) closed ∙ call_first old.closed (length cs),
    )

-- a call that gives no connection counts none
refusal_counts : (after new : Aside) (result : Result Bool Failed) → IsRefusal result → Opens after new result → (new.opened ≡ after.opened) × (new.closed ≡ after.closed)
refusal_counts after new (Ok true) refused opens = absurd refused
refusal_counts after new (Ok false) refused opens = (opens.opened, opens.closed)
refusal_counts after new (Err failed) refused opens = (opens.opened, opens.closed)

stop_counts : (few : Bool) (after new : Aside) (pass : Fed Entry) (count rounds : ℕ) → MatchBool few (Stops after new pass) ((count ≡ rounds) × (new ≡ after)) → (new.opened ≡ after.opened) × (new.closed ≡ after.closed)
stop_counts true after new pass count rounds (inl refuses) = refusal_counts after new refuses.result refuses.refused refuses.opens
stop_counts true after new pass count rounds (inr (many, same)) = (ap (λ (a : Aside). a.opened) same, ap (λ (a : Aside). a.closed) same)
stop_counts false after new pass count rounds (all, same) = (ap (λ (a : Aside). a.opened) same, ap (λ (a : Aside). a.closed) same)

whole_lives : (meaning : Meaning) (cs : List Connection) (old new : Aside) → Serves meaning old new cs → AllByRecursion (λ (c : Connection). IsLife meaning c.input.bytes c.input.last c.life) cs
whole_lives meaning [] old new same = tt
whole_lives meaning (c ∷ cs) old new (visit, life, rest) = (life, whole_lives meaning cs c.closed new rest)

one_counted : (meaning : Meaning) (rounds : ℕ) (site : Site) (lane : ℕ) (r : LaneRun) → r.end ≡ end.Over → LaneServes meaning rounds site lane r → CountsConnections meaning r
one_counted meaning rounds site lane r over s =
    let all = subst (λ (e : LaneEnd). ServesFeed meaning rounds r.first r.last (fresh_feed site lane) r.pass e) over s.serves in
    let counted = serves_counted meaning all.connections r.first all.after all.serves in
    let stopped = stop_counts (nat_lt (length all.connections) rounds) all.after r.last r.pass (length all.connections) rounds all.stop in
    record {
      connections = all.connections;
      whole = whole_lives meaning all.connections r.first all.after all.serves;
      lives = grows_values (fresh_feed site lane) r.pass (lives_of all.connections) all.grows;
      opened = stopped.0 ∙ counted.0;
      closed = stopped.1 ∙ counted.1;
    }

all_counted : (meaning : Meaning) (rounds : ℕ) (site : Site) (h : History) (k : ℕ) (rs : List LaneRun) → AllOver rs → AreLaneRuns meaning rounds site h k rs → AllByRecursion (λ (r : LaneRun). CountsConnections meaning r) rs
all_counted meaning rounds site h k [] over runs = tt
all_counted meaning rounds site h k (r ∷ rs) over runs = (one_counted meaning rounds site k r over.0 runs.0.lane_serves, all_counted meaning rounds site h (k + 1) rs over.1 runs.1)

-- a cut counts what the lanes published
count_published : (meaning : Meaning) (rounds : ℕ) (site : Site) (h : History) (k : ℕ) (rs : List LaneRun) (cut : List (TablesValue × ℕ)) → AreLaneRuns meaning rounds site h k rs → length cut ≡ length rs
    → ((j : ℕ) (d : TablesValue × ℕ) → j < length cut → IsLane StandFor (part (k + j) h) (get_or cut j d)) → total cut ≡ published_by rs
count_published meaning rounds site h k [] [] runs count lanes = refl
count_published meaning rounds site h k [] (x ∷ xs) runs count lanes = absurd (omega (arith, count))
count_published meaning rounds site h k (r ∷ rs) [] runs count lanes = absurd (omega (arith, count))
count_published meaning rounds site h k (r ∷ rs) (x ∷ xs) runs count lanes =
    let lane = lanes 0 x (omega arith) in
    let here : k + 0 ≡ k = omega arith in
    let mine : x.1 ≡ length r.pass.entries = lane.count ∙ ap (λ (n : ℕ). length (part n h)) here ∙ ap (λ (l : List Entry). length l) runs.0.published in
    let more = count_published meaning rounds site h (k + 1) rs xs runs.1 (omega (arith, count))
    (λ j d within. let there : k + suc j ≡ (k + 1) + j = omega arith in subst (λ (n : ℕ). IsLane StandFor (part n h) (get_or xs j d)) there (lanes (suc j) d (omega (arith, within)))) in
    sum_by-cons (λ (y : TablesValue × ℕ). y.1) x xs ∙ ap (λ (n : ℕ). n + total xs) mine ∙ ap (λ (n : ℕ). length r.pass.entries + n) more

pub end_counts_connections : {E : Type 0} (Shows : E → List (TablesValue × ℕ) → List (Fed Entry) → List (Asker Entry) → Type 0) (meaning : Meaning) → EndCountsConnections Shows meaning
end_counts_connections {E} Shows meaning at rounds old new outcome rev e =
    let lanes = e.served.ending.cut_is.lanes in
    let many : length e.cut ≡ length e.runs = e.served.ending.wide ∙ sym e.served.count in
    let counted = count_published meaning rounds e.served.site e.served.ending.history 0 e.runs e.cut e.served.lanes_are many
    (λ j d within. let there : j ≡ 0 + j = omega arith in subst (λ (n : ℕ). IsLane StandFor (part n e.served.ending.history) (get_or e.cut j d)) there (lanes j d within)) in
    let is : total e.cut ≡ rev = e.served.ending.cut_is.rev ∙ sym e.served.rev_is in
    (sym is ∙ counted, λ done. all_counted meaning rounds e.served.site e.served.ending.history 0 e.runs (all_over e.runs (sym e.outcome_is ∙ done)) e.served.lanes_are)
