-- A schedule, event by event.
use Rattle.std.proofs.Common.{◌≡◌, ℕ, ◌+◌, ◌<◌, ◌≤◌, cond, eqb, Bool, true, false, List, [], ◌∷◌, ◌++◌, length, take, drop, get_or, set, Option, Some, Result, Ok, Err, inl, inr, refl, sym, ap, ◌∙◌, subst, append-nil, append_assoc, arith, length-append, length-set, get_or-set_other, get_or-set_same, eq-eqb, take-append-drop}
use Rattle.std.proofs.lemmas.List.{get_or_default, length-replicate, take_all}
use Rattle.std.proofs.lemmas.Grind.{take_at_read}
use Rattle.std.specs.Prelude.{slice_get}
use Rattle.std.proofs.lemmas.Option.{get_or_from_slice_get}
use Rattle.std.proofs.lemmas.List.Sums.{sum_by_more, sum_by-take-le}
use Rattle.std.proofs.lemmas.Bool.{false≢true}
use native.Mathlib.Decide.{ℕ_discrete}
use Rattle.bmp_specs.specs.Life.{gave, Given}
use Rattle.bmp_specs.specs.Meaning.{Meaning}
use Rattle.router_tables.specs.Tables.{TablesValue}
use Rattle.wire_io.specs.Aside.{Aside}
use Rattle.wire_io.specs.Writes.{Writes}
use Rattle.wire_io.proofs.Joins.{join}
use Rattle.cut_publisher.specs.History.{revision}
use Rattle.station_core.specs.declared.event.Event.{Event}
use Rattle.station_core.specs.declared.event.Event.TheVariants.{Begin, Take, End, Publish, Tell, Ask, Finish}
use Rattle.station_core.specs.declared.lane.Lane.{Lane}
use Rattle.station_core.specs.declared.schedule.ScheduleFault.{ScheduleFault}
use Rattle.station_core.specs.declared.schedule.ScheduleFault.TheVariants.{Failed, NoMemory}
use Rattle.station_core.specs.Machine.{Acts, Begins, ChangesLane, ComesTo, LaneValue, MachineValue, Publishes, Steps, WhereNamed, next_of, with_end, with_piece}
use Rattle.station_core.specs.Schedule.{Leaves, Runs, begins_on, begun_on, start_of, unused}
use Rattle.station_core.specs.Standing.{AreFew, HasRoom, HasStepped, Stands}
use Rattle.station_core.proofs.Changing.{first_due}

-- one more event
pub runs_more : (meaning : Meaning) (events : List Event) (event : Event) (a b c : MachineValue) (replies reply : List ℕ) → Runs meaning events a b replies → Steps meaning event b c reply → Runs meaning (events ++ event ∷ []) a c (replies ++ reply)
runs_more meaning [] event a b c replies reply (same, none) steps =
    (record { next = c; reply = reply; after = []; steps = subst (λ (m : MachineValue). Steps meaning event m c reply) same steps; split = ap (λ (l : List ℕ). l ++ reply) none ∙ sym (append-nil reply) }, (refl, refl))
runs_more meaning (e ∷ events) event a b c replies reply (first, rest) steps =
    (record { next = first.next; reply = first.reply; after = first.after ++ reply; steps = first.steps; split = ap (λ (l : List ℕ). l ++ reply) first.split ∙ append_assoc first.reply first.after reply }, runs_more meaning events event first.next b c first.after reply rest steps)

-- how many connections each lane has: at most as many as events began one on it
abbrev pub Counted : MachineValue → (ℕ → ℕ) → Type 0
Counted v most = (k : ℕ) → k < length v.lanes → length (get_or v.lanes k unused).connections ≤ most k

-- a lane has at most so many connections more
abbrev pub OneMore : ℕ → List Given → List Given → Type 0
OneMore more old new = length new ≤ length old + more

begins_one : (meaning : Meaning) (old new : List Given) → Begins meaning old new → OneMore 1 old new
begins_one meaning old new (inl (free, is)) = omega (arith, ap length is, length-append old (record { bytes = []; last = gave } ∷ []))
begins_one meaning old new (inr (live, is)) = omega (arith, ap length is)

comes_none : (meaning : Meaning) (after : Given → Given) (old new : List Given) → ComesTo meaning after old new → OneMore 0 old new
comes_none meaning after old new (inl (live, is)) = omega (arith, ap length is, ap length live.split, length-append live.earlier (after live.present ∷ []), length-append live.earlier (live.present ∷ []))
comes_none meaning after old new (inr (free, is)) = omega (arith, ap length is)

-- after an event
abbrev pub CountsOn : Event → MachineValue → MachineValue → Type 0
CountsOn event v w = (length w.lanes ≡ length v.lanes) × ((k : ℕ) → k < length v.lanes → OneMore (cond (begins_on k event) 1 0) (get_or v.lanes k unused).connections (get_or w.lanes k unused).connections)

same_counts : (event : Event) (v w : MachineValue) → w.lanes ≡ v.lanes → CountsOn event v w
same_counts event v w same = (ap length same, λ k lt. omega (arith, ap (λ (l : List LaneValue). length (get_or l k unused).connections) same))

module _ (event : Event) (number more : ℕ) (counts : (k : ℕ) → k ≡ number → more ≤ cond (begins_on k event) 1 0) where
  -- one lane is another
  set_counts : (v w : MachineValue) (lane after : LaneValue) → number < length v.lanes → slice_get v.lanes number ≡ Some lane → w.lanes ≡ set v.lanes number after → OneMore more lane.connections after.connections → CountsOn event v w
  set_counts v w lane after here at lanes grew = (ap length lanes ∙ length-set v.lanes number after, λ k lt. go k lt (ℕ_discrete k number))
    where
      was : get_or v.lanes number unused ≡ lane
      was = get_or_from_slice_get v.lanes number lane unused at

      go : (k : ℕ) → k < length v.lanes → Dec (k ≡ number) → OneMore (cond (begins_on k event) 1 0) (get_or v.lanes k unused).connections (get_or w.lanes k unused).connections
      go k lt (yes is) =
          let new : length (get_or w.lanes k unused).connections ≡ length after.connections = ap (λ (l : List LaneValue). length (get_or l k unused).connections) lanes
          ∙ ap (λ (i : ℕ). length (get_or (set v.lanes number after) i unused).connections) is ∙ ap (λ (l : LaneValue). length l.connections) (get_or-set_same v.lanes number after unused here) in
          let old : length (get_or v.lanes k unused).connections ≡ length lane.connections = ap (λ (i : ℕ). length (get_or v.lanes i unused).connections) is ∙ ap (λ (l : LaneValue). length l.connections) was in
          omega (arith, grew, counts k is, new, old)
      go k lt (no ne) =
          let new : length (get_or w.lanes k unused).connections ≡ length (get_or v.lanes k unused).connections = ap (λ (l : List LaneValue). length (get_or l k unused).connections) lanes
          ∙ ap (λ (l : LaneValue). length l.connections) (get_or-set_other v.lanes number k after unused ne) in
          omega (arith, new)

  lane_counts : (Does : List Given → List Given → Type 0) → ((old new : List Given) → Does old new → OneMore more old new) → (v w : MachineValue) → WhereNamed number v.lanes (ChangesLane number Does) v w → CountsOn event v w
  lane_counts Does one v w (inr (past, same)) = same_counts event v w (ap (λ (m : MachineValue). m.lanes) same)
  lane_counts Does one v w (inl (here, c)) = set_counts v w c.lane (record { connections = c.connections; published = c.lane.published }) here c.at (ap (λ (m : MachineValue). m.lanes) c.is) (one c.lane.connections c.connections c.does)

  publish_counts : (meaning : Meaning) (v w : MachineValue) → WhereNamed number v.lanes (Publishes meaning number) v w → CountsOn event v w
  publish_counts meaning v w (inr (past, same)) = same_counts event v w (ap (λ (m : MachineValue). m.lanes) same)
  publish_counts meaning v w (inl (here, c)) = set_counts v w c.lane (record { connections = c.lane.connections; published = c.lane.published + length (next_of (drop c.lane.published c.due)) }) here c.at (ap (λ (m : MachineValue). m.lanes) c.is) (omega arith)

one_for : (lane k : ℕ) → lane ≡ k → 1 ≤ cond (begins_on k (Begin lane)) 1 0
one_for lane k is = go (eqb lane k) (eq-eqb lane k is)
  where
    go : (b : Bool) → b ≡ true → 1 ≤ cond b 1 0
    go true e = omega arith
    go false e = absurd (false≢true e)

act_counts : (meaning : Meaning) (event : Event) (v w : MachineValue) (reply : List ℕ) → Acts meaning event v w reply → CountsOn event v w
act_counts meaning (Begin lane) v w reply (does, none) = lane_counts (Begin lane) lane 1 (λ k is. one_for lane k (sym is)) (Begins meaning) (begins_one meaning) v w does
act_counts meaning (Take lane piece) v w reply (does, none) = lane_counts (Take lane piece) lane 0 (λ k is. omega arith) (ComesTo meaning (with_piece piece)) (comes_none meaning (with_piece piece)) v w does
act_counts meaning (End lane fault) v w reply (does, none) = lane_counts (End lane fault) lane 0 (λ k is. omega arith) (ComesTo meaning (with_end fault)) (comes_none meaning (with_end fault)) v w does
act_counts meaning (Publish lane) v w reply (does, none) = publish_counts (Publish lane) lane 0 (λ k is. omega arith) meaning v w does
act_counts meaning (Tell asker rev) v w reply (inl (here, t), none) = same_counts (Tell asker rev) v w (ap (λ (m : MachineValue). m.lanes) t.is)
act_counts meaning (Tell asker rev) v w reply (inr (past, same), none) = same_counts (Tell asker rev) v w (ap (λ (m : MachineValue). m.lanes) same)
act_counts meaning (Ask asker ask) v w reply (inl a) = same_counts (Ask asker ask) v w (ap (λ (m : MachineValue). m.lanes) a.is)
act_counts meaning (Ask asker ask) v w reply (inr (why, still)) = same_counts (Ask asker ask) v w (ap (λ (m : MachineValue). m.lanes) still.same)
act_counts meaning Finish v w reply (is, none) = same_counts Finish v w (ap (λ (m : MachineValue). m.lanes) is)

pub step_counts : (meaning : Meaning) (event : Event) (v w : MachineValue) (reply : List ℕ) → Steps meaning event v w reply → CountsOn event v w
step_counts meaning event v w reply (inl (open', acts)) = act_counts meaning event v w reply acts
step_counts meaning event v w reply (inr (shut, still)) = same_counts event v w (ap (λ (m : MachineValue). m.lanes) still.same)

-- the events so far were run: what is kept stands for where they lead, and their replies were written
pub record Running {B O : Type 0} (faults : O → ℕ) (told : O → Option (List ℕ)) (aside : O → Aside) (meaning : Meaning) (state : B → meaning.State) (done : List Event) (start : MachineValue) (old new : O)
    (lanes : List (Lane B)) (shown : List (TablesValue × ℕ)) (seen : List ℕ) (finished : Bool) : Type 0 where
  pub now : MachineValue
  pub replies : List ℕ
  pub runs : Runs meaning done start now replies
  pub stands : Stands meaning state lanes shown seen finished now
  pub count : (k : ℕ) → k < length now.lanes → length (get_or now.lanes k unused).connections ≤ begun_on k done
  pub written : Writes faults told aside old replies (Ok tt) new

-- the events begin few connections on each lane
abbrev pub BeginsFew : ℕ → List Event → Type 0
BeginsFew lanes events = (lane : ℕ) → lane < lanes → begun_on lane events ≤ 4096

module _ {B O : Type 0} (faults : O → ℕ) (told : O → Option (List ℕ)) (aside : O → Aside) (meaning : Meaning) (state : B → meaning.State) (events : List Event) (start : MachineValue) (old : O) where
  module _ (i : ℕ) (new : O) (lanes : List (Lane B)) (shown : List (TablesValue × ℕ)) (seen : List ℕ) (finished : Bool) (r : Running faults told aside meaning state (take i events) start old new lanes shown seen finished) where
    pub running_few : BeginsFew (length start.lanes) events → length r.now.lanes ≡ length start.lanes → AreFew r.now
    running_few few same k f lt =
        let most = sum_by-take-le (λ (e : Event). cond (begins_on k e) 1 0) events i in
        omega (arith, ap (λ (l : LaneValue). length l.connections) (get_or_default r.now.lanes k f unused lt), r.count k lt, most, few k (omega (arith, lt, same)))

  -- as many lanes as at the start
  pub runs_lanes : (done : List Event) (a b : MachineValue) (replies : List ℕ) → Runs meaning done a b replies → length b.lanes ≡ length a.lanes
  runs_lanes [] a b replies (same, none) = ap (λ (m : MachineValue). length m.lanes) same
  runs_lanes (e ∷ done) a b replies (first, rest) = runs_lanes done first.next b first.after rest ∙ (step_counts meaning e a first.next first.reply first.steps).0

  module _ (i : ℕ) (mid : O) (lanes : List (Lane B)) (shown : List (TablesValue × ℕ)) (seen : List ℕ) (finished : Bool) (r : Running faults told aside meaning state (take i events) start old mid lanes shown seen finished)
      (lt : i < length events) (event : Event) (is : get_or events i event ≡ event) where
    one_more : take (i + 1) events ≡ take i events ++ event ∷ []
    one_more = (take_at_read events i event lt).1 ∙ ap (λ (e : Event). take i events ++ e ∷ []) is

    -- an event was run
    pub running_on : (new : O) (lanes' : List (Lane B)) (shown' : List (TablesValue × ℕ)) (seen' : List ℕ) (finished' : Bool) (done : Unit {0}) → HasStepped faults told aside meaning state event r.now mid new lanes' shown' seen' finished' (Ok done)
        → Running faults told aside meaning state (take (i + 1) events) start old new lanes' shown' seen' finished'
    running_on new lanes' shown' seen' finished' done (reply, goes, wrote) = record {
      now = goes.next;
      replies = r.replies ++ reply;
      runs = subst (λ (es : List Event). Runs meaning es start goes.next (r.replies ++ reply)) (sym one_more) (runs_more meaning (take i events) event start r.now goes.next r.replies reply r.runs goes.steps);
      stands = goes.stands;
      count = λ k here.
          let c = step_counts meaning event r.now goes.next reply goes.steps in
          let was : k < length r.now.lanes = omega (arith, here, c.0) in
          let more = sum_by_more (λ (e : Event). cond (begins_on k e) 1 0) events i event lt in
          let weight : Event → ℕ = λ e. cond (begins_on k e) 1 0 in
          let one : weight (get_or events i event) ≡ weight event = ap weight is in
          omega (arith, r.count k was, c.1 k was, more, one);
      written = join old mid new r.replies reply (r.replies ++ reply) tt (Ok tt) r.written wrote refl;
    }

    -- a write failed, or memory ran out
    pub breaks : (new : O) (lanes' : List (Lane B)) (shown' : List (TablesValue × ℕ)) (seen' : List ℕ) (finished' : Bool) (fault : ScheduleFault) → HasStepped faults told aside meaning state event r.now mid new lanes' shown' seen' finished' (Err fault)
        → Leaves faults told meaning events start old new (Err fault)
    breaks new lanes' shown' seen' finished' Failed (reply, next, steps, failed, wrote) =
        let all = join old mid new r.replies reply (r.replies ++ reply) tt (Err failed) r.written wrote refl in (
          record {
            done = take (i + 1) events;
            left = drop (i + 1) events;
            split = sym (take-append-drop (i + 1) events);
            end = next;
            replies = r.replies ++ reply;
            runs = subst (λ (es : List Event). Runs meaning es start next (r.replies ++ reply)) (sym one_more) (runs_more meaning (take i events) event start r.now next r.replies reply r.runs steps);
            written = all.front;
          },
          all.cause.failed,
        )
    breaks new lanes' shown' seen' finished' NoMemory same =
        subst (λ (o : O). Leaves faults told meaning events start old o (Err NoMemory)) (sym same)
        (record { done = take i events; left = drop i events; split = sym (take-append-drop i events); end = r.now; replies = r.replies; runs = r.runs; written = r.written.front }, r.written.cause.fine)

  -- all events were run
  pub ran : (i last : ℕ) (new : O) (lanes : List (Lane B)) (shown : List (TablesValue × ℕ)) (seen : List ℕ) (finished : Bool) → length events ≤ i → (r : Running faults told aside meaning state (take i events) start old new lanes shown seen finished)
      → last ≡ revision r.now.history → Leaves faults told meaning events start old new (Ok last)
  ran i last new lanes shown seen finished past r is =
      (record { end = r.now; replies = r.replies; runs = subst (λ (es : List Event). Runs meaning es start r.now r.replies) (take_all i events past) r.runs; written = r.written.whole; last_is = is; parts = first_due meaning state lanes shown seen finished r.now r.stands }, r.written.cause.fine)

module _ {B O : Type 0} (faults : O → ℕ) (told : O → Option (List ℕ)) (aside : O → Aside) (meaning : Meaning) (state : B → meaning.State) (events : List Event) (count askers i : ℕ) (old new : O) (lanes : List (Lane B)) (shown : List (TablesValue × ℕ)) (seen : List ℕ) (finished : Bool)
    (few : BeginsFew count events) (r : Running faults told aside meaning state (take i events) (start_of count askers) old new lanes shown seen finished) where
  pub running_are_few : AreFew r.now
  running_are_few = running_few faults told aside meaning state events (start_of count askers) old i new lanes shown seen finished r (λ lane lt. few lane (omega (arith, lt, length-replicate count unused)))
      (runs_lanes faults told aside meaning state events (start_of count askers) old (take i events) (start_of count askers) r.now r.replies r.runs)

  pub running_room : HasRoom meaning state lanes shown seen finished
  running_room = (r.now, r.stands, running_are_few)

-- what a sink holds beside stays over one event
pub stepped_kept : {B O : Type 0} (faults : O → ℕ) (told : O → Option (List ℕ)) (aside : O → Aside) (meaning : Meaning) (state : B → meaning.State) (event : Event) (v : MachineValue) (old new : O) (lanes : List (Lane B)) (shown : List (TablesValue × ℕ)) (seen : List ℕ) (finished : Bool) (r : Result (Unit {0}) ScheduleFault)
    → HasStepped faults told aside meaning state event v old new lanes shown seen finished r → aside new ≡ aside old
stepped_kept faults told aside meaning state event v old new lanes shown seen finished (Ok done) (reply, goes, wrote) = wrote.kept
stepped_kept faults told aside meaning state event v old new lanes shown seen finished (Err Failed) (reply, next, steps, failed, wrote) = wrote.kept
stepped_kept faults told aside meaning state event v old new lanes shown seen finished (Err NoMemory) same = ap aside same
