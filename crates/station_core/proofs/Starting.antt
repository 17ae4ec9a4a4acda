-- What the machine keeps at the start, and what one event makes of it.
use Rattle.std.proofs.Common.{◌≡◌, ℕ, ◌^◌, ◌<◌, ◌≤◌, Bool, true, false, List, [], length, get_or, Option, None, Result, Ok, Err, inl, inr, refl, sym, ap, ◌∙◌, subst, arith, length-append}
use Rattle.std.specs.Prelude.{◌⊎◌, All, OnOk, replicate}
use Rattle.std.proofs.lemmas.List.{get_or-replicate, length-replicate}
use Rattle.ask_specs.specs.Asking.{plain}
use Rattle.bmp_specs.specs.Meaning.{Meaning}
use Rattle.bmp_specs.specs.Query.{quit}
use Rattle.cut_publisher.specs.Cuts.{total}
use Rattle.cut_publisher.specs.History.{part}
use Rattle.query_lang.specs.Asks.{ask_value}
use Rattle.query_lang.specs.declared.ask.Ask.{Ask as Asked}
use Rattle.rib_model.specs.declared.entry.Entry.{Entry}
use Rattle.router_tables.specs.Tables.{TablesValue, StandsFor}
use Rattle.wire_io.specs.Aside.{Aside}
use Rattle.wire_io.specs.declared.bytes.NoMemory.{NoMemory as OutOfMemory}
use Rattle.wire_io.proofs.Joins.{writes_none}
use Rattle.station_core.specs.declared.event.Event.{Event}
use Rattle.station_core.specs.declared.event.Event.TheVariants.{Begin, Take, End, Publish, Tell, Ask, Finish}
use Rattle.station_core.specs.declared.lane.Lane.{Lane}
use Rattle.station_core.specs.declared.lane.Present.{Present}
use Rattle.station_core.specs.declared.schedule.ScheduleFault.{ScheduleFault}
use Rattle.station_core.specs.declared.schedule.ScheduleFault.TheVariants.{Failed, NoMemory}
use Rattle.station_core.specs.Machine.{Begins, ComesTo, LaneValue, MachineValue, with_end, with_piece, with_seen}
use Rattle.station_core.specs.Schedule.{most_lanes, start_of, unused}
use Rattle.station_core.specs.Standing.{AreFew, AsksOn, Goes, HasRoom, HasStepped, MovesLane, Shows, ShowsLane, Stands, TellsOn, as_fault}
use Rattle.station_core.specs.Taking.{Follows, IsSound}
use Rattle.station_core.proofs.Changing.{are_lanes, asks, changes, counts_fit, finishes, publishes, stands_asked, tells, within_shown}

module _ {B : Type 0} (meaning : Meaning) (state : B → meaning.State) where
  unused_follows : (due : List Entry) (present : Option (Present B)) → due ≡ [] → present ≡ None → Follows meaning state due present []
  unused_follows due present none off =
      subst (λ (es : List Entry). Follows meaning state es present []) (sym none) (subst (λ (p : Option (Present B)). Follows meaning state [] p []) (sym off) (record { are_due = refl; free = inl refl }))

  unused_kept : (n : ℕ) (none : Lane B) → none.due ≡ [] → none.present ≡ None → (k : ℕ) (d : Lane B) (f : LaneValue) → k < n → Follows meaning state (get_or (replicate n none) k d).due (get_or (replicate n none) k d).present (get_or (replicate n unused) k f).connections
  unused_kept n none no_due no_present k d f lt =
      subst (λ (l : LaneValue). Follows meaning state (get_or (replicate n none) k d).due (get_or (replicate n none) k d).present l.connections) (sym (get_or-replicate n k unused f lt))
      (subst (λ (l : Lane B). Follows meaning state l.due l.present []) (sym (get_or-replicate n k none d lt)) (unused_follows none.due none.present no_due no_present))

  unused_shows : (n : ℕ) (none : Lane B) (x : TablesValue × ℕ) → none.due ≡ [] → StandsFor x.0 [] → x.1 ≡ 0 → (k : ℕ) (d : Lane B) (e : TablesValue × ℕ) (f : LaneValue) → k < n → Shows (get_or (replicate n none) k d) (get_or (replicate n x) k e) (get_or (replicate n unused) k f) []
  unused_shows n none x no_due stand zero_count k d e f lt =
      subst (λ (l : Lane B). Shows l (get_or (replicate n x) k e) (get_or (replicate n unused) k f) []) (sym (get_or-replicate n k none d lt))
      (subst (λ (y : TablesValue × ℕ). Shows none y (get_or (replicate n unused) k f) []) (sym (get_or-replicate n k x e lt))
      (subst (λ (v : LaneValue). Shows none x v []) (sym (get_or-replicate n k unused f lt)) (record { number = sym zero_count; count = zero_count; tables = stand; rest = []; split = no_due })))

  replicated : (seen : List ℕ) (n askers : ℕ) (tables : TablesValue) → (0 < n) × (n ≤ most_lanes) → StandsFor tables [] → seen ≡ replicate askers 0 → Stands meaning state (replicate n (record { due = []; present = None })) (replicate n (tables, 0)) seen false (start_of n askers)
  replicated seen n askers tables range stand seen_is = let none : Lane B = record { due = []; present = None } in let x : TablesValue × ℕ = (tables, 0) in let size : length (replicate n none) ≡ n = length-replicate n none in record {
    entries = [];
    history = refl;
    within = tt;
    lane_count = length-replicate n unused ∙ sym size;
    shown_count = length-replicate n x ∙ sym size;
    some = omega (arith, range.0, size);
    few = omega (arith, range.1, size);
    kept = λ k d f lt. unused_kept n none refl refl k d f (omega (arith, lt, size));
    shows = λ k d e f lt. unused_shows n none x refl stand refl k d e f (omega (arith, lt, size));
    askers = sym seen_is;
    mark = tt;
  }

  pub stands_start : (lanes : List (Lane B)) (shown : List (TablesValue × ℕ)) (seen : List ℕ) (n askers : ℕ) (tables : TablesValue) → (0 < n) × (n ≤ most_lanes) → lanes ≡ replicate n (record { due = []; present = None }) → StandsFor tables [] → shown ≡ replicate n (tables, 0)
      → seen ≡ replicate askers 0 → Stands meaning state lanes shown seen false (start_of n askers)
  stands_start lanes shown seen n askers tables range lanes_are stand shown_are seen_is =
      subst (λ (ls : List (Lane B)). Stands meaning state ls shown seen false (start_of n askers)) (sym lanes_are)
      (subst (λ (xs : List (TablesValue × ℕ)). Stands meaning state (replicate n (record { due = []; present = None })) xs seen false (start_of n askers)) (sym shown_are) (replicated seen n askers tables range stand seen_is))

  -- a lane stands for some connections
  pub sound_at : (lanes : List (Lane B)) (shown : List (TablesValue × ℕ)) (seen : List ℕ) (finished : Bool) → HasRoom meaning state lanes shown seen finished → (k : ℕ) (d : Lane B) → k < length lanes → IsSound meaning state (get_or lanes k d).due (get_or lanes k d).present
  sound_at lanes shown seen finished (v, s, few) k d lt = ((get_or v.lanes k unused).connections, s.kept k d unused lt)

  -- what is published was due
  pub shown_due : (lanes : List (Lane B)) (shown : List (TablesValue × ℕ)) (seen : List ℕ) (finished : Bool) → HasRoom meaning state lanes shown seen finished → (k : ℕ) (d : Lane B) (e : TablesValue × ℕ) → k < length lanes → (get_or shown k e).1 ≤ length (get_or lanes k d).due
  shown_due lanes shown seen finished (v, s, few) k d e lt = let sh = s.shows k d e unused lt in omega (arith, sh.count, ap length sh.split, length-append (part k s.entries) sh.rest)

  -- no count that is published is great
  pub room_counts : (lanes : List (Lane B)) (shown : List (TablesValue × ℕ)) (seen : List ℕ) (finished : Bool) → HasRoom meaning state lanes shown seen finished → All (λ (x : TablesValue × ℕ). x.1 ≤ 2 ^ 57) shown
  room_counts lanes shown seen finished (v, s, few) = counts_fit meaning state lanes shown seen finished v s few

  -- something is published of each lane, and there are few
  pub room_shown : (lanes : List (Lane B)) (shown : List (TablesValue × ℕ)) (seen : List ℕ) (finished : Bool) → HasRoom meaning state lanes shown seen finished → length shown ≡ length lanes
  room_shown lanes shown seen finished (v, s, few) = s.shown_count

  pub room_some : (lanes : List (Lane B)) (shown : List (TablesValue × ℕ)) (seen : List ℕ) (finished : Bool) → HasRoom meaning state lanes shown seen finished → 0 < length shown
  room_some lanes shown seen finished (v, s, few) = omega (arith, s.shown_count, s.some)

  pub room_few : (lanes : List (Lane B)) (shown : List (TablesValue × ℕ)) (seen : List ℕ) (finished : Bool) → HasRoom meaning state lanes shown seen finished → length shown ≤ most_lanes
  room_few lanes shown seen finished (v, s, few) = omega (arith, s.shown_count, s.few)

  module _ {O : Type 0} (faults : O → ℕ) (told : O → Option (List ℕ)) (aside : O → Aside) (lanes : List (Lane B)) (shown : List (TablesValue × ℕ)) (seen : List ℕ) (v : MachineValue) where
    abbrev Stepped : Event → O → O → List (Lane B) → List (TablesValue × ℕ) → List ℕ → Bool → Result (Unit {0}) ScheduleFault → Type 0
    Stepped event = HasStepped faults told aside meaning state event v

    -- once the history has ended nothing changes
    pub over : Stands meaning state lanes shown seen true v → (event : Event) (out : O) (done : Unit {0}) → Stepped event out out lanes shown seen true (Ok done)
    over s event out done = ([], record { next = v; steps = inr (s.mark, record { same = refl; none = refl }); stands = s }, writes_none out)

    -- an event without a reply
    silent : (event : Event) (out : O) (lanes' : List (Lane B)) (shown' : List (TablesValue × ℕ)) (seen' : List ℕ) (finished' : Bool) → Goes meaning state event v [] lanes' shown' seen' finished' → Stepped event out out lanes' shown' seen' finished' (Ok tt)
    silent event out lanes' shown' seen' finished' goes = ([], goes, writes_none out)

    module _ (s : Stands meaning state lanes shown seen false v) (out : O) where
      wanted : (event : Event) (lanes' : List (Lane B)) (shown' : List (TablesValue × ℕ)) (r : Result (Unit {0}) OutOfMemory) → OnOk r (Goes meaning state event v [] lanes' shown' seen false) → Stepped event out out lanes' shown' seen false (as_fault r)
      wanted event lanes' shown' (Ok done) goes = silent event out lanes' shown' seen false goes
      wanted event lanes' shown' (Err want) goes = refl

      on_ok : {P Q : Type 0} (r : Result (Unit {0}) OutOfMemory) → (P → Q) → OnOk r P → OnOk r Q
      on_ok (Ok done) f p = f p
      on_ok (Err want) f p = tt

      pub begun : (lane : ℕ) (new : List (Lane B)) (r : Result (Unit {0}) OutOfMemory) → OnOk r (MovesLane meaning state (Begins meaning) lane lanes new) → Stepped (Begin lane) out out new shown seen false (as_fault r)
      begun lane new r moves = wanted (Begin lane) new shown r (on_ok r (λ m. let c = changes meaning state (Begins meaning) lane lanes shown seen v s new m in record { next = c.0; steps = inl (s.mark, (c.1, refl)); stands = c.2 }) moves)

      pub taken : (lane : ℕ) (piece : List ℕ) (new : List (Lane B)) (r : Result (Unit {0}) OutOfMemory) → OnOk r (MovesLane meaning state (ComesTo meaning (with_piece piece)) lane lanes new) → Stepped (Take lane piece) out out new shown seen false (as_fault r)
      taken lane piece new r moves = wanted (Take lane piece) new shown r (on_ok r (λ m. let c = changes meaning state (ComesTo meaning (with_piece piece)) lane lanes shown seen v s new m in record { next = c.0; steps = inl (s.mark, (c.1, refl)); stands = c.2 }) moves)

      pub ended : (lane : ℕ) (fault : Bool) (new : List (Lane B)) (r : Result (Unit {0}) OutOfMemory) → OnOk r (MovesLane meaning state (ComesTo meaning (with_end fault)) lane lanes new) → Stepped (End lane fault) out out new shown seen false (as_fault r)
      ended lane fault new r moves = wanted (End lane fault) new shown r (on_ok r (λ m. let c = changes meaning state (ComesTo meaning (with_end fault)) lane lanes shown seen v s new m in record { next = c.0; steps = inl (s.mark, (c.1, refl)); stands = c.2 }) moves)

      pub published : (lane : ℕ) (new : List (TablesValue × ℕ)) (r : Result (Unit {0}) OutOfMemory) → OnOk r (ShowsLane lanes lane shown new) → Stepped (Publish lane) out out lanes new seen false (as_fault r)
      published lane new r shows = wanted (Publish lane) lanes new r (on_ok r (λ m. let c = publishes meaning state lane lanes shown seen v s new m in record { next = c.0; steps = inl (s.mark, (c.1, refl)); stands = c.2 }) shows)

      pub told_of : AreFew v → (asker rev : ℕ) (new : List ℕ) → TellsOn shown asker rev seen new → Stepped (Tell asker rev) out out lanes shown new false (Ok tt)
      told_of few asker rev new tell = let c = tells meaning state lanes shown seen false v s few asker rev new tell in silent (Tell asker rev) out lanes shown new false (record { next = c.0; steps = inl (s.mark, (c.1, refl)); stands = c.2 })

      pub finished_now : Stepped Finish out out lanes shown seen true (Ok tt)
      finished_now = silent Finish out lanes shown seen true (record { next = _; steps = inl (s.mark, (refl, refl)); stands = finishes meaning state lanes shown seen v s })

      pub answered : AreFew v → (asker : ℕ) (ask : Asked) (seen' : List ℕ) (new : O) (r : Result (Unit {0}) ScheduleFault) → AsksOn faults told aside shown asker (ask_value ask) seen seen' out new r → Stepped (Ask asker ask) out new lanes shown seen' false r
      answered few asker ask seen' new (Ok done) (inl (here, asked, puts, is)) =
          let p = puts s.entries (within_shown meaning state lanes shown seen false v s) (are_lanes meaning state lanes shown seen false v s) in
          (p.text, record { next = with_seen v asker (total shown); steps = inl (s.mark, inl (asks meaning state lanes shown seen false v s few asker (ask_value ask) p.text here asked p.is_reply)); stands = stands_asked meaning state lanes shown seen false v s asker seen' is }, p.written)
      answered few asker ask seen' new (Ok done) (inr (why, same, still)) =
          let none : Stepped (Ask asker ask) out out lanes shown seen false (Ok tt) = silent (Ask asker ask) out lanes shown seen false (record { next = v; steps = inl (s.mark, inr (unnamed why, record { same = refl; none = refl })); stands = s }) in
          subst (λ (o : O). Stepped (Ask asker ask) out o lanes shown seen' false (Ok done)) (sym same) (subst (λ (l : List ℕ). Stepped (Ask asker ask) out out lanes shown l false (Ok done)) (sym still) none)
        where
          unnamed : (length seen ≤ asker) ⊎ (ask_value ask ≡ plain quit) → (length v.askers ≤ asker) ⊎ (ask_value ask ≡ plain quit)
          unnamed (inl past) = inl (omega (arith, past, ap length s.askers))
          unnamed (inr is) = inr is
      answered few asker ask seen' new (Err Failed) (here, asked, failed, puts) =
          let p = puts s.entries (within_shown meaning state lanes shown seen false v s) (are_lanes meaning state lanes shown seen false v s) in
          (p.text, with_seen v asker (total shown), inl (s.mark, inl (asks meaning state lanes shown seen false v s few asker (ask_value ask) p.text here asked p.is_reply)), failed, p.written)
      answered few asker ask seen' new (Err NoMemory) same = same
