-- What a change of one lane, a publication, and the other events do to what is kept.
use Rattle.std.proofs.Common.{◌≡◌, ℕ, ◌+◌, ◌^◌, ◌<◌, ◌≤◌, Bool, true, false, List, [], ◌∷◌, ◌++◌, length, take, drop, get_or, set, min, max, Option, None, Some, inl, inr, refl, sym, ap, ◌∙◌, subst, append-nil, append_assoc, arith, length-append, length-set, get_or-set_other, get_or-set_same}
use Rattle.std.specs.Prelude.{All, slice_get}
use Rattle.std.proofs.lemmas.Option.{slice_get-get_or, slice_get_within, get_or_from_slice_get}
use Rattle.std.proofs.lemmas.List.{length-map, map-append, drop_at, get_or_default, take_at}
use native.Mathlib.Decide.{ℕ_discrete}
use Rattle.ask_specs.specs.AskReply.{IsAskReply}
use Rattle.ask_specs.specs.Asking.{AskValue, plain}
use Rattle.bmp_specs.specs.Life.{gave, Given}
use Rattle.bmp_specs.specs.Meaning.{Meaning}
use Rattle.bmp_specs.specs.Query.{quit}
use Rattle.bmp_specs.specs.Openings.{nothing_told}
use Rattle.bmp_specs.specs.Values.{EntryValue, opened}
use Rattle.cut_publisher.specs.declared.history.Event.{Event as Joined}
use Rattle.cut_publisher.specs.declared.history.Event.TheVariants.{Finish as Mark}
use Rattle.cut_publisher.specs.Cuts.{AreLanes, total}
use Rattle.cut_publisher.specs.History.{part, revision, batch, IsWithin}
use Rattle.cut_publisher.proofs.Given.{stands_given}
use Rattle.cut_publisher.proofs.Lanes.{part-append, part-batch_same, part-batch_other}
use Rattle.query_eval.specs.Replies.{IsAskReplyOn, lanes_of}
use Rattle.rib_model.specs.declared.entry.Entry.{Entry}
use Rattle.rib_model.specs.Entries.{entry_value, entry_values}
use Rattle.router_tables.specs.Tables.{TablesValue, StandsFor}
use Rattle.station_core.specs.declared.lane.Lane.{Lane}
use Rattle.station_core.specs.declared.lane.Present.{Present}
use Rattle.station_core.specs.Machine.{AreDue, ChangesLane, IsAnswered, IsTold, LaneValue, MachineValue, Publishes, WhereNamed, next_of, parts_from, with_seen}
use Rattle.station_core.specs.Schedule.{AreFirstDue, most_lanes, unused}
use Rattle.station_core.specs.Standing.{AreFew, MovesLane, MovesAt, Shows, ShowsAt, ShowsLane, ShowsNext, Stands, TellsOn, valued}
use Rattle.station_core.specs.Taking.{Follows}
use Rattle.station_core.proofs.Dues.{due_few, due_more, so_far}
use Rattle.station_core.proofs.Histories.{valued-append, valued-batch, valued-part, valued-revision, valued-parts, within-append, within-batch, unmarked-append, unmarked-batch, marked, values-drop}
use Rattle.bmp_message.specs.StreamWalk.{rest_of}

-- some item of a list that has one
some_of : {A : Type 0} (xs : List A) → 0 < length xs → A
some_of [] lt = absurd (omega (arith, lt))
some_of (x ∷ xs) lt = x

module _ {B : Type 0} (meaning : Meaning) (state : B → meaning.State) where
  -- what is due of a lane's connections is what it keeps
  pub follows_due : (due : List Entry) (present : Option (Present B)) (connections : List Given) → Follows meaning state due present connections → AreDue meaning connections (entry_values due)
  follows_due due None connections f = f.are_due
  follows_due due (Some present) connections t =
      subst (λ (es : List EntryValue). AreDue meaning connections es) (sym t.due_is)
      (subst (λ (cs : List Given). AreDue meaning cs (t.before ++ opened nothing_told ∷ t.messages)) (sym t.split)
      (due_more meaning t.earlier (record { bytes = t.bytes; last = gave }) t.before (opened nothing_told ∷ t.messages) t.are_due (so_far meaning t.bytes t.messages present.walk.offset (rest_of present.walk) t.given.walks t.room)))

  -- the connections of one lane change
  module _ (Does : List Given → List Given → Type 0) (number : ℕ) (lanes : List (Lane B)) (shown : List (TablesValue × ℕ)) (seen : List ℕ) (v : MachineValue) (s : Stands meaning state lanes shown seen false v) where
    change_at : (new : List (Lane B)) → number < length lanes → MovesAt meaning state Does number lanes new → (next : MachineValue) × ChangesLane number Does v next × Stands meaning state new shown seen false next
    change_at new here at =
        let lane = at.lane in
        let old : LaneValue = get_or v.lanes number unused in
        let there : number < length v.lanes = omega (arith, here, s.lane_count) in
        let led = (at.moves lane).leads old.connections (s.kept number lane unused here) in
        let after : LaneValue = record { connections = led.new; published = old.published } in
        let next : MachineValue = record { history = v.history; lanes = set v.lanes number after; askers = v.askers } in
        let size : length (set lanes number lane) ≡ length lanes = length-set lanes number lane in
        let stands : Stands meaning state (set lanes number lane) shown seen false next = record {
          entries = s.entries;
          history = s.history;
          within = subst (λ (n : ℕ). IsWithin n s.entries) (sym size) s.within;
          lane_count = length-set v.lanes number after ∙ s.lane_count ∙ sym size;
          shown_count = s.shown_count ∙ sym size;
          some = omega (arith, s.some, size);
          few = omega (arith, s.few, size);
          kept = λ k d f lt. kept lane after led.follows there k d f (omega (arith, lt, size)) (ℕ_discrete k number);
          shows = λ k d e f lt. shows lane after (at.moves lane).made (at.moves lane).grown refl there k d e f (omega (arith, lt, size)) (ℕ_discrete k number);
          askers = s.askers;
          mark = s.mark;
        } in
        (next, record { lane = old; at = slice_get-get_or v.lanes number unused there; connections = led.new; does = led.does; is = refl }, subst (λ (ls : List (Lane B)). Stands meaning state ls shown seen false next) (sym at.is) stands)
      where
        kept : (lane : Lane B) (after : LaneValue) → Follows meaning state lane.due lane.present after.connections → number < length v.lanes
            → (k : ℕ) (d : Lane B) (f : LaneValue) → k < length lanes → Dec (k ≡ number) → Follows meaning state (get_or (set lanes number lane) k d).due (get_or (set lanes number lane) k d).present (get_or (set v.lanes number after) k f).connections
        kept lane after follows there k d f lt (yes is) =
            let e : get_or (set lanes number lane) k d ≡ lane = ap (λ (i : ℕ). get_or (set lanes number lane) i d) is ∙ get_or-set_same lanes number lane d here in
            let w : get_or (set v.lanes number after) k f ≡ after = ap (λ (i : ℕ). get_or (set v.lanes number after) i f) is ∙ get_or-set_same v.lanes number after f there in
            subst (λ (l : Lane B). Follows meaning state l.due l.present (get_or (set v.lanes number after) k f).connections) (sym e) (subst (λ (l : LaneValue). Follows meaning state lane.due lane.present l.connections) (sym w) follows)
        kept lane after follows there k d f lt (no ne) =
            subst (λ (l : Lane B). Follows meaning state l.due l.present (get_or (set v.lanes number after) k f).connections) (sym (get_or-set_other lanes number k lane d ne))
            (subst (λ (l : LaneValue). Follows meaning state (get_or lanes k d).due (get_or lanes k d).present l.connections) (sym (get_or-set_other v.lanes number k after f ne)) (s.kept k d f lt))

        shows : (lane : Lane B) (after : LaneValue) (made : List Entry) → lane.due ≡ (get_or lanes number lane).due ++ made → after.published ≡ (get_or v.lanes number unused).published → number < length v.lanes
            → (k : ℕ) (d : Lane B) (e : TablesValue × ℕ) (f : LaneValue) → k < length lanes → Dec (k ≡ number) → Shows (get_or (set lanes number lane) k d) (get_or shown k e) (get_or (set v.lanes number after) k f) (part k s.entries)
        shows lane after made grown same there k d e f lt (yes is) =
            let l : get_or (set lanes number lane) k d ≡ lane = ap (λ (i : ℕ). get_or (set lanes number lane) i d) is ∙ get_or-set_same lanes number lane d here in
            let w : get_or (set v.lanes number after) k f ≡ after = ap (λ (i : ℕ). get_or (set v.lanes number after) i f) is ∙ get_or-set_same v.lanes number after f there in
            let old = s.shows k lane e unused lt in
            record {
              number = ap (λ (x : LaneValue). x.published) w ∙ same ∙ ap (λ (i : ℕ). (get_or v.lanes i unused).published) (sym is) ∙ old.number;
              count = old.count;
              tables = old.tables;
              rest = old.rest ++ made;
              split = ap (λ (x : Lane B). x.due) l ∙ grown ∙ ap (λ (i : ℕ). (get_or lanes i lane).due ++ made) (sym is) ∙ ap (λ (es : List Entry). es ++ made) old.split ∙ append_assoc (part k s.entries) old.rest made;
            }
        shows lane after made grown same there k d e f lt (no ne) =
            subst (λ (l : Lane B). Shows l (get_or shown k e) (get_or (set v.lanes number after) k f) (part k s.entries)) (sym (get_or-set_other lanes number k lane d ne))
            (subst (λ (l : LaneValue). Shows (get_or lanes k d) (get_or shown k e) l (part k s.entries)) (sym (get_or-set_other v.lanes number k after f ne)) (s.shows k d e f lt))

    pub changes : (new : List (Lane B)) → MovesLane meaning state Does number lanes new → (next : MachineValue) × WhereNamed number v.lanes (ChangesLane number Does) v next × Stands meaning state new shown seen false next
    changes new (inl (here, at)) = let c = change_at new here at in (c.0, inl (omega (arith, here, s.lane_count), c.1), c.2)
    changes new (inr (past, same)) = (v, inr (omega (arith, past, s.lane_count), refl), subst (λ (ls : List (Lane B)). Stands meaning state ls shown seen false v) (sym same) s)

  -- the next pending entries of one lane are published
  module _ (number : ℕ) (lanes : List (Lane B)) (shown : List (TablesValue × ℕ)) (seen : List ℕ) (v : MachineValue) (s : Stands meaning state lanes shown seen false v) where
    publish_at : (new : List (TablesValue × ℕ)) → number < length lanes → ShowsAt lanes number shown new → (next : MachineValue) × Publishes meaning number v next × Stands meaning state lanes new seen false next
    publish_at new here at =
        let d : Lane B = some_of lanes s.some in
        let lane : Lane B = get_or lanes number d in
        let old : LaneValue = get_or v.lanes number unused in
        let there : number < length v.lanes = omega (arith, here, s.lane_count) in
        let sn = at.shows d at.next in
        let sh = s.shows number d at.next unused here in
        let entries = next_of (drop old.published (entry_values lane.due)) in
        let same : entry_values sn.made ≡ entries = sn.is_next ∙ ap next_of (values-drop (get_or shown number at.next).1 lane.due ∙ ap (λ (n : ℕ). drop n (entry_values lane.due)) (sym sh.number)) in
        let after : LaneValue = record { connections = old.connections; published = old.published + length entries } in
        let next : MachineValue = record { history = v.history ++ batch number entries; lanes = set v.lanes number after; askers = v.askers } in
        let values : v.history ++ batch number entries ≡ valued (s.entries ++ batch number sn.made) =
        ap (λ (h : List (Joined EntryValue)). h ++ batch number entries) s.history ∙ ap (λ (es : List EntryValue). valued s.entries ++ batch number es) (sym same)
        ∙ ap (λ (h : List (Joined EntryValue)). valued s.entries ++ h) (sym (valued-batch number sn.made)) ∙ sym (valued-append s.entries (batch number sn.made)) in
        let size : length (set shown number at.next) ≡ length shown = length-set shown number at.next in
        let mine : Shows lane at.next after (part number (s.entries ++ batch number sn.made)) = shows_next number d at.next here sn entries same in
        let stands : Stands meaning state lanes (set shown number at.next) seen false next = record {
          entries = s.entries ++ batch number sn.made;
          history = values;
          within = within-append (length lanes) s.entries (batch number sn.made) s.within (within-batch (length lanes) number sn.made here);
          lane_count = length-set v.lanes number after ∙ s.lane_count;
          shown_count = size ∙ s.shown_count;
          some = s.some;
          few = s.few;
          kept = λ k d f lt. kept after refl there k d f lt (ℕ_discrete k number);
          shows = λ k e x f lt. shows at.next after d sn.made mine there k e x f lt (ℕ_discrete k number);
          askers = s.askers;
          mark = unmarked-append v.history (batch number entries) s.mark (unmarked-batch number entries);
        } in
        (next, record { lane = old; at = slice_get-get_or v.lanes number unused there; due = entry_values lane.due; are_due = follows_due lane.due lane.present old.connections (s.kept number d unused here); is = refl }, subst (λ (xs : List (TablesValue × ℕ)). Stands meaning state lanes xs seen false next) (sym at.is) stands)
      where
        kept : (after : LaneValue) → after.connections ≡ (get_or v.lanes number unused).connections → number < length v.lanes → (k : ℕ) (d : Lane B) (f : LaneValue) → k < length lanes → Dec (k ≡ number)
            → Follows meaning state (get_or lanes k d).due (get_or lanes k d).present (get_or (set v.lanes number after) k f).connections
        kept after same there k d f lt (yes is) =
            let w : get_or (set v.lanes number after) k f ≡ after = ap (λ (i : ℕ). get_or (set v.lanes number after) i f) is ∙ get_or-set_same v.lanes number after f there in
            let c : (get_or (set v.lanes number after) k f).connections ≡ (get_or v.lanes k unused).connections = ap (λ (x : LaneValue). x.connections) w ∙ same ∙ ap (λ (i : ℕ). (get_or v.lanes i unused).connections) (sym is) in
            subst (λ (cs : List Given). Follows meaning state (get_or lanes k d).due (get_or lanes k d).present cs) (sym c) (s.kept k d unused lt)
        kept after same there k d f lt (no ne) =
            subst (λ (l : LaneValue). Follows meaning state (get_or lanes k d).due (get_or lanes k d).present l.connections) (sym (get_or-set_other v.lanes number k after f ne)) (s.kept k d f lt)

        shows_next : (k : ℕ) (d : Lane B) (x : TablesValue × ℕ) → k < length lanes → (sn : ShowsNext (get_or lanes k d).due (get_or shown k x) x) (entries : List EntryValue) → entry_values sn.made ≡ entries
            → Shows (get_or lanes k d) x (record { connections = (get_or v.lanes k unused).connections; published = (get_or v.lanes k unused).published + length entries }) (part k (s.entries ++ batch k sn.made))
        shows_next k d x lt sn entries same =
            let sh = s.shows k d x unused lt in
            let all : part k (s.entries ++ batch k sn.made) ≡ part k s.entries ++ sn.made = part-append k s.entries (batch k sn.made) ∙ ap (λ (es : List Entry). part k s.entries ++ es) (part-batch_same k sn.made) in
            let size : length entries ≡ length sn.made = sym (ap length same) ∙ length-map sn.made entry_value in
            let rest : drop (get_or shown k x).1 (get_or lanes k d).due ≡ sh.rest = ap (λ (es : List Entry). drop (get_or shown k x).1 es) sh.split ∙ drop_at (part k s.entries) sh.rest (get_or shown k x).1 (sym sh.count) in
            let split : (get_or lanes k d).due ≡ (part k s.entries ++ sn.made) ++ sn.rest = sh.split ∙ ap (λ (es : List Entry). part k s.entries ++ es) (sym rest ∙ sn.split) ∙ sym (append_assoc (part k s.entries) sn.made sn.rest) in
            let tables : StandsFor x.0 (entry_values (part k s.entries ++ sn.made)) = subst (StandsFor x.0) (sym (map-append entry_value (part k s.entries) sn.made)) (sn.tables (entry_values (part k s.entries)) sh.tables) in
            subst (λ (es : List Entry). Shows (get_or lanes k d) x (record { connections = (get_or v.lanes k unused).connections; published = (get_or v.lanes k unused).published + length entries }) es) (sym all) (record {
              number = omega (arith, sh.number, size, sn.count);
              count = omega (arith, sh.count, sn.count, length-append (part k s.entries) sn.made);
              tables = tables;
              rest = sn.rest;
              split = split;
            })

        shows : (x : TablesValue × ℕ) (after : LaneValue) (d : Lane B) (made : List Entry) → Shows (get_or lanes number d) x after (part number (s.entries ++ batch number made)) → number < length v.lanes
            → (k : ℕ) (e : Lane B) (y : TablesValue × ℕ) (f : LaneValue) → k < length lanes → Dec (k ≡ number) → Shows (get_or lanes k e) (get_or (set shown number x) k y) (get_or (set v.lanes number after) k f) (part k (s.entries ++ batch number made))
        shows x after d made mine there k e y f lt (yes is) =
            let also : number < length shown = omega (arith, ap (λ (i : ℕ). i) is, lt, s.shown_count) in
            let here' : number < length lanes = omega (arith, is, lt) in
            subst (λ (i : ℕ). Shows (get_or lanes i e) (get_or (set shown number x) i y) (get_or (set v.lanes number after) i f) (part i (s.entries ++ batch number made))) (sym is)
            (subst (λ (l : Lane B). Shows l (get_or (set shown number x) number y) (get_or (set v.lanes number after) number f) (part number (s.entries ++ batch number made))) (get_or_default lanes number d e here')
            (subst (λ (t : TablesValue × ℕ). Shows (get_or lanes number d) t (get_or (set v.lanes number after) number f) (part number (s.entries ++ batch number made))) (sym (get_or-set_same shown number x y also))
            (subst (λ (l : LaneValue). Shows (get_or lanes number d) x l (part number (s.entries ++ batch number made))) (sym (get_or-set_same v.lanes number after f there)) mine)))
        shows x after d made mine there k e y f lt (no ne) =
            let same : part k (s.entries ++ batch number made) ≡ part k s.entries = part-append k s.entries (batch number made) ∙ ap (λ (es : List Entry). part k s.entries ++ es) (part-batch_other number k made (λ q. ne (sym q))) ∙ append-nil (part k s.entries) in
            subst (λ (es : List Entry). Shows (get_or lanes k e) (get_or (set shown number x) k y) (get_or (set v.lanes number after) k f) es) (sym same)
            (subst (λ (t : TablesValue × ℕ). Shows (get_or lanes k e) t (get_or (set v.lanes number after) k f) (part k s.entries)) (sym (get_or-set_other shown number k x y ne))
            (subst (λ (l : LaneValue). Shows (get_or lanes k e) (get_or shown k y) l (part k s.entries)) (sym (get_or-set_other v.lanes number k after f ne)) (s.shows k e y f lt)))

    pub publishes : (new : List (TablesValue × ℕ)) → ShowsLane lanes number shown new → (next : MachineValue) × WhereNamed number v.lanes (Publishes meaning number) v next × Stands meaning state lanes new seen false next
    publishes new (inl (here, at)) = let c = publish_at new here at in (c.0, inl (omega (arith, here, s.lane_count), c.1), c.2)
    publishes new (inr (past, same)) = (v, inr (omega (arith, past, s.lane_count), refl), subst (λ (xs : List (TablesValue × ℕ)). Stands meaning state lanes xs seen false v) (sym same) s)

  -- the whole history
  module _ (lanes : List (Lane B)) (shown : List (TablesValue × ℕ)) (seen : List ℕ) (finished : Bool) (v : MachineValue) (s : Stands meaning state lanes shown seen finished v) where
    pub are_lanes : AreLanes (λ tables entries. StandsFor tables (entry_values entries)) shown s.entries
    are_lanes k e lt = let sh = s.shows k (some_of lanes s.some) e unused (omega (arith, lt, s.shown_count)) in record { value = sh.tables; count = sh.count }

    pub within_shown : IsWithin (length shown) s.entries
    within_shown = subst (λ (n : ℕ). IsWithin n s.entries) (sym s.shown_count) s.within

    -- the history has the first of what is due
    pub first_due : (k : ℕ) (lane : LaneValue) → slice_get v.lanes k ≡ Some lane → AreFirstDue meaning lane (part k v.history)
    first_due k lane at =
        let there : k < length v.lanes = slice_get_within v.lanes k lane at in
        let here : k < length lanes = omega (arith, there, s.lane_count) in
        let d : Lane B = some_of lanes s.some in
        let e : TablesValue × ℕ = some_of shown (omega (arith, s.some, s.shown_count)) in
        let sh = s.shows k d e lane here in
        let kept : Lane B = get_or lanes k d in
        let is : get_or v.lanes k lane ≡ lane = get_or_from_slice_get v.lanes k lane lane at in
        let values : entry_values kept.due ≡ entry_values (part k s.entries) ++ entry_values sh.rest = ap entry_values sh.split ∙ map-append entry_value (part k s.entries) sh.rest in
        let size : length (entry_values (part k s.entries)) ≡ lane.published = length-map (part k s.entries) entry_value ∙ sym sh.count ∙ sym sh.number ∙ ap (λ (l : LaneValue). l.published) is in
        record {
          due = entry_values kept.due;
          are_due = subst (λ (l : LaneValue). AreDue meaning l.connections (entry_values kept.due)) is (follows_due kept.due kept.present (get_or v.lanes k lane).connections (s.kept k d lane here));
          is = ap (part k) s.history ∙ valued-part k s.entries ∙ sym (take_at (entry_values (part k s.entries)) (entry_values sh.rest) lane.published size) ∙ ap (take lane.published) (sym values);
        }

    -- no count is great
    pub counts_fit : AreFew v → All (λ (x : TablesValue × ℕ). x.1 ≤ 2 ^ 57) shown
    counts_fit few k e lt =
        let here : k < length lanes = omega (arith, lt, s.shown_count) in
        let d = some_of lanes s.some in
        let sh = s.shows k d e unused here in
        let lane = get_or lanes k d in
        let due = due_few meaning (get_or v.lanes k unused).connections (entry_values lane.due) (follows_due lane.due lane.present (get_or v.lanes k unused).connections (s.kept k d unused here)) in
        omega (arith, sh.count, ap length sh.split, length-append (part k s.entries) sh.rest, due, length-map lane.due entry_value, few k unused (omega (arith, here, s.lane_count)))

    pub shown_few : length shown ≤ most_lanes
    shown_few = omega (arith, s.few, s.shown_count)

    -- as many entries are published as the history has
    pub total_is : AreFew v → total shown ≡ revision v.history
    total_is few = (stands_given (λ tables entries. StandsFor tables (entry_values entries)) shown shown refl (omega (arith, shown_few)) (counts_fit few) s.entries within_shown are_lanes).rev ∙ sym (valued-revision s.entries) ∙ ap revision (sym s.history)

    -- another length that an asker has seen
    seen_at : (asker n : ℕ) → Stands meaning state lanes shown (set seen asker n) finished (with_seen v asker n)
    seen_at asker n = record { entries = s.entries; history = s.history; within = s.within; lane_count = s.lane_count; shown_count = s.shown_count; some = s.some; few = s.few; kept = s.kept; shows = s.shows; askers = ap (λ (l : List ℕ). set l asker n) s.askers; mark = s.mark }

    pub tells : AreFew v → (asker rev : ℕ) (new : List ℕ) → TellsOn shown asker rev seen new → (next : MachineValue) × WhereNamed asker v.askers (IsTold asker rev) v next × Stands meaning state lanes shown new finished next
    tells few asker rev new (inl (here, is)) =
        let there : asker < length v.askers = omega (arith, here, ap length s.askers) in
        let n : ℕ = min (max (get_or seen asker 0) rev) (total shown) in
        let m : ℕ = min (max (get_or v.askers asker 0) rev) (revision v.history) in
        let same : n ≡ m = ap (λ (l : List ℕ). min (max (get_or l asker 0) rev) (total shown)) (sym s.askers) ∙ ap (λ (t : ℕ). min (max (get_or v.askers asker 0) rev) t) (total_is few) in
        (with_seen v asker n, inl (there, record { seen = get_or v.askers asker 0; at = slice_get-get_or v.askers asker 0 there; is = ap (λ (t : ℕ). with_seen v asker t) same }), subst (λ (l : List ℕ). Stands meaning state lanes shown l finished (with_seen v asker n)) (sym is) (seen_at asker n))
    tells few asker rev new (inr (past, is)) = (v, inr (omega (arith, past, ap length s.askers), refl), subst (λ (l : List ℕ). Stands meaning state lanes shown l finished v) (sym is) s)

    -- a reply by what is shown is one on the history
    pub replies : (ask : AskValue) (text : List ℕ) → IsAskReplyOn ask (length shown) s.entries text → IsAskReply ask (parts_from 0 (length v.lanes) v.history) text
    replies ask text is =
        let parts : lanes_of (length shown) s.entries ≡ parts_from 0 (length v.lanes) v.history = ap (λ (n : ℕ). lanes_of n s.entries) (s.shown_count ∙ sym s.lane_count) ∙ sym (valued-parts 0 (length v.lanes) s.entries) ∙ ap (parts_from 0 (length v.lanes)) (sym s.history) in
        subst (λ (l : List (List EntryValue)). IsAskReply ask l text) parts is

    pub asks : AreFew v → (asker : ℕ) (ask : AskValue) (text : List ℕ) → asker < length seen → (ask ≡ plain quit → ⊥) → IsAskReplyOn ask (length shown) s.entries text → IsAnswered asker ask v (with_seen v asker (total shown)) text
    asks few asker ask text here asked is = record { asker_is = omega (arith, here, ap length s.askers); asks = asked; is_reply = replies ask text is; is = ap (λ (n : ℕ). with_seen v asker n) (total_is few) }

    pub stands_asked : (asker : ℕ) (new : List ℕ) → new ≡ set seen asker (total shown) → Stands meaning state lanes shown new finished (with_seen v asker (total shown))
    stands_asked asker new is = subst (λ (l : List ℕ). Stands meaning state lanes shown l finished (with_seen v asker (total shown))) (sym is) (seen_at asker (total shown))

  -- the history ends
  pub finishes : (lanes : List (Lane B)) (shown : List (TablesValue × ℕ)) (seen : List ℕ) (v : MachineValue) (s : Stands meaning state lanes shown seen false v)
      → Stands meaning state lanes shown seen true (record { history = v.history ++ Mark ∷ []; lanes = v.lanes; askers = v.askers })
  finishes lanes shown seen v s =
      let same : (k : ℕ) → part k (s.entries ++ Mark ∷ []) ≡ part k s.entries = λ k. part-append k s.entries (Mark ∷ []) ∙ append-nil (part k s.entries) in
      record {
        entries = s.entries ++ Mark ∷ [];
        history = ap (λ (h : List (Joined EntryValue)). h ++ Mark ∷ []) s.history ∙ sym (valued-append s.entries (Mark ∷ []));
        within = within-append (length lanes) s.entries (Mark ∷ []) s.within tt;
        lane_count = s.lane_count;
        shown_count = s.shown_count;
        some = s.some;
        few = s.few;
        kept = s.kept;
        shows = λ k d e f lt. subst (λ (es : List Entry). Shows (get_or lanes k d) (get_or shown k e) (get_or v.lanes k f) es) (sym (same k)) (s.shows k d e f lt);
        askers = s.askers;
        mark = marked v.history;
      }
