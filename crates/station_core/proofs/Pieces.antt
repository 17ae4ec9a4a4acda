-- What a lane keeps, as a connection begins, as a piece of it is taken, and as it ends.
use Rattle.std.proofs.Common.{◌≡◌, ℕ, ◌+◌, ◌-◌, ◌<◌, ◌≤◌, min, Bool, true, false, List, [], ◌∷◌, ◌++◌, length, take, Option, None, Some, inl, inr, refl, sym, ap, ◌∙◌, subst, append-nil, append_assoc, arith, length-append, length-take}
use Rattle.std.proofs.lemmas.Bool.{cases_lt, true≢false, false≢true}
use Rattle.std.specs.Prelude.{◌⊎◌, OnOk, Result, is_some}
use Rattle.std.proofs.lemmas.Result.{on_ok_weaker}
use Rattle.std.proofs.lemmas.List.{map-append, take_all}
use Rattle.std.proofs.Math.Seq.{take-append-add}
use Rattle.bmp_specs.specs.declared.causes.Cause.{Cause}
use Rattle.bmp_specs.specs.declared.causes.Cause.TheVariants.{Broken, Full, Terminated}
use Rattle.bmp_specs.specs.declared.causes.Why.{Why}
use Rattle.bmp_specs.specs.Life.{gave, most_taken, Given, EndsAt}
use Rattle.bmp_specs.specs.Meaning.{Meaning, WalksBy}
use Rattle.bmp_specs.specs.Openings.{closing_for, nothing_told}
use Rattle.bmp_specs.specs.Values.{EntryValue, opened, closed}
use Rattle.bmp_specs.specs.Walk.{broken}
use Rattle.bmp_message.specs.StreamWalk.{WalkValue, GoesOn, HasReached, fed_of, rest_of, verdict_with, Gives, HasGiven}
use Rattle.bmp_message.specs.declared.walk.Progress.TheVariants as progress
use Rattle.rib_model.specs.declared.entry.Entry.{Entry}
use Rattle.rib_model.specs.declared.entry.Entry.TheVariants.{Opened, Closed}
use Rattle.rib_model.specs.Entries.{entry_value, entry_values}
use Rattle.wire_io.specs.Aside.{fresh}
use Rattle.wire_io.specs.declared.bytes.NoMemory.{NoMemory}
use Rattle.station_core.specs.declared.lane.Present.{Present}
use Rattle.station_core.specs.Machine.{AreDue, Begins, ComesTo, HasLive, with_end, with_piece}
use Rattle.station_core.specs.Taking.{Gathers, IsIdle, IsTaken, Moves, Takes, cause_of_close}
use Rattle.station_core.proofs.Dues.{due_more, EndsWith, ended_life, ends_early, ends_full, ends_last as last_ends, life_ended, live_going}

-- how much of a piece is taken
pub piece_taken : (bytes piece : List ℕ) (count : ℕ) → length bytes < most_taken → count ≡ min (length piece) (most_taken - length bytes) → take most_taken (bytes ++ piece) ≡ bytes ++ take count piece
piece_taken bytes piece count room is =
    let most : most_taken ≡ length bytes + (most_taken - length bytes) = omega (arith, room) in
    ap (λ (n : ℕ). take n (bytes ++ piece)) most ∙ take-append-add bytes piece (most_taken - length bytes) ∙ ap (λ (l : List ℕ). bytes ++ l) (same (cases_lt (most_taken - length bytes) (length piece)))
  where
    same : ((most_taken - length bytes) < length piece) ⊎ (length piece ≤ (most_taken - length bytes)) → take (most_taken - length bytes) piece ≡ take count piece
    same (inl less) = ap (λ (n : ℕ). take n piece) (omega (arith, less, is))
    same (inr more) = take_all (most_taken - length bytes) piece more ∙ sym (take_all count piece (omega (arith, more, is)))

module _ {B : Type 0} (meaning : Meaning) (state : B → meaning.State) where
  -- a walk that was fed nothing
  fresh_given : (walk : WalkValue B) → HasReached meaning state [] [] walk → (walk.offset ≡ 0) × (fed_of walk ≡ 0) → HasGiven meaning state [] [] walk
  fresh_given walk reached start =
      let none : rest_of walk ≡ 0 = omega (arith, start.0, start.1) in
      record { reached = reached; walks = subst (λ (n : ℕ). WalksBy meaning [] [] walk.offset (verdict_with n)) (sym none) (start.0, refl) }

  live_of : (due : List Entry) (present : Present B) (connections : List Given) → IsTaken meaning state due present connections → HasLive meaning connections
  live_of due present connections t = record {
    earlier = t.earlier;
    present = record { bytes = t.bytes; last = gave };
    split = t.split;
    is_live = live_going meaning t.bytes t.messages present.walk.offset (rest_of present.walk) t.given.walks t.room;
  }

  -- the live connection comes to something
  comes_on : (after : Given → Given) (due : List Entry) (present : Present B) (connections : List Given) (t : IsTaken meaning state due present connections) → ComesTo meaning after connections (t.earlier ++ after (record { bytes = t.bytes; last = gave }) ∷ [])
  unfolding live_of
  comes_on after due present connections t = inl (live_of due present connections t, refl)

  -- a connection is live, and nothing begins
  pub begins_live : (due : List Entry) (present : Option (Present B)) → is_some present ≡ true → Moves meaning state (Begins meaning) due due present present
  begins_live due None is = absurd (false≢true is)
  begins_live due (Some present) is = record {
    made = [];
    grown = sym (append-nil due);
    leads = λ connections t. record { new = connections; does = inr (live_of due present connections t, refl); follows = t };
  }

  -- a connection begins
  pub begins_free : (due due' : List Entry) (present : Option (Present B)) (first : Present B) → is_some present ≡ false → due' ≡ due ++ Opened nothing_told ∷ [] → HasReached meaning state [] [] first.walk
      → (first.walk.offset ≡ 0) × (fed_of first.walk ≡ 0) → first.taken ≡ 0 → Moves meaning state (Begins meaning) due due' present (Some first)
  begins_free due due' (Some present) first is grown reached start none = absurd (true≢false is)
  begins_free due due' None first is grown reached start none = record {
    made = Opened nothing_told ∷ [];
    grown = grown;
    leads = λ connections idle. record {
      new = connections ++ fresh ∷ [];
      does = inl (idle.free, refl);
      follows = record {
        earlier = connections;
        bytes = [];
        split = refl;
        before = entry_values due;
        are_due = idle.are_due;
        messages = [];
        due_is = ap entry_values grown ∙ map-append entry_value due (Opened nothing_told ∷ []);
        given = fresh_given first.walk reached start;
        taken = none;
        room = omega arith;
      };
    };
  }

  -- a closing after the messages of a connection
  closes : (earlier : List Given) (c : Given) (before messages : List EntryValue) (due : List Entry) (cause : Cause) → AreDue meaning earlier before → EndsWith meaning c messages cause
      → entry_values due ≡ before ++ opened nothing_told ∷ (messages ++ closed (closing_for cause) ∷ []) → IsIdle meaning due (earlier ++ c ∷ [])
  closes earlier c before messages due cause are ends values = record {
    are_due = subst (AreDue meaning (earlier ++ c ∷ [])) (sym values) (due_more meaning earlier c before (opened nothing_told ∷ (messages ++ closed (closing_for cause) ∷ [])) are (life_ended meaning c messages cause ends));
    free = inr (record { earlier = earlier; last = c; split = refl; ended = ended_life meaning c messages cause ends });
  }

  -- the values of what is due with messages more, and then a closing
  values_more : (due made : List Entry) (before messages : List EntryValue) → entry_values due ≡ before ++ opened nothing_told ∷ messages → entry_values (due ++ made) ≡ before ++ opened nothing_told ∷ (messages ++ entry_values made)
  values_more due made before messages is = map-append entry_value due made ∙ ap (λ (l : List EntryValue). l ++ entry_values made) is ∙ append_assoc before (opened nothing_told ∷ messages) (entry_values made)

  values_closed : (due : List Entry) (before messages : List EntryValue) (cause : Cause) → entry_values due ≡ before ++ opened nothing_told ∷ messages → entry_values (due ++ Closed (closing_for cause) ∷ []) ≡ before ++ opened nothing_told ∷ (messages ++ closed (closing_for cause) ∷ [])
  values_closed due before messages cause is = values_more due (Closed (closing_for cause) ∷ []) before messages is

  -- the live connection ends
  pub ends_live : (due due' : List Entry) (present : Present B) (fault : Bool) (cause : Cause) → cause ≡ cause_of_close fault present.taken (rest_of present.walk) present.walk.offset → due' ≡ due ++ Closed (closing_for cause) ∷ []
      → Moves meaning state (ComesTo meaning (with_end fault)) due due' (Some present) None
  ends_live due due' present fault cause is grown = record {
    made = Closed (closing_for cause) ∷ [];
    grown = grown;
    leads = λ connections t.
        let c : Given = with_end fault (record { bytes = t.bytes; last = gave }) in
        let now : cause_of_close fault (length t.bytes) (rest_of present.walk) present.walk.offset ≡ cause = ap (λ (n : ℕ). cause_of_close fault n (rest_of present.walk) present.walk.offset) (sym t.taken) ∙ sym is in
        let ends : EndsWith meaning c t.messages cause = subst (EndsWith meaning c t.messages) now (last_ends meaning t.bytes t.messages present.walk.offset fault (rest_of present.walk) t.room t.given.walks) in
        record {
          new = t.earlier ++ c ∷ [];
          does = comes_on (with_end fault) due present connections t;
          follows = closes t.earlier c t.before t.messages due' cause t.are_due ends (ap entry_values grown ∙ values_closed due t.before t.messages cause t.due_is);
        };
  }

  -- no connection is live, and nothing goes on
  pub rests : (after : Given → Given) (due : List Entry) → Moves meaning state (ComesTo meaning after) due due None None
  rests after due = record { made = []; grown = sym (append-nil due); leads = λ connections idle. record { new = connections; does = inr (idle.free, refl); follows = idle } }

  -- another present connection on both sides
  pub moves_between : (Does : List Given → List Given → Type 0) (due due' : List Entry) (a b p q : Option (Present B)) → a ≡ p → b ≡ q → Moves meaning state Does due due' p q → Moves meaning state Does due due' a b
  moves_between Does due due' a b p q is now m = subst (λ (x : Option (Present B)). Moves meaning state Does due due' x b) (sym is) (subst (λ (y : Option (Present B)). Moves meaning state Does due due' p y) (sym now) m)

  -- a lane's present connection took a piece, and goes on
  pub takes_on : (due due' : List Entry) (now : Option (Present B)) (present present' : Present B) (piece : List ℕ) (end : Option Cause) → now ≡ Some present → end ≡ None
      → Takes meaning state piece due due' present present' end → Moves meaning state (ComesTo meaning (with_piece piece)) due due' now (Some present')
  takes_on due due' now present present' piece end is none t =
      moves_between (ComesTo meaning (with_piece piece)) due due' now (Some present') (Some present) (Some present') is refl (subst (λ (o : Option Cause). Takes meaning state piece due due' present present' o) none t)

  -- it ended in the piece, and its closing is due
  pub takes_last : (due due' due2 : List Entry) (now then : Option (Present B)) (present present' : Present B) (piece : List ℕ) (end : Option Cause) (cause : Cause) (r : Result (Unit {0}) NoMemory) → now ≡ Some present → end ≡ Some cause
      → Takes meaning state piece due due' present present' end → OnOk r ((due2 ≡ due' ++ Closed (closing_for cause) ∷ []) × (then ≡ None)) → OnOk r (Moves meaning state (ComesTo meaning (with_piece piece)) due due2 now then)
  takes_last due due' due2 now then present present' piece end cause r is ends t =
      let m : Moves meaning state (ComesTo meaning (with_piece piece)) due (due' ++ Closed (closing_for cause) ∷ []) (Some present) None = subst (λ (o : Option Cause). Takes meaning state piece due due' present present' o) ends t in
      on_ok_weaker r (λ e. moves_between (ComesTo meaning (with_piece piece)) due due2 now then (Some present) None is e.1 (subst (λ (es : List Entry). Moves meaning state (ComesTo meaning (with_piece piece)) due es (Some present) None) (sym e.0) m))

  -- the live connection ends, and its closing is due
  pub ends_last : (due due' : List Entry) (now then : Option (Present B)) (present : Present B) (fault : Bool) (cause : Cause) (r : Result (Unit {0}) NoMemory) → now ≡ Some present → cause ≡ cause_of_close fault present.taken (rest_of present.walk) present.walk.offset
      → OnOk r ((due' ≡ due ++ Closed (closing_for cause) ∷ []) × (then ≡ None)) → OnOk r (Moves meaning state (ComesTo meaning (with_end fault)) due due' now then)
  ends_last due due' now then present fault cause r is by =
      on_ok_weaker r (λ e. moves_between (ComesTo meaning (with_end fault)) due due' now then (Some present) None is e.1 (ends_live due due' present fault cause by e.0))

  -- a piece was fed to the walk, and its messages were gathered
  module _ (due due' : List Entry) (present : Present B) (walk next : WalkValue B) (piece : List ℕ) (count : ℕ) (count_is : count ≡ min (length piece) (most_taken - present.taken))
      (fed : (bytes : List ℕ) (given : List EntryValue) → HasReached meaning state bytes given present.walk → HasReached meaning state (bytes ++ take count piece) given walk) where
    -- the connection with the piece
    piece_is : (connections : List Given) (t : IsTaken meaning state due present connections) → with_piece piece (record { bytes = t.bytes; last = gave }) ≡ record { bytes = t.bytes ++ take count piece; last = gave }
    piece_is connections t = ap (λ (l : List ℕ). record { bytes = l; last = gave }) (piece_taken t.bytes piece count t.room (count_is ∙ ap (λ (n : ℕ). min (length piece) (most_taken - n)) t.taken))

    -- how many bytes were then taken
    bytes_are : (connections : List Given) (t : IsTaken meaning state due present connections) → length (t.bytes ++ take count piece) ≡ present.taken + count
    bytes_are connections t = omega (arith, t.taken, t.room, count_is, length-append t.bytes (take count piece), length-take count piece)

    bytes_within : (connections : List Given) (t : IsTaken meaning state due present connections) → length (t.bytes ++ take count piece) ≤ most_taken
    bytes_within connections t = omega (arith, bytes_are connections t, t.taken, t.room, count_is)

    given_more : (end : Option Cause) (gathers : Gathers meaning state walk next due due' end) (connections : List Given) (t : IsTaken meaning state due present connections) → Gives meaning state (t.bytes ++ take count piece) (t.messages ++ entry_values gathers.made) next end
    given_more end gathers connections t = gathers.gives (t.bytes ++ take count piece) t.messages (fed t.bytes t.messages t.given.reached)

    -- the connection ended in the piece for a cause that holds of it
    ends_in : (end : Option Cause) (gathers : Gathers meaning state walk next due due' end) (due2 : List Entry) (cause : Cause) → due2 ≡ due' ++ Closed (closing_for cause) ∷ []
        → ((connections : List Given) (t : IsTaken meaning state due present connections) → EndsWith meaning (record { bytes = t.bytes ++ take count piece; last = gave }) (t.messages ++ entry_values gathers.made) cause)
        → Moves meaning state (ComesTo meaning (with_piece piece)) due due2 (Some present) None
    ends_in end gathers due2 cause grown ends = record {
      made = gathers.made ++ Closed (closing_for cause) ∷ [];
      grown = grown ∙ ap (λ (l : List Entry). l ++ Closed (closing_for cause) ∷ []) gathers.grown ∙ append_assoc due gathers.made (Closed (closing_for cause) ∷ []);
      leads = λ connections t.
          let c : Given = with_piece piece (record { bytes = t.bytes; last = gave }) in
          let all : List EntryValue = t.messages ++ entry_values gathers.made in
          let e : EndsWith meaning c all cause = subst (λ (g : Given). EndsWith meaning g all cause) (sym (piece_is connections t)) (ends connections t) in
          let values : entry_values due' ≡ t.before ++ opened nothing_told ∷ all = ap entry_values gathers.grown ∙ values_more due gathers.made t.before t.messages t.due_is in
          record {
            new = t.earlier ++ c ∷ [];
            does = comes_on (with_piece piece) due present connections t;
            follows = closes t.earlier c t.before all due2 cause t.are_due e (ap entry_values grown ∙ values_closed due' t.before all cause values);
          };
    }

    pub piece_ends : (cause : Cause) → Gathers meaning state walk next due due' (Some cause) → (due2 : List Entry) → due2 ≡ due' ++ Closed (closing_for cause) ∷ [] → Moves meaning state (ComesTo meaning (with_piece piece)) due due2 (Some present) None
    piece_ends cause gathers due2 grown = ends_in (Some cause) gathers due2 cause grown (λ connections t. ends_early meaning (t.bytes ++ take count piece) (t.messages ++ entry_values gathers.made) cause (given_more (Some cause) gathers connections t) (bytes_within connections t))

    pub piece_fills : Gathers meaning state walk next due due' None → (due2 : List Entry) → due2 ≡ due' ++ Closed (closing_for Full) ∷ [] → most_taken ≤ present.taken + count → Moves meaning state (ComesTo meaning (with_piece piece)) due due2 (Some present) None
    piece_fills gathers due2 grown full = ends_in None gathers due2 Full grown (λ connections t. let g = given_more None gathers connections t in
        ends_full meaning (t.bytes ++ take count piece) (t.messages ++ entry_values gathers.made) next.offset (rest_of next) (omega (arith, bytes_within connections t, bytes_are connections t, full)) g.walks)

    pub piece_goes : Gathers meaning state walk next due due' None → present.taken + count < most_taken → Moves meaning state (ComesTo meaning (with_piece piece)) due due' (Some present) (Some (record { walk = next; taken = present.taken + count }))
    piece_goes gathers room = record {
      made = gathers.made;
      grown = gathers.grown;
      leads = λ connections t.
          let c : Given = with_piece piece (record { bytes = t.bytes; last = gave }) in
          record {
            new = t.earlier ++ c ∷ [];
            does = comes_on (with_piece piece) due present connections t;
            follows = record {
              earlier = t.earlier;
              bytes = t.bytes ++ take count piece;
              split = ap (λ (g : Given). t.earlier ++ g ∷ []) (piece_is connections t);
              before = t.before;
              are_due = t.are_due;
              messages = t.messages ++ entry_values gathers.made;
              due_is = ap entry_values gathers.grown ∙ values_more due gathers.made t.before t.messages t.due_is;
              given = given_more None gathers connections t;
              taken = sym (bytes_are connections t);
              room = omega (arith, bytes_are connections t, room);
            };
          };
    }

-- so many messages of a walk were gathered
pub record Gathering {B : Type 0} (meaning : Meaning) (state : B → meaning.State) (old new : WalkValue B) (due due' : List Entry) : Type 0 where
  pub made : List Entry
  pub grown : due' ≡ due ++ made
  pub fed : fed_of new ≡ fed_of old
  pub reached : (bytes : List ℕ) (given : List EntryValue) → HasReached meaning state bytes given old → HasReached meaning state bytes (given ++ entry_values made) new

module _ {B : Type 0} (meaning : Meaning) (state : B → meaning.State) (old : WalkValue B) (due : List Entry) where
  pub gathering_none : Gathering meaning state old old due due
  gathering_none = record { made = []; grown = sym (append-nil due); fed = refl; reached = λ bytes given r. subst (λ (l : List EntryValue). HasReached meaning state bytes l old) (sym (append-nil given)) r }

  pub gathering_more : (now next : WalkValue B) (due' due2 : List Entry) (entry : Entry) (g : Gathering meaning state old now due due') → fed_of next ≡ fed_of now
      → ((bytes : List ℕ) (given : List EntryValue) → HasReached meaning state bytes given now → GoesOn meaning state (λ item e. e ≡ entry_value item) bytes given next (progress.Message entry)) → due2 ≡ due' ++ entry ∷ [] → Gathering meaning state old next due due2
  gathering_more now next due' due2 entry g fed run grown = record {
    made = g.made ++ entry ∷ [];
    grown = grown ∙ ap (λ (l : List Entry). l ++ entry ∷ []) g.grown ∙ append_assoc due g.made (entry ∷ []);
    fed = fed ∙ g.fed;
    reached = λ bytes given r.
        let on = run bytes (given ++ entry_values g.made) (g.reached bytes given r) in
        let last : on.0 ∷ [] ≡ entry_values (entry ∷ []) = ap (λ (v : EntryValue). v ∷ []) on.1 in
        let all : (given ++ entry_values g.made) ++ on.0 ∷ [] ≡ given ++ entry_values (g.made ++ entry ∷ []) = append_assoc given (entry_values g.made) (on.0 ∷ [])
        ∙ ap (λ (l : List EntryValue). given ++ l) (ap (λ (l : List EntryValue). entry_values g.made ++ l) last ∙ sym (map-append entry_value g.made (entry ∷ []))) in
        subst (λ (l : List EntryValue). HasReached meaning state bytes l next) all on.2;
  }

  module _ (now next : WalkValue B) (due' : List Entry) (g : Gathering meaning state old now due due') where
    pub gathered_all : ((bytes : List ℕ) (given : List EntryValue) → HasReached meaning state bytes given now → GoesOn meaning state (λ item e. e ≡ entry_value item) bytes given next progress.More) → Gathers meaning state old next due due' None
    gathered_all run = record { made = g.made; grown = g.grown; gives = λ bytes given r. let on = run bytes (given ++ entry_values g.made) (g.reached bytes given r) in record { reached = on.0; walks = on.1 } }

    pub gathered_end : ((bytes : List ℕ) (given : List EntryValue) → HasReached meaning state bytes given now → GoesOn meaning state (λ item e. e ≡ entry_value item) bytes given next progress.Terminated) → Gathers meaning state old next due due' (Some Terminated)
    gathered_end run = record { made = g.made; grown = g.grown; gives = λ bytes given r. let on = run bytes (given ++ entry_values g.made) (g.reached bytes given r) in (next.offset, on.1) }

    pub gathered_break : (why : Why) (offset : ℕ) → offset ≡ next.offset → ((bytes : List ℕ) (given : List EntryValue) → HasReached meaning state bytes given now → GoesOn meaning state (λ item e. e ≡ entry_value item) bytes given next (progress.Broken why)) → Gathers meaning state old next due due' (Some (Broken offset why))
    gathered_break why offset place run = record {
      made = g.made;
      grown = g.grown;
      gives = λ bytes given r.
          let on = run bytes (given ++ entry_values g.made) (g.reached bytes given r) in
          subst (λ (n : ℕ). EndsAt meaning bytes (given ++ entry_values g.made) n (broken why)) (sym place) on.1;
    }
