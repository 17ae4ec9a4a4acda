-- What the clauses refuse: for each mistake that someone could make here, its result at one value.
use Rattle.std.proofs.Common.{◌≡◌, ◌⊎◌, inl, inr, ⊎_elim, ℕ, ◌+◌, ◌≤◌, Bool, true, false, List, [], ◌∷◌, ◌++◌, length, take, get_or, refl, sym, ◌∙◌, ap, subst, append-nil, length-append, arith, nat_lt, Some, None, Result, Ok, Err}
use Rattle.std.specs.Prelude.{MatchBool, flat_map}
use Rattle.std.specs.Option.{option_map_or}
use Rattle.std.proofs.lemmas.List.{append_cancel_left, length-map, take_at}
use Rattle.bmp_specs.specs.declared.causes.Cause.{Cause}
use Rattle.bmp_specs.specs.declared.causes.Cause.TheVariants.{Ended, Full, ReadFault}
use Rattle.bmp_specs.specs.Life.{LastRead, gave, IsLife, IsOpenLife}
use Rattle.bmp_specs.specs.Meaning.{Meaning, IsExact, WalksBy}
use Rattle.bmp_specs.specs.declared.wire.Family.TheVariants.{V4}
use Rattle.bmp_specs.specs.MessageEffects.{strict}
use Rattle.bmp_specs.specs.MessageHead.{plain_head}
use Rattle.bmp_specs.specs.Openings.{closing_for, nothing_told}
use Rattle.bmp_specs.specs.Values.{AddressValue, ClosingValue, EndpointValue, EntryValue, OpeningValue, opened, message, closed}
use Rattle.bmp_specs.specs.declared.causes.Why.TheVariants.{Version}
use Rattle.bmp_specs.specs.Walk.{whole, broken}
use Rattle.bmp_specs.proofs.WalkOne.{walk_one}
use Rattle.ask_specs.specs.Lives.{AreLives, IsLaneOf}
use Rattle.ask_specs.specs.StepRows.{AnnouncesOfUp}
use Rattle.ask_specs.specs.Wrong.{some_row, unannounced}
use Rattle.ask_specs.proofs.CopyCases.{up_tells}
use Rattle.ask_specs.proofs.LiveLaws.{strict_lives}
use Rattle.ask_specs.proofs.StepLaws.{leave_rows}
use Rattle.cut_publisher.specs.declared.history.Event.{Event}
use Rattle.cut_publisher.specs.History.{Begins, Fed}
use Rattle.rib_model.specs.declared.entry.Entry.{Entry}
use Rattle.rib_model.specs.Entries.{entry_value, entry_values}
use Rattle.station_doors.specs.Doors.{Opens, IsRefusal, CountsLast}
use Rattle.station_doors.specs.Told.{ToldValue}
use Rattle.wire_io.specs.declared.sink.Failed.{Failed}
use Rattle.wire_io.specs.Aside.{Aside, nothing_aside}
use Rattle.feed_worker.specs.Closings.{AreTold}
use Rattle.feed_worker.specs.Connection.{TakesConnection, IsBegun}
use Rattle.feed_worker.specs.Feed.{Refuses, ServesAll, Stops, most_entries}
use Rattle.feed_worker.specs.FeedPort.{IsAtRest, IsPublishedWhereTold}
use Rattle.feed_worker.specs.Front.{BreaksWhereTold}
use Rattle.feed_worker.specs.Lives.{IsServedLane, seen_of}
use Rattle.feed_worker.specs.Opening.{opening_of}
use Rattle.feed_worker.specs.Publishing.{EndsWith, Grows}
use Rattle.feed_worker.proofs.Growing.{grows_values}
use Rattle.feed_worker.proofs.LaneLives.{seen_lives, seen_up}

-- A meaning of bodies under which each has an entry without effects, and the walk of one Initiation without a TLV.
abbrev plain : Meaning
plain = record { State = Unit {0}; start = tt; Means = λ s kind body e t. e ≡ message (plain_head kind (6 + length body)) [] }

exact : IsExact plain
exact s t u kind body e f p q = (p ∙ sym q, refl)

abbrev one : List ℕ
one = 3 ∷ 0 ∷ 0 ∷ 0 ∷ 6 ∷ 4 ∷ []

abbrev entry : EntryValue
entry = message (plain_head 4 6) []

walks_one : WalksBy plain one (entry ∷ []) 6 whole
walks_one = (record { frame = one; rest = []; kind = 4; body = []; next = tt; split = refl; is_frame = record { header = omega arith; version = refl; length_is = refl; in_range = (omega arith, omega arith); kind_is = refl; body_is = refl }; means = refl }, (0, refl, (refl, refl)))

walks_two : WalksBy plain (one ++ one) (entry ∷ entry ∷ []) 12 whole
walks_two = (record { frame = one; rest = one; kind = 4; body = []; next = tt; split = refl; is_frame = record { header = omega arith; version = refl; length_is = refl; in_range = (omega arith, omega arith); kind_is = refl; body_is = refl }; means = refl }, (6, refl, walks_one))

-- Memory that runs out leaves the messages of whole reads: of all bytes, or of those before the last read, or nothing.
begun_at_edge : (meaning : Meaning) (began : ℕ) (bytes : List ℕ) (entries : List EntryValue) → IsBegun meaning (Some began) bytes entries
    → ((bytes ≡ []) × (entries ≡ [])) ⊎ (IsOpenLife meaning (take began bytes) entries ⊎ IsOpenLife meaning bytes entries)
begun_at_edge meaning began bytes entries (inl none) = inl none
begun_at_edge meaning began bytes entries (inr l) =
    inr (⊎_elim
    (λ (e : l.piece ≡ []). inr (subst (λ (b : List ℕ). IsOpenLife meaning b entries) (sym (l.split ∙ ap (λ (p : List ℕ). l.front ++ p) e ∙ append-nil l.front)) l.life))
    (λ (e : length l.front ≡ began). inl (subst (λ (b : List ℕ). IsOpenLife meaning b entries) (sym (ap (λ (b : List ℕ). take began b) l.split ∙ take_at l.front l.piece began e)) l.life))
    l.edge)

-- Of a read with two messages the first isn't published alone.
a_read_is_not_published_in_part : IsBegun plain (Some 0) (one ++ one) (opened nothing_told ∷ entry ∷ []) → ⊥
a_read_is_not_published_in_part b =
    ⊎_elim
    (λ none. absurd (omega (arith, ap length none.0)))
    (⊎_elim
    (λ l. absurd (omega (arith, ap length l.is, ap length (walk_one plain.Means exact tt [] l.messages [] l.offset 0 l.verdict whole l.walk (refl, refl)).0)))
    (λ l. absurd (omega (arith, ap length l.is, ap length (walk_one plain.Means exact tt (one ++ one) l.messages (entry ∷ entry ∷ []) l.offset 12 l.verdict whole l.walk walks_two).0))))
    (begun_at_edge plain 0 (one ++ one) (opened nothing_told ∷ entry ∷ []) b)

-- A message that came whole doesn't wait: nothing is read while it is unpublished.
a_message_does_not_wait : IsPublishedWhereTold plain (opened nothing_told ∷ []) (Some (record { bytes = one; last = gave } ∷ [])) → ⊥
a_message_does_not_wait p =
    let messages = walk_one plain.Means exact tt one p.messages (entry ∷ []) p.offset 6 p.verdict whole p.walk walks_one in
    absurd (omega (arith, ap length messages.0, ap length p.is, length-append p.before (opened p.came ∷ p.messages)))

-- A closing doesn't wait: no connection is asked for while it is unpublished.
not_closed : (before : List EntryValue) (closing : ClosingValue) → opened nothing_told ∷ entry ∷ [] ≡ before ++ closed closing ∷ [] → ⊥
not_closed [] closing e = absurd (omega (arith, ap length e))
not_closed (x ∷ []) closing e = absurd (cc e)
not_closed (x ∷ y ∷ before) closing e = absurd (omega (arith, ap length e, length-append before (closed closing ∷ [])))

a_closing_does_not_wait : IsAtRest (opened nothing_told ∷ entry ∷ []) → ⊥
a_closing_does_not_wait r = ⊎_elim (λ e. absurd (cc e)) (λ b. not_closed b.0 b.1 b.2) r

-- A closing isn't left out: a pass that stays as it was published none, and what was published isn't a life.
a_closing_is_published : (pass : Fed Entry) → Grows pass pass (closed (closing_for Ended) ∷ []) → ⊥
a_closing_is_published pass g = absurd (omega (arith, ap length g.entries, length-append pass.entries g.made, ap length g.values_are, length-map g.made entry_value))

a_life_has_a_closing : (meaning : Meaning) (bytes : List ℕ) (last : LastRead) → IsLife meaning bytes last (opened nothing_told ∷ []) → ⊥
a_life_has_a_closing meaning bytes last l = absurd (omega (arith, ap length l.is, length-append l.messages (closed (record { cause = l.cause; until = l.until }) ∷ [])))

-- A port isn't told a cause whose closing wasn't published, and causes come in the order of the closings.
no_cause_without_a_closing : AreTold (Some (Ended ∷ [])) (opened nothing_told ∷ entry ∷ []) → ⊥
no_cause_without_a_closing is = absurd (cc is)

causes_come_in_order : AreTold (Some (Ended ∷ Full ∷ [])) (opened nothing_told ∷ closed (closing_for Full) ∷ opened nothing_told ∷ closed (closing_for Ended) ∷ []) → ⊥
causes_come_in_order is = absurd (cc is)

-- No failed read is told where no read failed.
abbrev connected : Aside
connected = record nothing_aside { opened = 1; is_open = true }

no_read_fault_without_a_failed_read : (meaning : Meaning) (came : OpeningValue) (pass pass' : Fed Entry) → TakesConnection meaning came connected connected pass pass' (ReadFault 0) → ⊥
no_read_fault_without_a_failed_read meaning came pass pass' t =
    let rose = subst (λ (last : LastRead). CountsLast 0 0 last) t.come.because.fits.0 t.took.read_faults in
    absurd (omega (arith, rose))

-- A connection that came from one address isn't published as one that came from another.
abbrev address : ℕ → AddressValue
address host = record { family = V4; octets = 192 ∷ 0 ∷ 2 ∷ host ∷ 0 ∷ 0 ∷ 0 ∷ 0 ∷ 0 ∷ 0 ∷ 0 ∷ 0 ∷ 0 ∷ 0 ∷ 0 ∷ 0 ∷ [] }

abbrev from_host : ℕ → ToldValue
from_host host = record { from = Some (record { address = address host; port = 4000 }); since = Some 1000; until = None }

abbrev host_in : List EntryValue → ℕ
host_in (opened came ∷ entries) = option_map_or (λ (e : EndpointValue). get_or e.address.octets 3 0) came.from 0
host_in _ = 0

no_other_address_is_published : (meaning : Meaning) (old new : Aside) (pass pass' : Fed Entry) (cause : Cause) (rest : List EntryValue)
    → TakesConnection meaning (opening_of (from_host 1)) old new pass pass' cause → entry_values pass'.entries ≡ entry_values pass.entries ++ opened (opening_of (from_host 2)) ∷ rest → ⊥
no_other_address_is_published meaning old new pass pass' cause rest t is =
    let came : List EntryValue = opened (opening_of (from_host 1)) ∷ t.messages in
    let same : came ≡ opened (opening_of (from_host 2)) ∷ rest = append_cancel_left (entry_values pass.entries) came (opened (opening_of (from_host 2)) ∷ rest) (sym (grows_values pass pass' came t.grows) ∙ is) in
    absurd (omega (arith, ap host_in same))

-- A lane that is to serve 4,097 connections asks for the last of them.
not_refused : (a b : Aside) (r : Result Bool Failed) → IsRefusal r → Opens a b r → b.refused ≡ false → a.open_faults ≡ 0 → b.open_faults ≡ 0 → ⊥
not_refused a b (Ok true) i o f x y = absurd i
not_refused a b (Ok false) i o f x y = absurd (cc (o.refused, f))
not_refused a b (Err e) i o f x y = absurd (omega (arith, o.cause.failed, x, y))

a_lane_asks_for_each_connection : (meaning : Meaning) (old new : Aside) (pass pass' : Fed Entry) (s : ServesAll meaning 4097 old new pass pass')
    → length s.connections ≡ 4096 → length pass'.entries ≤ most_entries → s.after ≡ new → new.refused ≡ false → new.open_faults ≡ 0 → ⊥
a_lane_asks_for_each_connection meaning old new pass pass' s count few same going calm =
    let stop = subst (λ (n : ℕ). MatchBool (nat_lt n 4097) (Stops s.after new pass') ((n ≡ 4097) × (new ≡ s.after))) count s.stop in
    ⊎_elim (λ (r : Refuses s.after new). not_refused s.after new r.result r.refused r.opens going (ap (λ (a : Aside). a.open_faults) same ∙ calm) calm) (λ many. absurd (omega (arith, few, many.0))) stop

-- Of a connection that broke behind its first message, in the version, neither that message nor what comes later is told as the
-- octets, and no other offset.
abbrev breaks : List ℕ
breaks = one ++ (4 ∷ 0 ∷ 0 ∷ 0 ∷ 6 ∷ 4 ∷ [])

abbrev broke_of : ℕ → List ℕ → Type 0
broke_of offset octets = BreaksWhereTold plain (Some (record { bytes = breaks; last = gave } ∷ [])) offset octets

the_first_message_is_not_told : (octets : List ℕ) → broke_of 6 (3 ∷ octets) → ⊥
the_first_message_is_not_told octets b = absurd (omega (arith, ap (λ (l : List ℕ). get_or l 0 0) b.front))

no_octet_is_left_out : broke_of 6 (4 ∷ []) → ⊥
no_octet_is_left_out b = absurd (omega (arith, ap length b.front))

the_break_is_at_its_offset : (octets : List ℕ) → broke_of 0 octets → ⊥
the_break_is_at_its_offset octets b =
    let there : WalksBy plain breaks (entry ∷ []) 6 (broken Version) =
    (record { frame = one; rest = 4 ∷ 0 ∷ 0 ∷ 0 ∷ 6 ∷ 4 ∷ []; kind = 4; body = []; next = tt; split = refl; is_frame = record { header = omega arith; version = refl; length_is = refl; in_range = (omega arith, omega arith); kind_is = refl; body_is = refl }; means = refl }, (0, refl, (refl, record { header = omega arith; version = λ e. absurd (omega (arith, e)) }))) in
    absurd (omega (arith, (walk_one plain.Means exact tt breaks b.messages (entry ∷ []) 0 6 (broken b.why) (broken Version) (b.ends []) there).1))

-- A port isn't told other messages than those that were published last.
other_messages_are_not_told : EndsWith (opened nothing_told ∷ entry ∷ []) (opened nothing_told ∷ []) → ⊥
other_messages_are_not_told (before, is) = not_last before is
  where
    not_last : (before : List EntryValue) → opened nothing_told ∷ entry ∷ [] ≡ before ++ opened nothing_told ∷ [] → ⊥
    not_last [] e = absurd (cc e)
    not_last (x ∷ []) e = absurd (cc e)
    not_last (x ∷ y ∷ before) e = absurd (omega (arith, ap length e, length-append before (opened nothing_told ∷ [])))

-- Of a lane no announcement of a peer that isn't up is seen, and no message that stands before an opening.
no_orphan_is_seen : (lane : ℕ) (history seen : List (Event Entry)) → IsServedLane strict lane history → Begins seen history → seen_of lane seen ≡ unannounced → ⊥
no_orphan_is_seen lane history seen is begins e =
    let up : AnnouncesOfUp unannounced = subst AnnouncesOfUp e (seen_up strict strict_lives lane history seen is begins) in
    up_tells.isnt_there ((leave_rows unannounced some_row up).1 up_tells.is_left)

not_begun : (lives : List (List EntryValue)) (present : List EntryValue) → AreLives plain lives → (present ≡ []) ⊎ ((bytes : List ℕ) × IsOpenLife plain bytes present) → entry ∷ [] ≡ flat_map (λ (l : List EntryValue). l) lives ++ present → ⊥
not_begun [] present are (inl none) e = absurd (omega (arith, ap length e, ap length none))
not_begun [] present are (inr (bytes, is)) e = let other : entry ∷ [] ≡ opened is.came ∷ is.messages = e ∙ is.is in absurd (cc other)
not_begun (life ∷ lives) present (bytes, last, is, are) p e =
    let rest = flat_map (λ (l : List EntryValue). l) lives in
    let other : entry ∷ [] ≡ opened is.came ∷ (((is.messages ++ closed (record { cause = is.cause; until = is.until }) ∷ []) ++ rest) ++ present) = e ∙ ap (λ (l : List EntryValue). (l ++ rest) ++ present) is.is in
    absurd (cc other)

no_message_stands_before_an_opening : (lane : ℕ) (history seen : List (Event Entry)) → IsServedLane plain lane history → Begins seen history → seen_of lane seen ≡ entry ∷ [] → ⊥
no_message_stands_before_an_opening lane history seen is begins e =
    let lives : IsLaneOf plain (entry ∷ []) = subst (IsLaneOf plain) e (seen_lives plain lane history seen is begins) in
    not_begun lives.lives lives.present lives.are_lives lives.is_present lives.joined
