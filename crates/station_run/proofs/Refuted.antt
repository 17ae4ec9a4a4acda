-- What mistaken bodies would come to, which the clauses refuse.
use Rattle.std.proofs.Common.{◌≡◌, ◌≢◌, ℕ, ◌+◌, ◌<◌, Bool, true, false, List, [], ◌∷◌, ◌++◌, length, get_or, Option, Some, None, Result, Ok, Err, inl, inr, refl, sym, ap, ◌∙◌, subst, arith, codes, length-append}
use Rattle.std.specs.Prelude.{MatchBool, nat_lt}
use Rattle.std.specs.Io.KnownBytes.{Appends}
use Rattle.std.specs.Fmt.{digits}
use Rattle.bmp_specs.specs.declared.causes.Why.TheVariants.{Body, Length, Version}
use Rattle.bmp_specs.specs.Lines.{further}
use Rattle.bmp_specs.specs.Meaning.{Meaning, WalksBy}
use Rattle.bmp_specs.specs.MessageBody.{IsMessage, no_peers}
use Rattle.bmp_specs.specs.MessageEffects.{IsMessageEntry, effects_of, strict}
use Rattle.bmp_specs.specs.MessageHead.{IsHead}
use Rattle.bmp_specs.specs.NumberText.{number_text}
use Rattle.bmp_specs.specs.Openings.{nothing_told}
use Rattle.bmp_specs.specs.Tlv.{AreTlvs}
use Rattle.bmp_specs.specs.Values.{EffectValue, EntryValue, HeadValue, MessageValue, TlvValue, described, initiation, message, named, opened}
use Rattle.bmp_specs.specs.Walk.{Stops as WalkStops, Verdict, broken, more, terminated, whole}
use Rattle.bmp_specs.proofs.FrameCode.{frame_one}
use Rattle.bmp_specs.proofs.HasHead.{strict_head}
use Rattle.bmp_specs.proofs.MessageOne.{strict_exact}
use Rattle.bmp_specs.proofs.WalkOne.{at_front, front_verdict, stop_verdict}
use Rattle.cut_publisher.specs.Cuts.{most_passes}
use Rattle.cut_publisher.specs.History.{Asker, Fed, Site}
use Rattle.cut_publisher.specs.Opening.{fresh_feed}
use Rattle.drill_streams.specs.DrillStream.{IsDrillStream}
use Rattle.drill_streams.specs.Messages.{lane_name}
use Rattle.rib_model.specs.declared.entry.Entry.{Entry}
use Rattle.router_tables.specs.Tables.{TablesValue}
use Rattle.wire_io.specs.Aside.{Aside, Plan, nothing_aside}
use Rattle.wire_io.specs.declared.sink.Failed.{Failed}
use Rattle.station_doors.specs.Doors.{IsRefusal, Opens, Returned, YardSeen, YardValue, most_places, one_more, untouched, untouched_link}
use Rattle.station_doors.specs.declared.listening.Listening.{Listening}
use Rattle.feed_worker.specs.Feed.{Connection, Serves, ServesFeed, Stops, Visits, lives_of}
use Rattle.feed_worker.specs.declared.feed.LaneEnd.{LaneEnd}
use Rattle.feed_worker.specs.declared.feed.LaneEnd.TheVariants as end
use Rattle.feed_worker.proofs.Growing.{grows_count}
use Rattle.station_run.specs.Counting.{published_by}
use Rattle.station_run.specs.Drill.{IsDrilled}
use Rattle.station_run.specs.Handed.{numbered}
use Rattle.station_run.specs.Serve.{Comes, Ends, done_line, finished, ready_line, refused, starved, undone, unfinished, unready}
use Rattle.station_run.specs.Served.{LaneRun, LaneServes, LanesServe, last_of}
use Rattle.station_run.specs.declared.outcome.Outcome.{Outcome}
use Rattle.station_run.specs.declared.outcome.Outcome.TheVariants.{Done, NoMemory}
use Rattle.station_run.proofs.Counted.{end_counts_connections}

-- ---- another bound of the routers that are listened for than of the lanes
-- As many routers and clients are listened for at most as a station has passes for.
places_are_passes : most_places ≡ most_passes
places_are_passes = refl

-- ---- lanes that listen where askers are told to
abbrev feed_port_of : Option Listening → ℕ
feed_port_of None = 0
feed_port_of (Some at) = at.feed_port

-- a run that served asked the yard to listen as it was told
listened_as_told : {E : Type 0} (Shows : E → List (TablesValue × ℕ) → List (Fed Entry) → List (Asker Entry) → Type 0) (meaning : Meaning) (at : Listening) (rounds : ℕ) (old new : YardSeen E) (told told' : Option (List ℕ)) (outcome : Outcome)
    → Comes Shows meaning at rounds old new told told' outcome → outcome ≡ Done → new.listened ≡ Some at
listened_as_told Shows meaning at rounds old new told told' outcome (starved is same kept) done = absurd cc
listened_as_told Shows meaning at rounds old new told told' outcome (refused before is refuses calls listened none kept) done = listened
listened_as_told Shows meaning at rounds old new told told' outcome (unready ports links is back none front) done = back.listened
listened_as_told Shows meaning at rounds old new told told' outcome (unfinished is serves none written) done = serves.back.listened
listened_as_told Shows meaning at rounds old new told told' outcome (finished rev ends written) done = ends.back.listened
listened_as_told Shows meaning at rounds old new told told' outcome (undone rev meant is ends written) done = ends.back.listened

-- The ports of lanes are those that the call names for them: a run that serves didn't ask the yard to listen for routers where
-- askers are.
lanes_listen_at_their_own_ports : {E : Type 0} (Shows : E → List (TablesValue × ℕ) → List (Fed Entry) → List (Asker Entry) → Type 0) (meaning : Meaning) (at : Listening) (rounds : ℕ) (old new : YardSeen E) (told told' : Option (List ℕ))
    → at.feed_port ≢ at.ask_port → new.listened ≡ Some (record at { feed_port = at.ask_port }) → Comes Shows meaning at rounds old new told told' Done → ⊥
lanes_listen_at_their_own_ports Shows meaning at rounds old new told told' apart elsewhere comes =
    let same : at.ask_port ≡ at.feed_port = ap feed_port_of (sym elsewhere ∙ listened_as_told Shows meaning at rounds old new told told' Done comes refl) in
    omega (arith, apart, same)

-- ---- a last line of another revision
-- The lanes published three entries: what was written doesn't tell two.
done_tells_what_was_published : {E : Type 0} (Shows : E → List (TablesValue × ℕ) → List (Fed Entry) → List (Asker Entry) → Type 0) (meaning : Meaning) (at : Listening) (rounds : ℕ) (old new : YardSeen E) (outcome : Outcome) (rev : ℕ)
    (e : Ends Shows meaning at rounds old new outcome rev) → published_by e.runs ≡ 3 → Appends (Some []) (Some (ready_line ++ done_line 2)) (ready_line ++ done_line rev) → ⊥
unfolding digits
done_tells_what_was_published Shows meaning at rounds old new outcome rev e three written =
    let is : rev ≡ 3 = (end_counts_connections Shows meaning at rounds old new outcome rev e).0 ∙ three in
    let same : ready_line ++ done_line 2 ≡ ready_line ++ done_line 3 = subst (λ (n : ℕ). ready_line ++ done_line 2 ≡ ready_line ++ done_line n) is written in
    let digit : 50 ≡ 51 = ap (λ (l : List ℕ). get_or l 11 0) same in
    omega (arith, digit)

-- ---- `ready`, and nothing served
visit_opens : (meaning : Meaning) (old : Aside) (c : Connection) → Visits meaning old c → 0 < c.closed.opened
visit_opens meaning old c visit =
    let is : c.closed.opened ≡ one_more old.opened = ap (λ (a : Aside). a.opened) visit.closes.same ∙ visit.takes.opened ∙ visit.opens.opened in
    omega (arith, is)

serves_open : (meaning : Meaning) (c : Connection) (cs : List Connection) (old new : Aside) → Serves meaning old new (c ∷ cs) → 0 < new.opened
serves_open meaning c [] old new (visit, life, same) = omega (arith, visit_opens meaning old c visit, ap (λ (a : Aside). a.opened) same)
serves_open meaning c (d ∷ cs) old new (visit, life, others) = serves_open meaning d cs c.closed new others

-- a port that shows no refusal and no fault refused nothing
no_refusal : (plan : Plan) (after : Aside) (result : Result Bool Failed) → IsRefusal result → Opens after (untouched plan) result → ⊥
no_refusal plan after (Ok true) refusal opens = refusal
no_refusal plan after (Ok false) refusal opens = let is : false ≡ true = opens.refused in cc
no_refusal plan after (Err failed) refusal opens = omega (arith, opens.cause.failed.0)

-- what a port showed after the last connection, where nothing came of a further one
stopped_at : (few : Bool) (plan : Plan) (after : Aside) (pass : Fed Entry) (count rounds : ℕ) → MatchBool few (Stops after (untouched plan) pass) ((count ≡ rounds) × (untouched plan ≡ after)) → untouched plan ≡ after
stopped_at true plan after pass count rounds (inl refuses) = absurd (no_refusal plan after refuses.result refuses.refused refuses.opens)
stopped_at true plan after pass count rounds (inr (many, same)) = same
stopped_at false plan after pass count rounds (all, same) = same

-- a lane that is to serve one connection, and whose port came back as no call was made of it, isn't done
untouched_over : (meaning : Meaning) (plan : Plan) (first after : Aside) (pass : Fed Entry) (cs : List Connection) → Serves meaning first after cs → length pass.entries ≡ 0 + length (lives_of cs)
    → MatchBool (nat_lt (length cs) 1) (Stops after (untouched plan) pass) ((length cs ≡ 1) × (untouched plan ≡ after)) → ⊥
untouched_over meaning plan first after pass [] serves count (inl refuses) = no_refusal plan after refuses.result refuses.refused refuses.opens
untouched_over meaning plan first after pass [] serves count (inr (many, same)) = omega (arith, many, count)
untouched_over meaning plan first after pass (c ∷ cs) serves count stop =
    let same = stopped_at (nat_lt (length (c ∷ cs)) 1) plan after pass (length (c ∷ cs)) 1 stop in
    omega (arith, serves_open meaning c cs first after serves, ap (λ (a : Aside). a.opened) same)

untouched_by : (meaning : Meaning) (site : Site) (lane : ℕ) (plan : Plan) (first : Aside) (pass : Fed Entry) (over : LaneEnd) → ServesFeed meaning 1 first (untouched plan) (fresh_feed site lane) pass over → ⊥
untouched_by meaning site lane plan first pass end.Over all =
    untouched_over meaning plan first all.after pass all.connections all.serves (grows_count (fresh_feed site lane) pass (lives_of all.connections) all.grows) all.stop
untouched_by meaning site lane plan first pass end.NoMemory some = omega (arith, visit_opens meaning some.after some.last some.visits, ap (λ (a : Aside). a.opened) some.closed)

untouched_lane : (meaning : Meaning) (site : Site) (lane : ℕ) (plan : Plan) (r : LaneRun) → untouched plan ≡ r.last → LaneServes meaning 1 site lane r → ⊥
untouched_lane meaning site lane plan r same serves =
    untouched_by meaning site lane plan r.first r.pass r.end (subst (λ (a : Aside). ServesFeed meaning 1 r.first a (fresh_feed site lane) r.pass r.end) (sym same) serves.serves)

-- one connection of one byte
one_byte : Plan
one_byte = record { connections = (3 ∷ []) ∷ []; fails = [] }

-- a yard with one port and one link
before_it : YardValue
before_it = record { ports = one_byte ∷ []; links = one_byte ∷ []; fails = []; out = []; links_out = []; back = []; links_back = []; files = []; disks = [] }

-- the same once both were handed out, and given back as they were
unserved : YardValue
unserved = record before_it { ports = []; links = []; back = record { lane = 0; shows = untouched one_byte } ∷ []; links_back = record { number = 0; shows = untouched_link one_byte; written = Some []; faults = 0 } ∷ [] }

abbrev before_seen : (E : Type 0) → YardSeen E
before_seen E = record { told = Some before_it; calls = 0; listened = None; endings = 0; last_ending = None }

abbrev unserved_seen : (E : Type 0) → Listening → YardSeen E
unserved_seen E at = record { told = Some unserved; calls = 3; listened = Some at; endings = 0; last_ending = None }

abbrev backs_of : Option YardValue → List Returned
backs_of None = []
backs_of (Some yard) = yard.back

abbrev first_shows : List Returned → Aside
first_shows [] = nothing_aside
first_shows (r ∷ rs) = r.shows

no_runs : (meaning : Meaning) (site : Site) (runs : List LaneRun) → record { lane = 0; shows = untouched one_byte } ∷ [] ≡ numbered last_of 0 runs → LanesServe meaning 1 site 0 runs → ⊥
no_runs meaning site [] e lanes = omega (arith, ap (λ (l : List Returned). length l) e)
no_runs meaning site (r ∷ rs) e lanes = untouched_lane meaning site 0 one_byte r (ap first_shows e) lanes.0

-- `ready` was written, and then port and link came back as they had been handed out: no run for one connection ends so out of
-- memory.
nothing_served_is_no_end : {E : Type 0} (Shows : E → List (TablesValue × ℕ) → List (Fed Entry) → List (Asker Entry) → Type 0) (meaning : Meaning) (at : Listening)
    → Comes Shows meaning at 1 (before_seen E) (unserved_seen E at) (Some []) (Some ready_line) NoMemory → ⊥
unfolding before_it unserved one_byte
nothing_served_is_no_end {E} Shows meaning at (starved is same kept) = omega (arith, ap (λ (y : YardSeen E). y.calls) same)
nothing_served_is_no_end Shows meaning at (refused before is refuses calls listened none kept) = cc
nothing_served_is_no_end Shows meaning at (unready ports links is back none front) = cc
nothing_served_is_no_end Shows meaning at (unfinished is serves none written) = no_runs meaning serves.site serves.runs (ap backs_of serves.back.told.1) serves.lanes
nothing_served_is_no_end Shows meaning at (finished rev ends written) =
    let same : ready_line ≡ ready_line ++ done_line rev = written in
    omega (arith, ap (λ (l : List ℕ). length l) same, length-append ready_line (done_line rev), length-append (codes "done") (further (number_text rev ∷ [])))
nothing_served_is_no_end Shows meaning at (undone rev meant is ends written) = cc

-- ---- the stream of another lane
-- the name that the first entry gives, where it names the router first
abbrev name_in_front : List EffectValue → List ℕ
name_in_front (named name ∷ others) = name
name_in_front others = []

abbrev name_at : List EntryValue → List ℕ
name_at (message head effects ∷ others) = name_in_front effects
name_at others = []

abbrev lane_tlvs : ℕ → List TlvValue
lane_tlvs lane = record { kind = 1; value = [] } ∷ record { kind = 2; value = lane_name lane } ∷ []

names_differ : lane_name 0 ≡ lane_name 1 → ⊥
unfolding digits
names_differ same = let digit : 48 ≡ 49 = ap (λ (l : List ℕ). get_or l 6 0) same in omega (arith, digit)

-- an Initiation Message that names a lane, and its entry with this head
abbrev naming : ℕ → MessageValue
naming lane = initiation (record { name = Some (lane_name lane); descr = Some []; unread = 0 })

abbrev named_entry : ℕ → HeadValue → EntryValue
named_entry lane head = message head (named (lane_name lane) ∷ described [] ∷ [])

module _ (seed lane messages : ℕ) (bytes : List ℕ) (p : IsDrillStream seed lane messages bytes) where
  abbrev body : List ℕ
  body = p.initiation_is.body

  abbrev behind : List ℕ
  behind = p.ups ++ p.drawn

  -- the stream's first message names the lane
  means_lane : IsMessage no_peers 4 body (naming lane) no_peers
  means_lane =
      let are : AreTlvs body (lane_tlvs lane) = subst (λ (l : List ℕ). AreTlvs l (lane_tlvs lane)) p.initiation_is.is.body_is p.initiation_is.told in (
        record { name = Some (lane_name lane); descr = Some []; unread = 0 },
        record { tlvs = lane_tlvs lane; are = are; name_is = refl; descr_is = refl; unread_is = refl },
        refl,
        refl,
      )

  head_of : (head : HeadValue) × IsHead 4 body (effects_of (naming lane)) head
  head_of = strict_head no_peers 4 body (naming lane) no_peers means_lane

  abbrev first : EntryValue
  first = named_entry lane head_of.0

  names_lane : IsMessageEntry no_peers 4 body first no_peers
  names_lane = record { value = naming lane; means = means_lane; head = head_of.0; is_head = head_of.1; entry_is = refl }

  no_stop : (verdict : Verdict) → WalkStops IsMessageEntry no_peers bytes verdict → verdict ≡ broken Body → ⊥
  no_stop (broken Body) breaks is =
      let same = frame_one breaks.frame p.initiation breaks.rest behind breaks.kind 4 breaks.body body breaks.is_frame p.initiation_is.is (sym breaks.split ∙ p.joined) in
      let here = subst (λ (l : List ℕ). IsMessageEntry no_peers 4 l first no_peers) (sym same.2) names_lane in
      breaks.nothing first no_peers (subst (λ (k : ℕ). IsMessageEntry no_peers k breaks.body first no_peers) (sym same.1) here)
  no_stop (broken Version) breaks is = cc
  no_stop (broken Length) breaks is = cc
  no_stop whole breaks is = cc
  no_stop more breaks is = cc
  no_stop terminated breaks is = cc

  -- so does the first entry that is made of it
  first_entry : (entries : List EntryValue) (offset : ℕ) (verdict : Verdict) → WalksBy strict bytes entries offset verdict → (rest : List EntryValue) × (entries ≡ first ∷ rest)
  first_entry [] offset verdict w =
      let front = front_verdict bytes p.initiation (at_front bytes p.initiation behind body 4 p.joined p.initiation_is.is) in
      absurd (no_stop verdict w.1 (sym (stop_verdict IsMessageEntry strict_exact no_peers bytes verdict w.1) ∙ front))
  first_entry (e ∷ rest) offset verdict (step, left) =
      let same = frame_one step.frame p.initiation step.rest behind step.kind 4 step.body body step.is_frame p.initiation_is.is (sym step.split ∙ p.joined) in
      let means = subst (λ (k : ℕ). IsMessageEntry no_peers k step.body e step.next) same.1 step.means in
      let here = subst (λ (l : List ℕ). IsMessageEntry no_peers 4 l e step.next) same.2 means in
      let one = strict_exact no_peers step.next no_peers 4 body e first here names_lane in
      (rest, ap (λ (x : EntryValue). x ∷ rest) one.0)

-- What a lane made is of its own stream: the entries of lane 0 aren't those that lane 1 is to make.
entries_are_of_one_lane : (seed messages : ℕ) (entries : List EntryValue) → IsDrilled seed messages 0 entries → IsDrilled seed messages 1 entries → ⊥
entries_are_of_one_lane seed messages entries p q =
    let a = first_entry seed 0 messages p.bytes p.stream p.taken.messages p.taken.offset p.taken.verdict p.taken.walk in
    let b = first_entry seed 1 messages q.bytes q.stream q.taken.messages q.taken.offset q.taken.verdict q.taken.walk in
    let ms : opened nothing_told ∷ p.taken.messages ≡ opened nothing_told ∷ q.taken.messages = sym p.taken.is ∙ q.taken.is in
    let both : p.taken.messages ≡ q.taken.messages = cc in
    let names = ap name_at (sym a.1 ∙ both ∙ b.1) in
    names_differ names
