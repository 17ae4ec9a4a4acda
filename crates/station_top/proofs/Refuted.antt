-- What mistaken bodies would come to, which the clauses refuse.
use Rattle.std.proofs.Common.{◌≡◌, ℕ, suc, ◌+◌, ◌≤◌, Bool, true, false, List, [], ◌∷◌, ◌++◌, length, drop, take, replicate, Option, None, Some, Result, Ok, Err, codes, inl, inr, refl, sym, ap, ◌∙◌, subst, arith}
use Rattle.std.specs.Prelude.{◌==◌, ◌⊎◌, MatchBool, MatchOption}
use Rattle.bmp_specs.specs.declared.causes.Cause.{Cause}
use Rattle.bmp_specs.specs.declared.causes.Cause.TheVariants as cause
use Rattle.bmp_specs.specs.declared.causes.Why.TheVariants.{Version as BadVersion}
use Rattle.bmp_specs.specs.declared.peers.View.{View}
use Rattle.bmp_specs.specs.declared.peers.View.TheVariants.{Loc}
use Rattle.bmp_specs.specs.declared.wire.Family.{Family}
use Rattle.bmp_specs.specs.declared.wire.Family.TheVariants.{V4}
use Rattle.bmp_specs.specs.Complete.{IsComplete}
use Rattle.bmp_specs.specs.Frame.{BreaksVersion}
use Rattle.bmp_specs.specs.ImpliedPeerUp.{implied_info, implied_opens}
use Rattle.bmp_specs.specs.LenientBody.{IsLenientEntry, IsUnreadable, OfPeerLeniently, TellsRoutes, meaning_of}
use Rattle.bmp_specs.specs.LenientState.{LenientState, nothing_known}
use Rattle.bmp_specs.specs.Life.{failed, gave_none, most_taken, Fits}
use Rattle.bmp_specs.specs.Lines.{stop_line}
use Rattle.bmp_specs.specs.Meaning.{Meaning}
use Rattle.bmp_specs.specs.MessageBody.{IsRouteMonitoring, OfPeer, ReadingState, no_peers, route_monitoring}
use Rattle.bmp_specs.specs.MessageEffects.{IsMessageEntry, effects_of}
use Rattle.bmp_specs.specs.MessageHead.{IsHead}
use Rattle.bmp_specs.specs.Openings.{nothing_told}
use Rattle.bmp_specs.specs.PeerHeader.{HeaderValue, IsHeader, address_in, header_size, key_of}
use Rattle.bmp_specs.specs.PeerUp.{IsUpWith}
use Rattle.bmp_specs.specs.Rows.{HasRow, RowValue}
use Rattle.bmp_specs.specs.Session.{session_effects}
use Rattle.bmp_specs.specs.UpdateForms.{as_agreed}
use Rattle.bmp_specs.specs.Values.{EffectValue, EntryValue, HeadValue, KeyValue, MessageValue, PeerInfoValue, UpdateValue, message, of_unknown_peer, of_unknown_type, opened, orphan, passed, routes, up}
use Rattle.bmp_specs.specs.Walk.{HasWalked, Verdict, Walks, broken, terminated, termination, whole}
use Rattle.bmp_specs.proofs.LenientStrict.{lenient_update}
use Rattle.bmp_specs.proofs.MessageOne.{strict_exact}
use Rattle.bmp_specs.proofs.OneHead.{header_one}
use Rattle.bmp_specs.proofs.WalkOne.{walk_one}
use Rattle.bmp_specs.proofs.WalkRead.{HasWalked-more, HasWalked-nil, HasWalked-stops, HasWalked-then}
use Rattle.bmp_writer.specs.PeerUpMessage.{with_unextended}
use Rattle.disk_doors.specs.Disk.{DiskValue, goes_to}
use Rattle.disk_doors.specs.Images.{Moment}
use Rattle.feed_archive.specs.declared.fault.AppendFault.TheVariants as append
use Rattle.feed_archive.specs.declared.fault.CreateFault.TheVariants as create
use Rattle.feed_archive.specs.declared.fault.RecoverFault.{RecoverFault}
use Rattle.feed_archive.specs.declared.fault.RecoverFault.TheVariants as recover
use Rattle.relay_out.specs.declared.fault.EmitFault.TheVariants as emit
use Rattle.relay_out.specs.Messages.{IsRelayStream}
use Rattle.relay_out.specs.Relayed.{ReadsBack}
use Rattle.relay_out.specs.Writable.{AreWritable}
use Rattle.relay_out.proofs.RelayLaw.{reads_back}
use Rattle.station_doors.specs.Doors.{DiskAt, DiskShown, YardValue, counts_only}
use Rattle.station_doors.specs.declared.listening.Listening.{Listening}
use Rattle.station_run.specs.declared.outcome.Outcome.{Outcome}
use Rattle.station_run.specs.declared.outcome.Outcome.TheVariants as outcome
use Rattle.station_words.specs.Explain.{version_line}
use Rattle.station_words.specs.declared.serve_words.ServeWords.{ServeWords}
use Rattle.station_words.specs.declared.words.Command.TheVariants.{Relay, Version}
use Rattle.station_top.specs.ArchiveRuns.{status_kept, text_kept}
use Rattle.station_top.specs.RecallRuns.{LendsDisk, RecallConcludes, RecallMeans, HasRecovered, answered, diskless, recalled, status_unread, unrecalled, unread}
use Rattle.station_top.specs.Station.{AnswersFault, CallConcludes, Relayed, ServesNobody, broken_off, cut, unwritable, wrote}
use Rattle.station_top.specs.Status.{code_of, status_of, status_relayed, status_served}
use Rattle.station_top.specs.Written.{IsWritten}
use Rattle.station_top.specs.declared.archive.Kept.TheVariants as kept
use Rattle.station_top.specs.declared.status.Status.{Status}
use Rattle.station_top.specs.declared.status.Status.TheVariants.{ArchiveFull, BadFile, Done, NoMemory, ReadFault, Stopped, Usage, WriteFault, YardFault}

-- ---- the statuses as numbers
-- A stream that ended or was terminated comes to 0, one that stopped early to 1, and one whose read failed to 3.
streams_end_by_these_numbers : (code_of (status_of cause.Ended) ≡ 0) × (code_of (status_of cause.Terminated) ≡ 0) × (code_of (status_of (cause.CutShort 7)) ≡ 1) × (code_of (status_of (cause.Broken 7 BadVersion)) ≡ 1)
    × (code_of (status_of cause.Full) ≡ 1) × (code_of (status_of (cause.ReadFault 7)) ≡ 3)
streams_end_by_these_numbers = (refl, refl, refl, refl, refl, refl)

-- A relay comes to its stream's number; where a write failed to 4, where the session can't be relayed to 8, out of memory to 5.
relays_end_by_these_numbers : (code_of (status_relayed (Ok tt) cause.Ended) ≡ 0) × (code_of (status_relayed (Ok tt) (cause.CutShort 7)) ≡ 1) × (code_of (status_relayed (Err emit.Failed) cause.Ended) ≡ 4)
    × (code_of (status_relayed (Err emit.Unwritable) cause.Ended) ≡ 8) × (code_of (status_relayed (Err emit.NoMemory) cause.Ended) ≡ 5)
relays_end_by_these_numbers = (refl, refl, refl, refl, refl)

-- An archive that is full comes to 12, one that isn't empty to 10, where the disk failed to 11, and else to its stream's number.
archives_end_by_these_numbers : (code_of (status_kept (kept.CutOff 7 append.Full)) ≡ 12) × (code_of (status_kept (kept.CutOff 7 append.Failed)) ≡ 11) × (code_of (status_kept (kept.Uncreated create.NotEmpty)) ≡ 10)
    × (code_of (status_kept (kept.Uncreated create.Failed)) ≡ 11) × (code_of (status_kept kept.Starved) ≡ 5) × (code_of (status_kept (kept.Whole 7 cause.Ended)) ≡ 0) × (code_of (status_kept (kept.Whole 7 (cause.CutShort 3))) ≡ 1)
archives_end_by_these_numbers = (refl, refl, refl, refl, refl, refl, refl)

-- A file that is no archive comes to 10, also where it is too long; a disk that failed to 11, want of memory to 5.
recalls_end_by_these_numbers : (code_of (status_unread (recover.Damaged 7)) ≡ 10) × (code_of (status_unread recover.TooLong) ≡ 10) × (code_of (status_unread recover.Failed) ≡ 11) × (code_of (status_unread recover.NoMemory) ≡ 5)
recalls_end_by_these_numbers = (refl, refl, refl, refl)

-- A station that served comes to 0; out of memory to 5, where the yard failed to 6, where a write failed to 4.
stations_end_by_these_numbers : (code_of (status_served outcome.Done) ≡ 0) × (code_of (status_served outcome.NoMemory) ≡ 5) × (code_of (status_served outcome.YardFault) ≡ 6) × (code_of (status_served outcome.WriteFault) ≡ 4)
stations_end_by_these_numbers = (refl, refl, refl, refl)

-- Words that are no command come to 2, and a file of another form to 9.
usage_ends_by_this_number : (code_of Usage ≡ 2) × (code_of BadFile ≡ 9)
usage_ends_by_this_number = (refl, refl)

-- ---- a stream told as a failed read
-- a content that was taken to its end isn't told as a failed read
no_read_failed : (taken : ℕ) (verdict : Verdict) (offset : ℕ) (because : Cause) → Fits taken gave_none verdict offset because → status_of because ≡ ReadFault → ⊥
no_read_failed taken verdict offset cause.Ended fits is = let other : Done ≡ ReadFault = is in cc
no_read_failed taken verdict offset cause.Terminated fits is = let other : Done ≡ ReadFault = is in cc
no_read_failed taken verdict offset (cause.CutShort at) fits is = let other : Stopped ≡ ReadFault = is in cc
no_read_failed taken verdict offset (cause.Broken at why) fits is = let other : Stopped ≡ ReadFault = is in cc
no_read_failed taken verdict offset (cause.ReadFault at) fits is = let other : gave_none ≡ failed = fits.0 in cc
no_read_failed taken verdict offset cause.Full fits is = let other : Stopped ≡ ReadFault = is in cc

-- Whatever `recall` has recovered ended: it comes to no failed read.
recall_fails_no_read : (meaning : Meaning) (Replies : List EntryValue → List ℕ → Type 0) (content : List ℕ) (status : Status) (text : List ℕ) → RecallMeans meaning Replies content status text → status ≡ ReadFault → ⊥
recall_fails_no_read meaning Replies content status text (recalled messages because reply come replies) is =
    no_read_failed (length (take most_taken content)) come.verdict come.offset because come.because.fits is
recall_fails_no_read meaning Replies content status text unrecalled is = let other : NoMemory ≡ ReadFault = is in cc

-- ---- a fault that wasn't, or two
-- Where no write failed, no failed write is told.
no_write_fault_without_one : AnswersFault 0 0 WriteFault WriteFault → ⊥
no_write_fault_without_one a = omega (arith, (a.rose refl).0)

-- The write that failed ended the call: no second one came after it.
no_second_write_fault : AnswersFault 0 2 WriteFault WriteFault → ⊥
no_second_write_fault a = omega (arith, (a.rose refl).1)

-- Where the yard didn't fail, no fault of it is told.
no_yard_fault_without_one : AnswersFault 0 0 YardFault YardFault → ⊥
no_yard_fault_without_one a = omega (arith, (a.rose refl).0)

-- `--version` wrote its line: that is no fault of the yard.
version_is_no_yard_fault : (Serves : ServeWords → Outcome → Type 0) (file : List ℕ) (meaning : Meaning) → CallConcludes Serves Version file meaning None None 0 0 (Some []) (Some version_line) YardFault → ⊥
version_is_no_yard_fault Serves file meaning (same, calls, inl (is, written)) = let other : YardFault ≡ Done = is in cc
version_is_no_yard_fault Serves file meaning (same, calls, inr (is, written)) = let other : YardFault ≡ WriteFault = is in cc

-- ---- an archive that is full
-- An archive was full after five bytes: it doesn't come to 0.
full_is_not_done : (told0 told1 : Option (List ℕ)) → IsWritten told0 told1 (text_kept (kept.CutOff 5 append.Full)) (status_kept (kept.CutOff 5 append.Full)) Done → ⊥
full_is_not_done told0 told1 (inl (is, written)) = let other : Done ≡ ArchiveFull = is in cc
full_is_not_done told0 told1 (inr (is, written)) = let other : Done ≡ WriteFault = is in cc

-- ---- what is asked of the yard
-- `relay` makes one call of the yard, for its input: no second one to listen.
relay_makes_one_call : (Serves : ServeWords → Outcome → Type 0) (file : List ℕ) (meaning : Meaning) (old new : Option YardValue) (told0 told1 : Option (List ℕ)) (status : Status) → CallConcludes Serves Relay file meaning old new 0 2 told0 told1 status → ⊥
relay_makes_one_call Serves file meaning old new told0 told1 status concludes = omega (arith, concludes.0)

-- A yard that was asked to listen, or that took an ending, served somebody: only a call of `serve` may leave it so.
nobody_is_listened_for : (at : Listening) → ServesNobody (counts_only 0 None 0) (counts_only 1 (Some at) 0) → ⊥
nobody_is_listened_for at nobody = let is : Some at ≡ None = nobody.listened in cc

nobody_has_an_ending : ServesNobody (counts_only 0 None 0) (counts_only 0 None 1) → ⊥
nobody_has_an_ending nobody = omega (arith, nobody.endings)

-- ---- a disk that `recall` wrote to
abbrev shown_at : List ℕ → DiskShown → YardValue
shown_at path shown = record { ports = []; links = []; fails = []; out = []; links_out = []; back = []; links_back = []; files = []; disks = record { path = path; shows = Some shown } ∷ [] }

-- how many moments the disk has behind it that stands there, and the first one of a yard
abbrev past_of : Option DiskShown → ℕ
past_of None = 0
past_of (Some shown) = length shown.value.past

abbrev past_there : Option (Option DiskShown) → ℕ
past_there None = 0
past_there (Some shows) = past_of shows

abbrev first_past : List DiskAt → ℕ
first_past [] = 0
first_past (d ∷ ds) = past_of d.shows

abbrev past_in : Option YardValue → ℕ
past_in None = 0
past_in (Some yard) = first_past yard.disks

-- a disk that was recovered from, with whatever result, has no moment more
no_moment_more : (d : DiskValue) (m : Moment) (result : Result (List ℕ) RecoverFault)
    → LendsDisk (HasRecovered result) (codes "a") (shown_at (codes "a") (record { value = d; faults = 0 })) (Some (shown_at (codes "a") (record { value = goes_to m d; faults = 0 }))) 0 → ⊥
no_moment_more d m result lends =
    let before : length d.past ≡ length lends.lent.value.past = ap past_there lends.stood in
    let after : suc (length d.past) ≡ length lends.back.value.past = ap past_in lends.given_back in
    let same : length lends.back.value.past ≡ length lends.lent.value.past = ap (λ (ms : List Moment). length ms) lends.is.rests.past in
    omega (arith, before, after, same)

-- A write or a sync, whatever it made of the file, makes a moment: what `recall` comes to is refused where the disk has one more
-- than before.
recall_writes_nothing : (meaning : Meaning) (Replies : List EntryValue → List ℕ → Type 0) (d : DiskValue) (m : Moment) (told0 told1 : Option (List ℕ)) (status : Status)
    → RecallConcludes meaning Replies (codes "a") (Some (shown_at (codes "a") (record { value = d; faults = 0 }))) (Some (shown_at (codes "a") (record { value = goes_to m d; faults = 0 }))) 0 told0 told1 status → ⊥
recall_writes_nothing meaning Replies d m told0 told1 status (diskless refuses is none) = let same : suc (length d.past) ≡ length d.past = ap past_in refuses.1 in omega (arith, same)
recall_writes_nothing meaning Replies d m told0 told1 status (unread why lends written) = no_moment_more d m (Err why) lends
recall_writes_nothing meaning Replies d m told0 told1 status (answered content lends answers) = no_moment_more d m (Ok content) lends

-- ---- what a relay writes
-- a relay that comes to 0 is of what can be written, and it wrote what is read back, and nothing else
wrote_all : (effects : List EffectValue) (because : Cause) (bytes : List ℕ) (status : Status) → Relayed effects because (Some []) (Some bytes) status → status ≡ Done → AreWritable effects × ReadsBack effects bytes
wrote_all effects because bytes status (wrote can stream is reads grown) done = (can, subst (λ (l : List ℕ). ReadsBack effects l) (sym grown) reads)
wrote_all effects because bytes status (unwritable cannot none) done = absurd cc
wrote_all effects because bytes status (cut can stream written told front grown) done = absurd cc
wrote_all effects because bytes status (broken_off can stream written told front grown) done = absurd cc

can_be_done : (effects : List EffectValue) (because : Cause) (told0 told1 : Option (List ℕ)) (status : Status) → Relayed effects because told0 told1 status → status ≡ Done → AreWritable effects
can_be_done effects because told0 told1 status (wrote can stream is reads grown) done = can
can_be_done effects because told0 told1 status (unwritable cannot none) done = absurd cc
can_be_done effects because told0 told1 status (cut can stream written told front grown) done = can
can_be_done effects because told0 told1 status (broken_off can stream written told front grown) done = absurd cc

-- What can't be relayed doesn't come to 0.
unwritable_is_not_done : (effects : List EffectValue) (because : Cause) (told0 told1 : Option (List ℕ)) → (AreWritable effects → ⊥) → Relayed effects because told0 told1 Done → ⊥
unwritable_is_not_done effects because told0 told1 cannot relayed = cannot (can_be_done effects because told0 told1 Done relayed refl)

-- what is read as whole messages is walked, whatever comes after it
walked : {S M : Type 0} (Is : S → ℕ → List ℕ → M → S → Type 0) (s : S) (bytes : List ℕ) (ms : List M) (offset : ℕ) → Walks Is s bytes ms offset whole → (t : S) × HasWalked Is s t bytes ms
walked Is s bytes [] offset w = (s, rw w.1 (HasWalked-nil Is s))
walked {S} Is s bytes (m ∷ ms) offset (step, rest) = go (step.kind == termination) refl (λ after w. walked Is step.next step.rest ms after w) rest
  where
    go : (ends : Bool) → step.kind == termination ≡ ends → ((after : ℕ) → Walks Is step.next step.rest ms after whole → (t : S) × HasWalked Is step.next t step.rest ms)
        → MatchBool ends ((ms ≡ []) × (offset ≡ length step.frame) × (whole ≡ terminated)) ((after : ℕ) × (offset ≡ length step.frame + after) × Walks Is step.next step.rest ms after whole) → (t : S) × HasWalked Is s t bytes (m ∷ ms)
    go true e again (none, place, verdict) = absurd cc
    go false e again (after, place, w) =
        let more = again after w in
        let first = HasWalked-more Is s s step.next [] step.frame step.body [] step.kind m (HasWalked-nil Is s) step.is_frame step.means e in
        (more.0, subst (λ (l : List ℕ). HasWalked Is s more.0 l (m ∷ ms)) (sym step.split) (HasWalked-then Is s step.next more.0 step.frame step.rest (m ∷ []) ms first more.1))

no_verdict : broken BadVersion ≡ whole → ⊥
no_verdict same = cc

-- A stop line follows the stream: that is read back as no session.
nothing_follows_a_relayed_stream : (effects : List EffectValue) (because : Cause) (bytes : List ℕ) → IsRelayStream effects bytes → Relayed effects because (Some []) (Some (bytes ++ stop_line cause.Ended)) Done → ⊥
nothing_follows_a_relayed_stream effects because bytes stream relayed =
    let done = wrote_all effects because (bytes ++ stop_line cause.Ended) Done relayed refl in
    let right = reads_back effects bytes stream done.0 in
    let over = walked IsMessageEntry no_peers bytes right.entries (length bytes) right.walk in
    let long : 6 ≤ 11 = omega arith in
    let other : 115 ≡ 3 → ⊥ = λ e. omega (arith, e) in
    let breaks : BreaksVersion (stop_line cause.Ended) = record { header = long; version = other } in
    let stops = HasWalked-stops IsMessageEntry no_peers over.0 bytes (stop_line cause.Ended) right.entries (broken BadVersion) over.1 breaks in
    let one = walk_one IsMessageEntry strict_exact no_peers (bytes ++ stop_line cause.Ended) right.entries done.1.entries (length bytes) (length (bytes ++ stop_line cause.Ended)) (broken BadVersion) whole stops done.1.walk in
    no_verdict one.2

-- What is read of bytes is one: a stream that is read back as one session leaves that one's rows, peers and complete tables.
same_left : (effects others : List EffectValue) (bytes : List ℕ) (a : ReadsBack effects bytes) (b : ReadsBack others bytes) → session_effects (opened nothing_told ∷ a.entries) ≡ session_effects (opened nothing_told ∷ b.entries)
same_left effects others bytes a b =
    let one = walk_one IsMessageEntry strict_exact no_peers bytes a.entries b.entries (length bytes) (length bytes) whole whole a.walk b.walk in
    ap (λ (es : List EntryValue). session_effects (opened nothing_told ∷ es)) one.0

-- A row is lost: the stream of a session without it isn't what a relay writes of one with it.
no_row_is_lost : (effects others : List EffectValue) (because : Cause) (bytes : List ℕ) (row : RowValue) → ReadsBack others bytes → HasRow effects row → (HasRow others row → ⊥) → Relayed effects because (Some []) (Some bytes) Done → ⊥
no_row_is_lost effects others because bytes row reads has lacks relayed =
    let done = (wrote_all effects because bytes Done relayed refl).1 in
    lacks (((reads.relayed nothing_told).row row).0 (subst (λ (l : List EffectValue). HasRow l row) (same_left effects others bytes done reads) (((done.relayed nothing_told).row row).1 has)))

-- A table that is not complete has a mark too many.
no_mark_too_many : (effects others : List EffectValue) (because : Cause) (bytes : List ℕ) (key : KeyValue) (view : View) (family : Family) → ReadsBack others bytes → (IsComplete effects key view family → ⊥) → IsComplete others key view family
    → Relayed effects because (Some []) (Some bytes) Done → ⊥
no_mark_too_many effects others because bytes key view family reads waits complete relayed =
    let done = (wrote_all effects because bytes Done relayed refl).1 in
    waits (((done.relayed nothing_told).complete key view family).0 (subst (λ (l : List EffectValue). IsComplete l key view family) (sym (same_left effects others bytes done reads)) (((reads.relayed nothing_told).complete key view family).1 complete)))

-- A peer that isn't up is told as up.
no_peer_that_is_down : (effects others : List EffectValue) (because : Cause) (bytes : List ℕ) (key : KeyValue) (info : PeerInfoValue) → ReadsBack others bytes → ((was : PeerInfoValue) → IsUpWith effects key was → ⊥) → IsUpWith others key info
    → Relayed effects because (Some []) (Some bytes) Done → ⊥
no_peer_that_is_down effects others because bytes key info reads down is_up relayed =
    let done = (wrote_all effects because bytes Done relayed refl).1 in
    let left = ((reads.relayed nothing_told).up key (with_unextended info)).1 (info, is_up, refl) in
    let told = ((done.relayed nothing_told).up key (with_unextended info)).0 (subst (λ (l : List EffectValue). IsUpWith l key (with_unextended info)) (sym (same_left effects others bytes done reads)) left) in
    down told.0 told.1

-- ---- the lenient word
-- the header of a Loc-RIB of AS 64512
abbrev of_loc_rib : HeaderValue
of_loc_rib = record { kind = 3; flags = 0; distinguisher = 0; address = replicate 16 0; asn = 64512; identifier = 10 ∷ 0 ∷ 0 ∷ 1 ∷ []; seconds = 0; micros = 0 }

-- the peer that it names
abbrev the_loc_rib : KeyValue
the_loc_rib = record { kind = 3; distinguisher = 0; address = address_in V4 (replicate 16 0) }

-- by the RFCs alone the routes of a peer that isn't up are an orphan
strict_orphan : (body : List ℕ) (e : EntryValue) (s : ReadingState) → IsHeader (take header_size body) of_loc_rib → IsMessageEntry no_peers 0 body e s
    → (head : HeadValue) × IsHead 0 body (orphan ∷ []) head × (e ≡ message head (orphan ∷ []))
strict_orphan body e s is p =
    let same : p.means.header ≡ of_loc_rib = header_one (take header_size body) p.means.header of_loc_rib p.means.is is in
    let means : OfPeer route_monitoring no_peers of_loc_rib the_loc_rib (drop header_size body) p.value s =
    subst (λ (h : HeaderValue). MatchOption (key_of h) ((p.value ≡ of_unknown_type) × (s ≡ no_peers)) (λ key. OfPeer route_monitoring no_peers h key (drop header_size body) p.value s)) same p.means.means in
    let value : p.value ≡ of_unknown_peer = means.1 in
    (p.head, subst (λ (m : MessageValue). IsHead 0 body (effects_of m) p.head) value p.is_head, p.entry_is ∙ ap (λ (m : MessageValue). message p.head (effects_of m)) value)

-- Leniently they imply the Peer Up of a Loc-RIB.
lenient_up : (body : List ℕ) (u : UpdateValue) (e : EntryValue) (t : LenientState) → IsHeader (take header_size body) of_loc_rib → IsRouteMonitoring (implied_opens of_loc_rib) of_loc_rib (drop header_size body) u
    → IsLenientEntry nothing_known 0 body e t
    → (head : HeadValue) × (more : List EffectValue) × IsHead 0 body (up the_loc_rib (implied_info of_loc_rib) ∷ more) head × (e ≡ message head (up the_loc_rib (implied_info of_loc_rib) ∷ more))
lenient_up body u e t is routes_are q =
    let same : q.means.header ≡ of_loc_rib = header_one (take header_size body) q.means.header of_loc_rib q.means.is is in
    let means : OfPeerLeniently route_monitoring nothing_known of_loc_rib the_loc_rib (drop header_size body) q.effects t =
    subst (λ (h : HeaderValue). MatchOption (key_of h) ((q.effects ≡ passed ∷ []) × (t ≡ nothing_known)) (λ key. OfPeerLeniently route_monitoring nothing_known h key (drop header_size body) q.effects t)) same q.means.means in
    by means
  where
    by : TellsRoutes nothing_known (implied_opens of_loc_rib) of_loc_rib the_loc_rib (drop header_size body) q.effects t ⊎ IsUnreadable nothing_known (implied_opens of_loc_rib) of_loc_rib the_loc_rib (drop header_size body) q.effects t
        → (head : HeadValue) × (more : List EffectValue) × IsHead 0 body (up the_loc_rib (implied_info of_loc_rib) ∷ more) head × (e ≡ message head (up the_loc_rib (implied_info of_loc_rib) ∷ more))
    by (inl tells) = (q.head, effects_of (routes the_loc_rib Loc tells.update), subst (λ (l : List EffectValue). IsHead 0 body l q.head) tells.effects_are q.is_head, q.entry_is ∙ ap (λ (l : List EffectValue). message q.head l) tells.effects_are)
    by (inr unreadable) = absurd (unreadable.none as_agreed u (lenient_update (implied_opens of_loc_rib) of_loc_rib (drop header_size body) u routes_are))

-- A Loc-RIB of which no Peer Up told sends routes that can be read. What is read of them by the RFCs alone isn't what
-- `relay --lenient` is to read of them.
lenient_is_another_meaning : (body : List ℕ) (u : UpdateValue) (e : EntryValue) (s : (meaning_of false).State) (t : (meaning_of true).State) → IsHeader (take header_size body) of_loc_rib
    → IsRouteMonitoring (implied_opens of_loc_rib) of_loc_rib (drop header_size body) u → (meaning_of false).Means (meaning_of false).start 0 body e s → (meaning_of true).Means (meaning_of true).start 0 body e t → ⊥
lenient_is_another_meaning body u e s t is routes_are p q =
    let (head, is_head, strictly) = strict_orphan body e s is p in
    let (other, more, is_other, leniently) = lenient_up body u e t is routes_are q in
    let both : message head (orphan ∷ []) ≡ message other (up the_loc_rib (implied_info of_loc_rib) ∷ more) = sym strictly ∙ leniently in
    cc
