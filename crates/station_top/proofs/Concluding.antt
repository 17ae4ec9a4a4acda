-- What a command comes to, from what its steps say.
use Rattle.std.proofs.Common.{◌≡◌, Bool, ℕ, ◌^◌, ◌<◌, ◌≤◌, List, [], ◌∷◌, ◌++◌, length, Option, Some, None, Result, Ok, Err, refl, sym, ap, ◌∙◌, subst, inl, inr, arith}
use Rattle.std.specs.Prelude.{OnOk, OnErr, sum_by}
use Rattle.std.proofs.lemmas.List.Sums.{sum_by-cons}
use Rattle.bmp_specs.specs.declared.causes.Cause.{Cause}
use Rattle.bmp_specs.specs.declared.causes.Cause.TheVariants as cause
use Rattle.bmp_specs.specs.declared.causes.Cause.TheVariants.{Ended, Terminated, CutShort, Broken, Full}
use Rattle.bmp_specs.specs.Check.{length_of}
use Rattle.bmp_specs.specs.Life.{Given, HasCome}
use Rattle.bmp_specs.specs.Lines.{stop_line}
use Rattle.bmp_specs.specs.LenientBody.{meaning_of}
use Rattle.bmp_specs.specs.Meaning.{Meaning}
use Rattle.bmp_specs.specs.Openings.{nothing_told}
use Rattle.bmp_specs.specs.Values.{EntryValue, opened}
use Rattle.wire_io.specs.declared.sink.Failed.{Failed}
use Rattle.wire_io.specs.Aside.{Aside, Plan}
use Rattle.wire_io.specs.Faults.{HasCause}
use Rattle.wire_io.specs.Writes.{Writes}
use Rattle.wire_io.proofs.Joins.{appends_none}
use Rattle.bmp_message.specs.Effects.{GivesMessages}
use Rattle.station_doors.specs.Doors.{YardValue, HandsOut, TakesBack, one_more, untouched}
use Rattle.query_eval.specs.Replies.{PutsReply}
use Rattle.station_words.specs.Words.{IsCall, file_in}
use Rattle.station_words.specs.Explain.{help_text, version_line}
use Rattle.station_words.specs.declared.drill_words.DrillWords.{DrillWords}
use Rattle.station_words.specs.declared.serve_words.ServeWords.{ServeWords}
use Rattle.station_words.specs.declared.words.Call.{Call}
use Rattle.station_words.specs.declared.words.Command.{Command}
use Rattle.station_words.specs.declared.words.Command.TheVariants.{Replay, Check, Serve, Drill, Relay, Rov, Archive, Recall, Help, Version}
use Rattle.station_words.proofs.Commands.{archive_call, recall_call, rov_call}
use Rattle.station_top.specs.Station.{Explains, explained, judged_by, LendsWhereTold, IsTaken, FromYard, IsReplyTo, IsStopped, TakesOneInput, Runs, refused, replied, starved, unready, called, Concludes, CallConcludes, RovConcludes, Answers, replied_to, served, drilled, relayed_to, archived_to, recalled_from, drilled_whole, drill_starved, DrillConcludes, AnswersFault}
use Rattle.station_top.specs.ArchiveRuns.{ArchiveConcludes}
use Rattle.station_top.specs.RecallRuns.{RecallConcludes}
use Rattle.station_top.specs.Status.{status_of, status_served}
use Rattle.station_top.specs.Take.{TakesInput, BreaksOff}
use Rattle.station_top.specs.Written.{IsWritten}
use Rattle.station_run.specs.Serve.{AnswersFault as EndsFault}
use Rattle.station_run.specs.declared.outcome.Outcome.{Outcome}
use Rattle.station_run.specs.declared.outcome.Outcome.TheVariants as outcome
use Rattle.station_top.specs.Drill.{IsDrillText}
use Rattle.station_top.specs.declared.status.Status.{Status}
use Rattle.station_top.specs.declared.status.Status.TheVariants.{Done, Stopped, Usage, ReadFault, WriteFault, NoMemory, YardFault, Unwritable, BadFile, BadArchive, DiskFault, ArchiveFull}
use Rattle.station_top.specs.declared.take.Taken.{Taken}
use Rattle.station_top.proofs.Lengths.{walk_lengths}

-- the port was handed out, taken from and given back
pub lends : {P : Type 0} (Is : Plan → Aside → Type 0) (shows : P → Aside) (calls : P → ℕ) (old mid new : Option YardValue) (number : ℕ) (port : P) (after : Aside) → HandsOut shows calls 0 number old mid (Ok port) → ((plan : Plan) → shows port ≡ untouched plan → calls port ≡ 0 → Is plan after) → TakesBack 0 after mid new
    → LendsWhereTold Is old new number
lends Is shows calls None mid new number port after h is t = subst (λ (m : Option YardValue). TakesBack 0 after m new) h t
lends Is shows calls (Some old) mid new number port after h is t =
    let t1 = subst (λ (m : Option YardValue). TakesBack 0 after m new) h.4 t in
    record { planned = h.0; plan = h.1; waiting = h.2; shows = after; first = h.3; given_back = t1.lent (0, omega arith, refl); is = is h.1 h.5 h.6 }

pub is_taken : {P : Type 0} (meaning : Meaning) (Stands : List EntryValue → Type 0) (shows : P → Aside) (calls : P → ℕ) (old mid new : Option YardValue) (number : ℕ) (port : P) (after : Aside) (taken : Taken) → HandsOut shows calls 0 number old mid (Ok port) → TakesInput meaning Stands (shows port) after (calls port) taken → TakesBack 0 after mid new
    → IsTaken meaning Stands old new number taken
is_taken meaning Stands shows calls old mid new number port after taken h t back = record {
  input = t.input;
  messages = t.messages;
  come = t.come;
  noted = t.noted;
  count = t.count;
  no_further = t.no_further;
  lends = lends _ shows calls old mid new number port after h t.shows back;
}

pub breaks_off : {P : Type 0} (meaning : Meaning) (shows : P → Aside) (calls : P → ℕ) (old mid new : Option YardValue) (number : ℕ) (port : P) (after : Aside) → HandsOut shows calls 0 number old mid (Ok port) → ((plan : Plan) → shows port ≡ untouched plan → calls port ≡ 0 → BreaksOff meaning plan after) → TakesBack 0 after mid new
    → LendsWhereTold (BreaksOff meaning) old new number
breaks_off meaning shows calls old mid new number port after h breaks back = lends (BreaksOff meaning) shows calls old mid new number port after h breaks back

-- The messages have fewer than 2^64 bytes, and with the opening they are at most 2^57.
pub record AreFew (messages : List EntryValue) (revision : ℕ) : Type 0 where
  pub bytes : sum_by length_of (opened nothing_told ∷ messages) < 2 ^ 64
  pub count : revision ≤ 2 ^ 57

-- so it is with those of an input
pub few : (meaning : Meaning) (gives : GivesMessages meaning) (input : Given) (messages : List EntryValue) (cause : Cause) (revision : ℕ) → HasCome meaning input messages cause → revision ≡ length (opened nothing_told ∷ messages) → AreFew messages revision
few meaning gives input messages cause revision come count =
    let long = walk_lengths meaning gives meaning.start input.bytes messages come.offset come.verdict come.walk in
    record {
      bytes = omega (arith, sum_by-cons length_of (opened nothing_told) messages, long.bytes, long.within, come.within);
      count = omega (arith, count, long.count, long.within, come.within);
    }

pub short : (meaning : Meaning) (gives : GivesMessages meaning) (Stands : List EntryValue → Type 0) (old new : Option YardValue) (number : ℕ) (taken : Taken) (t : IsTaken meaning Stands old new number taken) → AreFew t.messages taken.revision
short meaning gives Stands old new number taken t = few meaning gives t.input t.messages taken.cause taken.revision t.come t.count

module _ {O : Type 0} {faults : O → ℕ} {told : O → Option (List ℕ)} {aside : O → Aside} where
  -- the status is the one that is meant, or a write failed
  pub is_written : (a b : O) (text : List ℕ) (r : Result (Unit {0}) Failed) (meant status : Status) → Writes faults told aside a text r b → OnOk r (status ≡ meant) → OnErr r (status ≡ WriteFault) → IsWritten (told a) (told b) text meant status
  is_written a b text (Ok u) meant status w fine fault = inl (fine, w.whole)
  is_written a b text (Err e) meant status w fine fault = inr (fault, w.front)

  -- a reply and the line of the cause were written
  pub stopped : (a b : O) (IsReply : List ℕ → Type 0) (cause : Cause) (reply : List ℕ) → IsReply reply → {r : Result (Unit {0}) Failed} → Writes faults told aside a (reply ++ stop_line cause) r b → PutsReply faults told aside (IsStopped IsReply cause) a r b
  stopped a b IsReply cause reply is w = record { text = reply ++ stop_line cause; is_reply = (reply, is, refl); written = w }

  -- the input was taken, and the reply was written
  pub concludes_replied : (meaning : Meaning) (Stands : List EntryValue → Type 0) (Replies : List EntryValue → List ℕ → Type 0) (old new : Option YardValue) (number : ℕ) (taken : Taken) (t : IsTaken meaning Stands old new number taken) (a b : O) (r : Result (Unit {0}) Failed) (status : Status)
      → PutsReply faults told aside (IsStopped (Replies (opened nothing_told ∷ t.messages)) taken.cause) a r b → OnOk r (status ≡ status_of taken.cause) → OnErr r (status ≡ WriteFault) → Concludes meaning Replies old new number (told a) (told b) status
  concludes_replied meaning Stands Replies old new number taken t a b r status puts fine fault =
      let reply = puts.is_reply.0 in
      let w = subst (λ (text : List ℕ). Writes faults told aside a text r b) puts.is_reply.2 puts.written in
      record {
        meant = status_of taken.cause;
        text = reply ++ stop_line taken.cause;
        runs = replied t.input t.messages taken.cause reply t.come t.no_further puts.is_reply.1 t.lends;
        written = is_written a b (reply ++ stop_line taken.cause) r (status_of taken.cause) status w fine fault;
      }

  -- a drill was run, and its replies were written
  pub concludes_drill : (drill : DrillWords) (a b : O) (r : Result (Unit {0}) Failed) (status : Status) → PutsReply faults told aside (IsDrillText drill.seed drill.lanes drill.messages) a r b → OnOk r (status ≡ Done) → OnErr r (status ≡ WriteFault) → DrillConcludes drill (told a) (told b) status
  concludes_drill drill a b r status puts fine fault = record { meant = Done; text = puts.text; means = drilled_whole puts.text puts.is_reply; written = is_written a b puts.text r Done status puts.written fine fault }

-- there was no memory for a drill
pub concludes_no_drill : (drill : DrillWords) (told : Option (List ℕ)) → DrillConcludes drill told told NoMemory
concludes_no_drill drill told = record { meant = NoMemory; text = []; means = drill_starved; written = inl (refl, appends_none told) }

-- no cause has the status of a failed write
pub no_write_fault : (cause : Cause) → status_of cause ≡ WriteFault → ⊥
no_write_fault Ended is = cc is
no_write_fault Terminated is = cc is
no_write_fault (CutShort offset) is = cc is
no_write_fault (Broken offset why) is = cc is
no_write_fault (cause.ReadFault offset) is = cc is
no_write_fault Full is = cc is

-- a write fault is answered exactly where a write failed
pub answers_write : (cause : Cause) (status : Status) (before now : ℕ) (r : Result (Unit {0}) Failed) → HasCause before now r → OnOk r (status ≡ status_of cause) → OnErr r (status ≡ WriteFault) → AnswersFault before now status WriteFault
answers_write cause status before now (Ok u) has fine fault = record { rose = λ is. absurd (no_write_fault cause (sym fine ∙ is)); calm = λ _. has.fine }
answers_write cause status before now (Err e) has fine fault = record { rose = λ _. has.failed; calm = λ other. absurd (other fault) }

-- the input was taken, and there was no memory for what a reply is given from
pub concludes_unready : (meaning : Meaning) (Stands : List EntryValue → Type 0) (Replies : List EntryValue → List ℕ → Type 0) (old new : Option YardValue) (number : ℕ) (taken : Taken) (told : Option (List ℕ)) → IsTaken meaning Stands old new number taken → Concludes meaning Replies old new number told told NoMemory
concludes_unready meaning Stands Replies old new number taken told t = record { meant = NoMemory; text = []; runs = unready t.input t.messages taken.cause t.come t.no_further t.lends; written = inl (refl, appends_none told) }

-- the port was refused, or there was no memory: nothing is written
pub concludes_unread : {A : Type 0} (meaning : Meaning) (Stands : A → List EntryValue → Type 0) (Replies : List EntryValue → List ℕ → Type 0) (old new : Option YardValue) (number : ℕ) (told : Option (List ℕ)) (status : Status) → FromYard meaning Stands old new number (Err status) → Concludes meaning Replies old new number told told status
concludes_unread meaning Stands Replies old new number told YardFault from = record { meant = YardFault; text = []; runs = refused from; written = inl (refl, appends_none told) }
concludes_unread meaning Stands Replies old new number told NoMemory from = record { meant = NoMemory; text = []; runs = starved from; written = inl (refl, appends_none told) }
concludes_unread meaning Stands Replies old new number told Done from = absurd from
concludes_unread meaning Stands Replies old new number told Stopped from = absurd from
concludes_unread meaning Stands Replies old new number told Usage from = absurd from
concludes_unread meaning Stands Replies old new number told ReadFault from = absurd from
concludes_unread meaning Stands Replies old new number told WriteFault from = absurd from
concludes_unread meaning Stands Replies old new number told Unwritable from = absurd from
concludes_unread meaning Stands Replies old new number told BadFile from = absurd from
concludes_unread meaning Stands Replies old new number told BadArchive from = absurd from
concludes_unread meaning Stands Replies old new number told DiskFault from = absurd from
concludes_unread meaning Stands Replies old new number told ArchiveFull from = absurd from

-- the words are a call
pub answers_called : (Serves : Meaning → ServeWords → Outcome → Type 0) (call : Call) (words : List (List ℕ)) (old new : Option YardValue) (number calls : ℕ) (told0 told1 : Option (List ℕ)) (status : Status) → IsCall call words → CallConcludes (Serves (meaning_of call.lenient)) call.command (file_in call.lenient words) (meaning_of call.lenient) old new number calls told0 told1 status
    → Answers Serves words old new number calls told0 told1 status
answers_called Serves call words old new number calls told0 told1 status is c = go call.command refl c
  where
    takes : (command : Command) → call.command ≡ command → TakesOneInput command → calls ≡ one_more number → Concludes (meaning_of call.lenient) (IsReplyTo command) old new number told0 told1 status → Answers Serves words old new number calls told0 told1 status
    takes command same one counted k = rw counted (replied_to k.meant k.text (called call k.meant k.text is (subst TakesOneInput (sym same) one) (subst (λ (m : Command). Runs (meaning_of call.lenient) (IsReplyTo m) old new number k.meant k.text) (sym same) k.runs)) k.written)

    go : (command : Command) → call.command ≡ command → CallConcludes (Serves (meaning_of call.lenient)) command (file_in call.lenient words) (meaning_of call.lenient) old new number calls told0 told1 status → Answers Serves words old new number calls told0 told1 status
    go (Replay ask) same (counted, k) = takes (Replay ask) same tt counted k
    go Check same (counted, k) = takes Check same tt counted k
    go Relay same (counted, k) = relayed_to call.lenient (subst (λ (m : Command). IsCall (record { command = m; lenient = call.lenient }) words) same is) counted k
    go (Rov prefix) same k =
        let named = rov_call prefix call.lenient words (subst (λ (m : Command). IsCall (record { command = m; lenient = call.lenient }) words) same is) in
        judged_by named.0 prefix call.lenient named.1 (subst (λ (path : List ℕ). RovConcludes (meaning_of call.lenient) path prefix old new number calls told0 told1 status) named.2 k)
    go Archive same k =
        let named = archive_call call.lenient words (subst (λ (m : Command). IsCall (record { command = m; lenient = call.lenient }) words) same is) in
        archived_to named.0 call.lenient named.1 (subst (λ (path : List ℕ). ArchiveConcludes (meaning_of call.lenient) path old new number calls told0 told1 status) named.2 k)
    go (Recall ask) same (counted, k) =
        let named = recall_call ask call.lenient words (subst (λ (m : Command). IsCall (record { command = m; lenient = call.lenient }) words) same is) in
        recalled_from named.0 ask call.lenient named.1 counted (subst (λ (path : List ℕ). RecallConcludes (meaning_of call.lenient) (IsReplyTo (Recall ask)) path old new number told0 told1 status) named.2 k)
    go (Serve serve) same (outcome, comes, ends) = served serve call.lenient outcome (subst (λ (m : Command). IsCall (record { command = m; lenient = call.lenient }) words) same is) comes ends
    go (Drill drill) same (still, uncalled, k) =
        let of_drill : IsCall (record { command = Drill drill; lenient = call.lenient }) words = subst (λ (m : Command). IsCall (record { command = m; lenient = call.lenient }) words) same is in
        drilled drill (subst (λ (b : Bool). IsCall (record { command = Drill drill; lenient = b }) words) of_drill.is_command.2 of_drill) still uncalled k
    go Help same (still, uncalled, k) = explained call help_text is (subst (λ (m : Command). Explains m help_text) (sym same) refl) still uncalled k
    go Version same (still, uncalled, k) = explained call version_line is (subst (λ (m : Command). Explains m version_line) (sym same) refl) still uncalled k

-- a fault of a station that served is answered exactly where one was counted
write_only : (o : Outcome) → status_served o ≡ WriteFault → o ≡ outcome.WriteFault
write_only outcome.Done is = absurd (cc is)
write_only outcome.NoMemory is = absurd (cc is)
write_only outcome.YardFault is = absurd (cc is)
write_only outcome.WriteFault is = refl

yard_only : (o : Outcome) → status_served o ≡ YardFault → o ≡ outcome.YardFault
yard_only outcome.Done is = absurd (cc is)
yard_only outcome.NoMemory is = absurd (cc is)
yard_only outcome.YardFault is = refl
yard_only outcome.WriteFault is = absurd (cc is)

pub ends_write : (before now : ℕ) (o : Outcome) (status : Status) → status ≡ status_served o → EndsFault before now o outcome.WriteFault → AnswersFault before now status WriteFault
ends_write before now o status is f = record { rose = λ same. f.rose (write_only o (sym is ∙ same)); calm = λ apart. f.calm (λ e. apart (is ∙ ap status_served e)) }

pub ends_yard : (before now : ℕ) (o : Outcome) (status : Status) → status ≡ status_served o → EndsFault before now o outcome.YardFault → AnswersFault before now status YardFault
ends_yard before now o status is f = record { rose = λ same. f.rose (yard_only o (sym is ∙ same)); calm = λ apart. f.calm (λ e. apart (is ∙ ap status_served e)) }
