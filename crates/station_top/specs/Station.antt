-- The top call: what it writes, what its status says, and what it asks of the yard.
use Rattle.std.specs.Prelude.{◌≡◌, ◌≢◌, ℕ, Bool, false, ◌⊎◌, List, [], ◌∷◌, ◌++◌, Option, Some, None, Contains, Result, Ok, Err, codes, length}
use Rattle.std.specs.Io.KnownBytes.{Appends}
use Rattle.ask_specs.specs.Asking.{plain}
use Rattle.ask_specs.specs.AskReply.{IsAskReply}
use Rattle.bmp_specs.specs.declared.causes.Cause.{Cause}
use Rattle.bmp_specs.specs.Check.{check_lines}
use Rattle.bmp_specs.specs.Lines.{line, number_line, stop_line, usage_line}
use Rattle.bmp_specs.specs.LenientBody.{meaning_of}
use Rattle.bmp_specs.specs.Life.{IsReadNoFurther, Given, HasCome}
use Rattle.bmp_specs.specs.Meaning.{Meaning}
use Rattle.bmp_specs.specs.Query.{quit}
use Rattle.bmp_specs.specs.Session.{session_effects}
use Rattle.bmp_specs.specs.Openings.{nothing_told}
use Rattle.bmp_specs.specs.Values.{EffectValue, EntryValue, PrefixValue, opened}
use Rattle.relay_out.specs.Messages.{IsRelayStream, stream_items}
use Rattle.relay_out.specs.Relayed.{ReadsBack}
use Rattle.relay_out.specs.Told.{IsTold, StreamValue}
use Rattle.relay_out.specs.Writable.{AreWritable}
use Rattle.relay_out.specs.Writing.{IsFront}
use Rattle.wire_io.specs.Aside.{Aside, Plan}
use Rattle.wire_io.specs.Faults.{Rose}
use Rattle.query_lang.specs.declared.ask.Ask.{Ask}
use Rattle.query_lang.specs.Asks.{ask_value}
use Rattle.rov_reply.specs.RovLines.{IsRovReply}
use Rattle.rov_table.specs.declared.vrp.Vrp.{Vrp}
use Rattle.rov_table.specs.VrpFile.{AreVrps, IsFirstBad, file_records}
use Rattle.station_doors.specs.Doors.{YardSeen, YardValue, one_more}
use Rattle.station_doors.specs.Files.{GivesFile}
use Rattle.station_doors.specs.declared.files.FileFault.{FileFault}
use Rattle.station_doors.specs.declared.files.FileFault.TheVariants as fault
use Rattle.station_run.specs.declared.outcome.Outcome.{Outcome}
use Rattle.station_words.specs.Explain.{help_text, version_line}
use Rattle.station_words.specs.DrillWords.{MayDrill}
use Rattle.station_words.specs.ServeWords.{MayServe}
use Rattle.station_words.specs.Words.{IsArchiveCall, IsCall, IsRecallCall, IsRovCall, TakeMemory}
use Rattle.station_words.specs.declared.drill_words.DrillWords.{DrillWords}
use Rattle.station_words.specs.declared.serve_words.ServeWords.{ServeWords}
use Rattle.station_words.specs.declared.words.Call.{Call}
use Rattle.station_words.specs.declared.words.Command.{Command}
use Rattle.station_words.specs.declared.words.Command.TheVariants.{Replay, Check, Serve, Drill, Relay, Rov, Archive, Recall, Help, Version}
use Rattle.station_top.specs.ArchiveRuns.{ArchiveConcludes}
use Rattle.station_top.specs.RecallRuns.{RecallConcludes}
use Rattle.station_top.specs.Drill.{IsDrillText}
use Rattle.station_top.specs.Take.{BreaksOff, Comes}
use Rattle.station_top.specs.Status.{status_of, status_served}
use Rattle.station_top.specs.Written.{IsWritten}
use Rattle.station_top.specs.declared.status.Status.{Status}
use Rattle.station_top.specs.declared.status.Status.TheVariants.{Done, Stopped, Usage, ReadFault, WriteFault, NoMemory, YardFault, Unwritable, BadFile, BadArchive, DiskFault, ArchiveFull}
use Rattle.station_top.specs.declared.take.Taken.{Taken}

-- the bytes are the reply of a command on these entries
abbrev pub IsReplyTo : Command → List EntryValue → List ℕ → Type 0
IsReplyTo (Replay ask) entries bytes = IsAskReply (ask_value ask) (entries ∷ []) bytes
IsReplyTo Check entries bytes = bytes ≡ check_lines entries
IsReplyTo (Serve serve) entries bytes = ⊥
IsReplyTo (Drill drill) entries bytes = ⊥
IsReplyTo Relay entries bytes = ⊥
IsReplyTo (Rov prefix) entries bytes = ⊥
IsReplyTo Archive entries bytes = ⊥
IsReplyTo (Recall ask) entries bytes = IsAskReply (ask_value ask) (entries ∷ []) bytes
IsReplyTo Help entries bytes = ⊥
IsReplyTo Version entries bytes = ⊥

-- the text is the one that the command asks for
abbrev pub Explains : Command → List ℕ → Type 0
Explains (Replay ask) text = ⊥
Explains Check text = ⊥
Explains (Serve serve) text = ⊥
Explains (Drill drill) text = ⊥
Explains Relay text = ⊥
Explains (Rov prefix) text = ⊥
Explains Archive text = ⊥
Explains (Recall ask) text = ⊥
Explains Help text = text ≡ help_text
Explains Version text = text ≡ version_line

-- the command is asked with something that has a reply, or with numbers that a station takes
abbrev pub MayAsk : Command → Type 0
MayAsk (Replay ask) = ask_value ask ≢ plain quit
MayAsk Check = Unit {0}
MayAsk (Serve serve) = MayServe serve
MayAsk (Drill drill) = MayDrill drill
MayAsk Relay = Unit {0}
MayAsk (Rov prefix) = Unit {0}
MayAsk Archive = Unit {0}
MayAsk (Recall ask) = ask_value ask ≢ plain quit
MayAsk Help = Unit {0}
MayAsk Version = Unit {0}

-- the command takes the one input connection and answers with lines that its words alone ask for; `relay`, `rov` and `archive`
-- take it too, and have relations of their own, as `recall` has, which takes none
abbrev pub TakesOneInput : Command → Type 0
TakesOneInput (Replay ask) = Unit {0}
TakesOneInput Check = Unit {0}
TakesOneInput (Serve serve) = ⊥
TakesOneInput (Drill drill) = ⊥
TakesOneInput Relay = ⊥
TakesOneInput (Rov prefix) = ⊥
TakesOneInput Archive = ⊥
TakesOneInput (Recall ask) = ⊥
TakesOneInput Help = ⊥
TakesOneInput Version = ⊥

-- the command serves routers and clients
abbrev pub IsServing : Command → Type 0
IsServing (Replay ask) = ⊥
IsServing Check = ⊥
IsServing (Serve serve) = Unit {0}
IsServing (Drill drill) = ⊥
IsServing Relay = ⊥
IsServing (Rov prefix) = ⊥
IsServing Archive = ⊥
IsServing (Recall ask) = ⊥
IsServing Help = ⊥
IsServing Version = ⊥

-- the yard wasn't asked to listen, and took no ending
pub record ServesNobody {Ending : Type 0} (old new : YardSeen Ending) : Type 0 where
  pub listened : new.listened ≡ old.listened
  pub endings : new.endings ≡ old.endings
  pub ending : new.last_ending ≡ old.last_ending

-- the bytes are a reply, and then the line of the cause
abbrev pub IsStopped : (List ℕ → Type 0) → Cause → List ℕ → Type 0
IsStopped IsReply cause bytes = (reply : List ℕ) × IsReply reply × (bytes ≡ reply ++ stop_line cause)

-- The yard, whose plan doesn't fail the call of this number, handed out the first port that waits under the number 0,
-- and took it back: what it showed then stands in this relation to its plan.
pub record Lends (Is : Plan → Aside → Type 0) (old : YardValue) (new : Option YardValue) (number : ℕ) : Type 0 where
  pub planned : Contains old.fails number → ⊥
  pub plan : Plan
  pub waiting : List Plan
  pub shows : Aside
  pub first : old.ports ≡ plan ∷ waiting
  pub given_back : new ≡ Some (record old { ports = waiting; back = old.back ++ record { lane = 0; shows = shows } ∷ [] })
  pub is : Is plan shows

-- the same of a yard that tells
abbrev pub LendsWhereTold : (Plan → Aside → Type 0) → Option YardValue → Option YardValue → ℕ → Type 0
LendsWhereTold Is None new number = new ≡ None
LendsWhereTold Is (Some old) new number = Lends Is old new number

-- the yard refused the port: its plan fails the call of this number, or it has nothing to hand out
abbrev pub Refuses : Option YardValue → Option YardValue → ℕ → Type 0
Refuses None new number = new ≡ None
Refuses (Some old) new number = (Contains old.fails number ⊎ (old.ports ≡ [])) × (new ≡ Some old)

-- What a command comes to by the yard, before anything is written: the status that is meant, and the text. Replies says
-- which bytes are its reply on some entries.
pub data Runs (meaning : Meaning) (Replies : List EntryValue → List ℕ → Type 0) (old new : Option YardValue) (number : ℕ) : Status → List ℕ → Type 0 where
  -- the yard refused the port: nothing is written
  refused : Refuses old new number → Runs meaning Replies old new number YardFault []
  -- the input was taken, and no further than its walk goes: the reply on its opening and its messages, then the stop
  -- line, and the port is given back
  replied : (input : Given) (messages : List EntryValue) (cause : Cause) (reply : List ℕ) → HasCome meaning input messages cause → IsReadNoFurther meaning input.bytes → Replies (opened nothing_told ∷ messages) reply
      → LendsWhereTold (λ plan shows. Comes meaning plan shows input messages cause) old new number → Runs meaning Replies old new number (status_of cause) (reply ++ stop_line cause)
  -- out of memory while the input was taken: nothing is written, and the port is given back, with what it gave until
  -- then
  starved : LendsWhereTold (BreaksOff meaning) old new number → Runs meaning Replies old new number NoMemory []
  -- out of memory once the input was taken: nothing is written, and the port is given back
  unready : (input : Given) (messages : List EntryValue) (cause : Cause) → HasCome meaning input messages cause → IsReadNoFurther meaning input.bytes
      → LendsWhereTold (λ plan shows. Comes meaning plan shows input messages cause) old new number → Runs meaning Replies old new number NoMemory []

-- What a relay of what these effects left wrote, by its status. The stream that left it stopped for this cause.
pub data Relayed (effects : List EffectValue) (cause : Cause) (told0 told1 : Option (List ℕ)) : Status → Type 0 where
  -- the whole stream, which is read back, and nothing after it
  wrote : AreWritable effects → (bytes : List ℕ) → IsRelayStream effects bytes → ReadsBack effects bytes → Appends told0 told1 bytes → Relayed effects cause told0 told1 (status_of cause)
  -- nothing: it can't be relayed
  unwritable : ¬ (AreWritable effects) → told1 ≡ told0 → Relayed effects cause told0 told1 Unwritable
  -- a front of the stream: a write failed
  cut : AreWritable effects → (stream : StreamValue) (written : List ℕ) → IsTold effects stream → IsFront (stream_items stream) written → Appends told0 told1 written → Relayed effects cause told0 told1 WriteFault
  -- a front of the stream's first messages, or nothing: there was no memory. Where it can't be relayed, nothing
  broken_off : AreWritable effects ⊎ (told1 ≡ told0) → (stream : StreamValue) (written : List ℕ) → IsTold effects stream → IsFront (stream_items stream) written → Appends told0 told1 written → Relayed effects cause told0 told1 NoMemory

-- what `relay` comes to by the yard, and what it wrote, by its status
pub data RelayConcludes (meaning : Meaning) (old new : Option YardValue) (number : ℕ) (told0 told1 : Option (List ℕ)) : Status → Type 0 where
  -- the yard refused the port: nothing is written
  unlent : Refuses old new number → told1 ≡ told0 → RelayConcludes meaning old new number told0 told1 YardFault
  -- out of memory while the input was taken: nothing is written
  untaken : LendsWhereTold (BreaksOff meaning) old new number → told1 ≡ told0 → RelayConcludes meaning old new number told0 told1 NoMemory
  -- out of memory once it was taken: nothing is written
  unsettled : (input : Given) (messages : List EntryValue) (cause : Cause) → HasCome meaning input messages cause → IsReadNoFurther meaning input.bytes
      → LendsWhereTold (λ plan shows. Comes meaning plan shows input messages cause) old new number → told1 ≡ told0 → RelayConcludes meaning old new number told0 told1 NoMemory
  -- the input was taken, and what its opening and its messages left is relayed
  relayed : (input : Given) (messages : List EntryValue) (cause : Cause) (status : Status) → HasCome meaning input messages cause → IsReadNoFurther meaning input.bytes
      → LendsWhereTold (λ plan shows. Comes meaning plan shows input messages cause) old new number → Relayed (session_effects (opened nothing_told ∷ messages)) cause told0 told1 status → RelayConcludes meaning old new number told0 told1 status

-- What a call comes to by its words and the yard, before anything is written: how many calls of the yard were made
-- then, the status that is meant, and the text. Bodies mean what the call's reading says.
pub data Means (words : List (List ℕ)) (old new : Option YardValue) (number : ℕ) : ℕ → Status → List ℕ → Type 0 where
  -- the words are no command: the usage line, and the yard is asked for nothing
  usage : ((call : Call) → IsCall call words → ⊥) → new ≡ old → Means words old new number number Usage usage_line
  -- out of memory while the words were read: nothing is written, and the yard is asked for nothing
  unread : TakeMemory words → new ≡ old → Means words old new number number NoMemory []
  -- they are this call, which takes the one input connection
  called : (call : Call) (status : Status) (text : List ℕ) → IsCall call words → TakesOneInput call.command → Runs (meaning_of call.lenient) (IsReplyTo call.command) old new number status text → Means words old new number (one_more number) status text

-- what a command answers, and what it wrote
pub record Concludes (meaning : Meaning) (Replies : List EntryValue → List ℕ → Type 0) (old new : Option YardValue) (number : ℕ) (told0 told1 : Option (List ℕ)) (status : Status) : Type 0 where
  pub meant : Status
  pub text : List ℕ
  pub runs : Runs meaning Replies old new number meant text
  pub written : IsWritten told0 told1 text meant status

-- the line of a file whose record of this number is no VRP
abbrev pub badfile_line : ℕ → List ℕ
badfile_line number = number_line (codes "badfile") number

-- the line of a file that is too long
abbrev pub longfile_line : List ℕ
longfile_line = line (codes "longfile") []

-- What `rov` comes to: by the file of this path, which is asked for first, and then by the input; and what it wrote, by its
-- status. Where no port is asked for, so many calls of the yard are made, and the yard is left as it was.
pub data RovConcludes (meaning : Meaning) (path : List ℕ) (prefix : PrefixValue) (old new : Option YardValue) (number calls : ℕ) (told0 told1 : Option (List ℕ)) (status : Status) : Type 0 where
  -- the yard gave no file: nothing is written
  no_file : GivesFile path number old new (Err fault.Failed) → calls ≡ one_more number → told1 ≡ told0 → status ≡ YardFault → RovConcludes meaning path prefix old new number calls told0 told1 status
  -- out of memory while the file was taken, or its VRPs were read: nothing is written
  file_starved : (given : Result (List ℕ) FileFault) → GivesFile path number old new given → calls ≡ one_more number → told1 ≡ told0 → status ≡ NoMemory → RovConcludes meaning path prefix old new number calls told0 told1 status
  -- the file is too long: the line that says so, and nothing else
  long_file : GivesFile path number old new (Err fault.TooLong) → calls ≡ one_more number → IsWritten told0 told1 longfile_line BadFile status → RovConcludes meaning path prefix old new number calls told0 told1 status
  -- a record of the file is no VRP: the line with the number of the first such record, and nothing else
  bad_file : (bytes : List ℕ) (place : ℕ) → GivesFile path number old new (Ok bytes) → IsFirstBad (file_records bytes) place → calls ≡ one_more number → IsWritten told0 told1 (badfile_line place) BadFile status → RovConcludes meaning path prefix old new number calls told0 told1 status
  -- the file has these VRPs, and the input is taken: the line of each row within the prefix, judged by them
  judged : (bytes : List ℕ) (vrps : List Vrp) (mid : Option YardValue) → GivesFile path number old mid (Ok bytes) → AreVrps (file_records bytes) vrps → calls ≡ one_more (one_more number)
      → Concludes meaning (IsRovReply vrps prefix) mid new (one_more number) told0 told1 status → RovConcludes meaning path prefix old new number calls told0 told1 status

-- what a drill comes to, before anything is written: the status that is meant, and the text
pub data DrillMeans (drill : DrillWords) : Status → List ℕ → Type 0 where
  -- the replies on what the lanes make of their streams
  drilled_whole : (text : List ℕ) → IsDrillText drill.seed drill.lanes drill.messages text → DrillMeans drill Done text
  -- out of memory: nothing is written
  drill_starved : DrillMeans drill NoMemory []

-- what a drill answers, and what it wrote
pub record DrillConcludes (drill : DrillWords) (told0 told1 : Option (List ℕ)) (status : Status) : Type 0 where
  pub meant : Status
  pub text : List ℕ
  pub means : DrillMeans drill meant text
  pub written : IsWritten told0 told1 text meant status

-- What a command answers, and what it wrote: one that takes the one input connection makes one call of the yard, and `rov`
-- one more before it, for the file, as `archive` does for the disk; `recall` makes one, for the disk; of `serve` the relation
-- says all; `drill` asks the yard for nothing.
abbrev pub CallConcludes : (ServeWords → Outcome → Type 0) → Command → List ℕ → Meaning → Option YardValue → Option YardValue → ℕ → ℕ → Option (List ℕ) → Option (List ℕ) → Status → Type 0
CallConcludes Serves (Replay ask) file meaning old new number calls told0 told1 status = (calls ≡ one_more number) × Concludes meaning (IsReplyTo (Replay ask)) old new number told0 told1 status
CallConcludes Serves Check file meaning old new number calls told0 told1 status = (calls ≡ one_more number) × Concludes meaning (IsReplyTo Check) old new number told0 told1 status
CallConcludes Serves (Serve serve) file meaning old new number calls told0 told1 status = (outcome : Outcome) × Serves serve outcome × (status ≡ status_served outcome)
CallConcludes Serves (Drill drill) file meaning old new number calls told0 told1 status = (new ≡ old) × (calls ≡ number) × DrillConcludes drill told0 told1 status
CallConcludes Serves Relay file meaning old new number calls told0 told1 status = (calls ≡ one_more number) × RelayConcludes meaning old new number told0 told1 status
CallConcludes Serves (Rov prefix) file meaning old new number calls told0 told1 status = RovConcludes meaning file prefix old new number calls told0 told1 status
CallConcludes Serves Archive file meaning old new number calls told0 told1 status = ArchiveConcludes meaning file old new number calls told0 told1 status
CallConcludes Serves (Recall ask) file meaning old new number calls told0 told1 status = (calls ≡ one_more number) × RecallConcludes meaning (IsReplyTo (Recall ask)) file old new number told0 told1 status
CallConcludes Serves Help file meaning old new number calls told0 told1 status = (new ≡ old) × (calls ≡ number) × IsWritten told0 told1 help_text Done status
CallConcludes Serves Version file meaning old new number calls told0 told1 status = (new ≡ old) × (calls ≡ number) × IsWritten told0 told1 version_line Done status

-- what a call answers, and what it wrote
pub data Answers (Serves : Meaning → ServeWords → Outcome → Type 0) (words : List (List ℕ)) (old new : Option YardValue) (number calls : ℕ) (told0 told1 : Option (List ℕ)) (status : Status) : Type 0 where
  -- the words are a call that takes the one input connection, or none
  replied_to : (meant : Status) (text : List ℕ) → Means words old new number calls meant text → IsWritten told0 told1 text meant status → Answers Serves words old new number calls told0 told1 status
  -- they are a call of `serve`, whose relation says what was written and what became of the yard
  served : (serve : ServeWords) (lenient : Bool) (outcome : Outcome) → IsCall (record { command = Serve serve; lenient = lenient }) words → Serves (meaning_of lenient) serve outcome → status ≡ status_served outcome → Answers Serves words old new number calls told0 told1 status
  -- they are a call of `drill`, and the yard is asked for nothing
  drilled : (drill : DrillWords) → IsCall (record { command = Drill drill; lenient = false }) words → new ≡ old → calls ≡ number → DrillConcludes drill told0 told1 status → Answers Serves words old new number calls told0 told1 status
  -- they are a call of `relay`, which takes the one input connection
  relayed_to : (lenient : Bool) → IsCall (record { command = Relay; lenient = lenient }) words → calls ≡ one_more number → RelayConcludes (meaning_of lenient) old new number told0 told1 status → Answers Serves words old new number calls told0 told1 status
  -- they are a call of `rov`: the file that is asked for is the one that they name
  judged_by : (file : List ℕ) (prefix : PrefixValue) (lenient : Bool) → IsRovCall file prefix lenient words → RovConcludes (meaning_of lenient) file prefix old new number calls told0 told1 status → Answers Serves words old new number calls told0 told1 status
  -- they are a call of `archive`: the disk that is asked for is the one that they name
  archived_to : (file : List ℕ) (lenient : Bool) → IsArchiveCall file lenient words → ArchiveConcludes (meaning_of lenient) file old new number calls told0 told1 status → Answers Serves words old new number calls told0 told1 status
  -- they are a call of `recall`: the disk that is asked for is the one that they name, and no port is
  recalled_from : (file : List ℕ) (ask : Ask) (lenient : Bool) → IsRecallCall file (ask_value ask) lenient words → calls ≡ one_more number → RecallConcludes (meaning_of lenient) (IsReplyTo (Recall ask)) file old new number told0 told1 status → Answers Serves words old new number calls told0 told1 status
  -- they ask for the help text or the version, and the yard is asked for nothing
  explained : (call : Call) (text : List ℕ) → IsCall call words → Explains call.command text → new ≡ old → calls ≡ number → IsWritten told0 told1 text Done status → Answers Serves words old new number calls told0 told1 status

-- the status is this one exactly where the count rose, by the one fault that ended the call
pub record AnswersFault (before now : ℕ) (status fault : Status) : Type 0 where
  pub rose : status ≡ fault → Rose before now
  pub calm : status ≢ fault → now ≡ before

-- What the yard and its port came to: how the input was taken, with what the account then stands for, or the status
-- that says why it was not.
pub record IsTaken (meaning : Meaning) (Stands : List EntryValue → Type 0) (old new : Option YardValue) (number : ℕ) (taken : Taken) : Type 0 where
  pub input : Given
  pub messages : List EntryValue
  pub come : HasCome meaning input messages taken.cause
  pub noted : Stands (opened nothing_told ∷ messages)
  pub count : taken.revision ≡ length (opened nothing_told ∷ messages)
  pub no_further : IsReadNoFurther meaning input.bytes
  pub lends : LendsWhereTold (λ plan shows. Comes meaning plan shows input messages taken.cause) old new number

abbrev pub FromYard : {A : Type 0} → Meaning → (A → List EntryValue → Type 0) → Option YardValue → Option YardValue → ℕ → Result (A × Taken) Status → Type 0
FromYard meaning Stands old new number (Ok (account, taken)) = IsTaken meaning (Stands account) old new number taken
FromYard meaning Stands old new number (Err YardFault) = Refuses old new number
FromYard meaning Stands old new number (Err NoMemory) = LendsWhereTold (BreaksOff meaning) old new number
FromYard meaning Stands old new number (Err Done) = ⊥
FromYard meaning Stands old new number (Err Stopped) = ⊥
FromYard meaning Stands old new number (Err Usage) = ⊥
FromYard meaning Stands old new number (Err ReadFault) = ⊥
FromYard meaning Stands old new number (Err WriteFault) = ⊥
FromYard meaning Stands old new number (Err Unwritable) = ⊥
FromYard meaning Stands old new number (Err BadFile) = ⊥
FromYard meaning Stands old new number (Err BadArchive) = ⊥
FromYard meaning Stands old new number (Err DiskFault) = ⊥
FromYard meaning Stands old new number (Err ArchiveFull) = ⊥
