-- A whole run of a station: what it asks of the yard, what it serves, what it gives back and what it writes.
use Rattle.std.specs.Prelude.{◌≡◌, ℕ, ◌+◌, List, [], ◌++◌, length, map, codes, Option, Some}
use Rattle.std.specs.Io.KnownBytes.{Appends, Keeps}
use Rattle.bmp_specs.specs.Lines.{line, number_line}
use Rattle.bmp_specs.specs.Meaning.{Meaning}
use Rattle.cut_publisher.specs.History.{Asker, Fed, Site}
use Rattle.rib_model.specs.declared.entry.Entry.{Entry}
use Rattle.router_tables.specs.Tables.{TablesValue}
use Rattle.wire_io.specs.Faults.{Rose}
use Rattle.wire_io.specs.Writes.{AppendsFront}
use Rattle.station_doors.specs.Doors.{YardSeen, Returned, ReturnedLink, KeepsEnding, one_more}
use Rattle.station_doors.specs.declared.listening.Listening.{Listening}
use Rattle.station_run.specs.Handed.{ComeBack, Refuses, call_after, numbered, numbered_links}
use Rattle.station_run.specs.Pairing.{outcome_of}
use Rattle.station_run.specs.Served.{AskRun, AsksServe, IsServed, LaneRun, LanesServe, end_of, first_link_of, first_of, last_link_of, last_of}
use Rattle.station_run.specs.declared.outcome.Outcome.{Outcome}
use Rattle.station_run.specs.declared.outcome.Outcome.TheVariants.{NoMemory, YardFault, WriteFault}

-- what is written once every port and every link stands
abbrev pub ready_line : List ℕ
ready_line = line (codes "ready") []

-- what is written at the end: the revision of the history
abbrev pub done_line : ℕ → List ℕ
done_line rev = number_line (codes "done") rev

-- it took no ending
pub record TakesNone {E : Type 0} (old new : YardSeen E) : Type 0 where
  pub endings : new.endings ≡ old.endings
  pub last : new.last_ending ≡ old.last_ending

-- it took this ending, and tells it where it tells anything
pub record Takes {E : Type 0} (old new : YardSeen E) (ending : E) : Type 0 where
  pub endings : new.endings ≡ one_more old.endings
  pub last : KeepsEnding new.told ending new.last_ending

-- It was asked to listen, for all ports and for all links, and handed all out, which showed this; all came back, and showed
-- that then.
pub record GivesAllBack {E : Type 0} (at : Listening) (old new : YardSeen E) (ports back : List Returned) (links links_back : List ReturnedLink) : Type 0 where
  pub listened : new.listened ≡ Some at
  pub calls : new.calls ≡ call_after old.calls (1 + (at.feeds + at.askers))
  pub ports_count : length ports ≡ at.feeds
  pub links_count : length links ≡ at.askers
  pub told : ComeBack old.told new.told old.calls (1 + (at.feeds + at.askers)) ports back links links_back

-- All was served: what each lane and each asker came to, and that every port and link came back. What their passes have
-- seen of one another's entries isn't said.
pub record ServesAll {E : Type 0} (meaning : Meaning) (at : Listening) (rounds : ℕ) (old new : YardSeen E) : Type 0 where
  pub site : Site
  pub wide : site.lanes ≡ at.feeds
  pub runs : List LaneRun
  pub ask_runs : List AskRun
  pub lanes : LanesServe meaning rounds site 0 runs
  pub askers : AsksServe rounds site ask_runs
  pub back : GivesAllBack at old new (numbered first_of 0 runs) (numbered last_of 0 runs) (numbered_links first_link_of 0 ask_runs) (numbered_links last_link_of 0 ask_runs)

-- all was served, and the end of the history was shown to all: what each lane and each asker came to, and the ending
pub record Ends {E : Type 0} (Shows : E → List (TablesValue × ℕ) → List (Fed Entry) → List (Asker Entry) → Type 0) (meaning : Meaning) (at : Listening) (rounds : ℕ) (old new : YardSeen E) (outcome : Outcome) (rev : ℕ) : Type 0 where
  pub runs : List LaneRun
  pub ask_runs : List AskRun
  pub cut : List (TablesValue × ℕ)
  pub feeds : List (Fed Entry)
  pub asks : List (Asker Entry)
  pub back : GivesAllBack at old new (numbered first_of 0 runs) (numbered last_of 0 runs) (numbered_links first_link_of 0 ask_runs) (numbered_links last_link_of 0 ask_runs)
  pub served : IsServed meaning rounds at.feeds at.askers runs ask_runs cut feeds asks rev
  pub ending : E
  pub shows : Shows ending cut feeds asks
  pub takes : Takes old new ending
  pub outcome_is : outcome ≡ outcome_of (map end_of runs)

-- the first text was written whole, and of the second one a front
pub record AppendsPast (old : Option (List ℕ)) (first text : List ℕ) (new : Option (List ℕ)) : Type 0 where
  pub front : List ℕ
  pub back : List ℕ
  pub parts : text ≡ front ++ back
  pub grown : Appends old new (first ++ front)

-- What a run comes to, by its outcome: what the yard sees of it, and what is written.
pub data Comes {E : Type 0} (Shows : E → List (TablesValue × ℕ) → List (Fed Entry) → List (Asker Entry) → Type 0) (meaning : Meaning) (at : Listening) (rounds : ℕ) (old new : YardSeen E) (told told' : Option (List ℕ)) (outcome : Outcome) : Type 0 where
  -- out of memory before anything was asked of the yard
  starved : outcome ≡ NoMemory → new ≡ old → Keeps told told' → Comes Shows meaning at rounds old new told told' outcome
  -- the yard refused a call, and all that it had handed out came back
  refused : (before : ℕ) → outcome ≡ YardFault → Refuses at old.told new.told old.calls before → new.calls ≡ call_after old.calls (before + 1) → new.listened ≡ Some at → TakesNone old new → Keeps told told'
      → Comes Shows meaning at rounds old new told told' outcome
  -- `ready` couldn't be written: nothing was served, and all came back as it was
  unready : (ports : List Returned) (links : List ReturnedLink) → outcome ≡ WriteFault → GivesAllBack at old new ports ports links links → TakesNone old new → AppendsFront told ready_line told'
      → Comes Shows meaning at rounds old new told told' outcome
  -- out of memory once all had been served, so that the history wasn't ended
  unfinished : outcome ≡ NoMemory → ServesAll meaning at rounds old new → TakesNone old new → Appends told told' ready_line → Comes Shows meaning at rounds old new told told' outcome
  -- all was served; a lane may have ended out of memory
  finished : (rev : ℕ) → Ends Shows meaning at rounds old new outcome rev → Appends told told' (ready_line ++ done_line rev) → Comes Shows meaning at rounds old new told told' outcome
  -- the same, and the last line couldn't be written
  undone : (rev : ℕ) (meant : Outcome) → outcome ≡ WriteFault → Ends Shows meaning at rounds old new meant rev → AppendsPast told ready_line (done_line rev) told' → Comes Shows meaning at rounds old new told told' outcome

-- the outcome is this one exactly where the count rose, by the one fault that ended the call
pub record AnswersFault (before now : ℕ) (outcome fault : Outcome) : Type 0 where
  pub rose : outcome ≡ fault → Rose before now
  pub calm : (outcome ≡ fault → ⊥) → now ≡ before
