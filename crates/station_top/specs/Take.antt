-- What taking a connection does to a port.
use Rattle.std.specs.Prelude.{◌≡◌, ◌↔◌, IsTrue, Bool, true, false, ℕ, ◌<◌, ◌≤◌, ◌++◌, ◌⊎◌, List, [], ◌∷◌, Option, Some, None, IfSome, length, take, drop}
use Rattle.std.specs.Io.KnownBytes.{Consumes, IsAtEnd}
use Rattle.bmp_specs.specs.declared.causes.Cause.{Cause}
use Rattle.bmp_specs.specs.declared.causes.Cause.TheVariants.{Ended, Terminated, CutShort, Broken, ReadFault, Full}
use Rattle.bmp_specs.specs.Life.{LastRead, gave, gave_none, failed, most_taken, IsReadNoFurther, Given, HasCome}
use Rattle.bmp_specs.specs.Meaning.{Meaning}
use Rattle.bmp_specs.specs.Openings.{nothing_told}
use Rattle.bmp_specs.specs.Values.{EntryValue, opened}
use Rattle.wire_io.specs.Aside.{Aside, Plan}
use Rattle.wire_io.specs.Faults.{Rose}
use Rattle.station_doors.specs.Doors.{one_more, untouched, GivesMore, CountsLast}
use Rattle.station_doors.specs.Planned.{first_of, Gives, GoesAsPlanned, ReadsAsPlanned, GaveBefore, last_of_reads}
use Rattle.station_top.specs.Input.{input_of}
use Rattle.station_top.specs.declared.take.Taken.{Taken}

-- the present connection is open, and no byte of it was given yet
pub record IsNew (a : Aside) : Type 0 where
  pub is_open : IsTrue a.is_open
  pub none : a.taken ≡ 0
  pub fresh : GivesMore a.given a.given [] gave

-- the bytes decide the cause, whatever would come after them
abbrev pub IsEarly : Cause → Type 0
IsEarly Terminated = Unit {0}
IsEarly (Broken offset why) = Unit {0}
IsEarly Ended = ⊥
IsEarly (CutShort offset) = ⊥
IsEarly (ReadFault offset) = ⊥
IsEarly Full = ⊥

-- Since then reads were made, the last first, where that is kept: each but the last gave bytes, and the last went so.
abbrev pub ReadsOn : Option (List LastRead) → Option (List LastRead) → LastRead → Type 0
ReadsOn None new last = new ≡ None
ReadsOn (Some old) new last = (went : List LastRead) × GaveBefore went × (last_of_reads went ≡ last) × (new ≡ Some (went ++ old))

-- The present connection gave these bytes, its last read went so, and it was read no further than its walk goes. Before
-- and after, the reads of the port had gone so, where it keeps that.
pub record TakesBytes (meaning : Meaning) (old new : Aside) (went0 went1 : Option (List LastRead)) (calls : ℕ) (bytes : List ℕ) (last : LastRead) : Type 0 where
  pub plan : new.plan ≡ old.plan
  pub coming : new.coming ≡ old.coming
  pub rest : Consumes old.rest new.rest bytes
  pub given : GivesMore old.given new.given bytes last
  pub opened : new.opened ≡ old.opened
  pub closed : new.closed ≡ old.closed
  pub refused : new.refused ≡ old.refused
  pub within : length bytes ≤ most_taken
  pub no_further : IsReadNoFurther meaning bytes
  pub end : last ≡ gave_none → IsAtEnd new.rest
  pub planned : calls ≡ 0 → IfSome old.plan (λ plan. ReadsAsPlanned plan bytes last)
  pub open_faults : new.open_faults ≡ old.open_faults
  pub read_faults : CountsLast old.read_faults new.read_faults last
  pub went : ReadsOn went0 went1 last

-- the present connection was taken to its end, and the account stands for its opening and its messages
pub record Takes (meaning : Meaning) (Stands : List EntryValue → Type 0) (old new : Aside) (went0 went1 : Option (List LastRead)) (calls : ℕ) (taken : Taken) : Type 0 where
  pub bytes : List ℕ
  pub last : LastRead
  pub messages : List EntryValue
  pub took : TakesBytes meaning old new went0 went1 calls bytes last
  pub come : HasCome meaning (record { bytes = bytes; last = last }) messages taken.cause
  pub noted : Stands (opened nothing_told ∷ messages)
  pub count : taken.revision ≡ length (opened nothing_told ∷ messages)
  pub size : taken.bytes ≡ length bytes
  pub early : IsEarly taken.cause → (after : List ℕ) (at : LastRead) → length (bytes ++ after) ≤ most_taken → HasCome meaning (record { bytes = bytes ++ after; last = at }) messages taken.cause

-- What a port with this plan shows after its one input connection was taken. What it gave is a front of the plan's
-- first connection, and is the whole of it where it ended. Where the plan doesn't fail, the messages and the cause
-- follow from that connection alone: they are those of its first 2^46 bytes, and then its end. So many reads gave
-- these bytes; a failed read is the one after them, and the first that the plan fails. A fault of an opening is
-- counted exactly where no connection was given, nor was it answered that there is none; a fault of a read, exactly
-- where one of its reads failed. The connection that was given was closed once, and after its last read, since a port
-- is read only while its connection is open. It was answered that there is none only where the plan has none.
pub record Comes (meaning : Meaning) (plan : Plan) (shows : Aside) (input : Given) (messages : List EntryValue) (cause : Cause) : Type 0 where
  pub shown : shows.plan ≡ Some plan
  pub given : List Given
  pub given_is : shows.given ≡ Some given
  pub one : length given ≤ 1
  pub some : length given ≤ length plan.connections
  pub coming : shows.coming ≡ Some (drop (length given) plan.connections)
  pub opened : shows.opened ≡ length given
  pub closed : shows.closed ≡ length given
  pub is_closed : shows.is_open ≡ false
  pub asked : 0 < length given → shows.refused ≡ false
  pub none : IsTrue shows.refused → plan.connections ≡ []
  pub input_is : input ≡ input_of given shows.refused
  pub rest : List ℕ
  pub front : first_of plan.connections ≡ input.bytes ++ rest
  pub whole : input.last ≡ gave_none → rest ≡ []
  pub steady : plan.fails ≡ [] → HasCome meaning (record { bytes = take most_taken (first_of plan.connections); last = gave_none }) messages cause
  pub reads : ℕ
  pub gives : Gives plan reads input.bytes
  pub next : 0 < length given → GoesAsPlanned plan reads input.last
  pub opening : ((given ≡ []) × (shows.refused ≡ false)) ↔ 0 < shows.open_faults
  pub reading : ((0 < length given) × (input.last ≡ failed)) ↔ 0 < shows.read_faults

-- Of the plan's first connection this front was given, by so many reads, and it was read no further than its walk
-- goes. No call failed, and no read told the end. The connection was closed once, after its last read, and no further
-- one was asked for.
pub record HasBegun (meaning : Meaning) (plan : Plan) (shows : Aside) : Type 0 where
  pub shown : shows.plan ≡ Some plan
  pub bytes : List ℕ
  pub given : shows.given ≡ Some (record { bytes = bytes; last = gave } ∷ [])
  pub some : 0 < length plan.connections
  pub coming : shows.coming ≡ Some (drop 1 plan.connections)
  pub opened : shows.opened ≡ 1
  pub closed : shows.closed ≡ 1
  pub is_closed : shows.is_open ≡ false
  pub asked : shows.refused ≡ false
  pub rest : List ℕ
  pub front : first_of plan.connections ≡ bytes ++ rest
  pub within : length bytes ≤ most_taken
  pub no_further : IsReadNoFurther meaning bytes
  pub reads : ℕ
  pub gives : Gives plan reads bytes
  pub opening : shows.open_faults ≡ 0
  pub reading : shows.read_faults ≡ 0

-- what a port with this plan shows where the taking ended out of memory: no call was made of it, or its one input
-- connection was begun
abbrev pub BreaksOff : Meaning → Plan → Aside → Type 0
BreaksOff meaning plan shows = (shows ≡ untouched plan) ⊎ HasBegun meaning plan shows

-- how the last read of these connections went, of which there is one at most
abbrev pub last_given : List Given → LastRead
last_given [] = gave
last_given (given ∷ more) = given.last

-- one more where a connection was given
abbrev pub one_for : List Given → ℕ → ℕ
one_for [] n = n
one_for (given ∷ more) n = one_more n

-- the count of faults before an opening and after it, where these connections were given, or it was answered that there
-- is none, or neither
abbrev pub CountsOpening : List Given → Bool → ℕ → ℕ → Type 0
CountsOpening [] false before now = Rose before now
CountsOpening [] true before now = now ≡ before
CountsOpening (given ∷ more) refused before now = now ≡ before

-- What a port shows after its one input connection was taken, whether it shows a plan or not, and which connections it
-- had told before: one was opened, read and closed, or none, and the input is what it tells of it. A count of faults rose
-- only where the opening failed, or its last read.
pub record ToldInput (before : List Given) (old new : Aside) (input : Given) : Type 0 where
  pub given : List Given
  pub given_is : new.given ≡ Some (before ++ given)
  pub one : length given ≤ 1
  pub input_is : input ≡ input_of given new.refused
  pub opened : new.opened ≡ one_for given old.opened
  pub closed : new.closed ≡ one_for given old.closed
  pub is_closed : old.is_open ≡ false → new.is_open ≡ false
  pub asked : 0 < length given → new.refused ≡ false
  pub opening : CountsOpening given new.refused old.open_faults new.open_faults
  pub reading : CountsLast old.read_faults new.read_faults (last_given given)

-- Out of memory, one connection of a port was opened, read and closed, and no call failed, nor did a read tell the end.
pub record LeavesOpened (meaning : Meaning) (old new : Aside) : Type 0 where
  pub bytes : List ℕ
  pub given : (before : List Given) → old.given ≡ Some before → new.given ≡ Some (before ++ record { bytes = bytes; last = gave } ∷ [])
  pub opened : new.opened ≡ one_more old.opened
  pub closed : new.closed ≡ one_more old.closed
  pub is_closed : new.is_open ≡ false
  pub asked : new.refused ≡ false
  pub within : length bytes ≤ most_taken
  pub no_further : IsReadNoFurther meaning bytes
  pub open_faults : new.open_faults ≡ old.open_faults
  pub read_faults : new.read_faults ≡ old.read_faults

-- or no call was made of it
abbrev pub LeavesInput : Meaning → Aside → Aside → Type 0
LeavesInput meaning old new = (new ≡ old) ⊎ LeavesOpened meaning old new

-- how the reads of a port went since then, where it keeps that, and the last of them where it tells its connections
pub record WentOn (old new : Aside) (went0 went1 : Option (List LastRead)) : Type 0 where
  pub last : LastRead
  pub reads : ReadsOn went0 went1 last
  pub told : (before given : List Given) → old.given ≡ Some before → new.given ≡ Some (before ++ given) → last_given given ≡ last

-- the one input connection was taken: what it comes to, and what the port shows
pub record TakesInput (meaning : Meaning) (Stands : List EntryValue → Type 0) (old new : Aside) (calls : ℕ) (taken : Taken) : Type 0 where
  pub input : Given
  pub messages : List EntryValue
  pub come : HasCome meaning input messages taken.cause
  pub noted : Stands (opened nothing_told ∷ messages)
  pub count : taken.revision ≡ length (opened nothing_told ∷ messages)
  pub size : taken.bytes ≡ length input.bytes
  pub no_further : IsReadNoFurther meaning input.bytes
  pub early : IsEarly taken.cause → (after : List ℕ) (at : LastRead) → length (input.bytes ++ after) ≤ most_taken → HasCome meaning (record { bytes = input.bytes ++ after; last = at }) messages taken.cause
  pub told : (before : List Given) → old.given ≡ Some before → ToldInput before old new input
  pub shows : (plan : Plan) → old ≡ untouched plan → calls ≡ 0 → Comes meaning plan new input messages taken.cause
