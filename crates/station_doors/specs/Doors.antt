-- What ports and yards tell, and what their calls do to it.
use Rattle.std.specs.Prelude.{◌≡◌, IsSome, ℕ, ◌+◌, ◌-◌, ◌^◌, ◌<◌, min, Bool, true, false, List, [], ◌∷◌, ◌++◌, take, Option, Some, None, Result, Ok, Err, Contains, ◌⊎◌, nat_eq, if◌then◌else◌}
use Rattle.std.specs.Io.KnownBytes.{ReadConsumes}
use Rattle.bmp_specs.specs.declared.causes.Cause.{Cause}
use Rattle.bmp_specs.specs.Life.{LastRead, gave, gave_none, failed, most_taken, most_read, Given}
use Rattle.wire_io.specs.declared.sink.Failed.{Failed}
use Rattle.wire_io.specs.Aside.{Aside, Plan, fresh}
use Rattle.wire_io.specs.Faults.{HasCause, Rose}
use Rattle.disk_doors.specs.Disk.{DiskValue}
use Rattle.station_doors.specs.declared.listening.Listening.{Listening}

-- the most routers that are listened for, and the most clients
abbrev pub most_places : ℕ
most_places = 1024

-- a yard that was asked to listen keeps the program's input as it is
abbrev pub KeepsInput : {R : Type 0} → Option Listening → Option R → Option R → Type 0
KeepsInput listened old new = IsSome listened → new ≡ old

-- one more, at most what 64 bits hold
abbrev pub one_more : ℕ → ℕ
one_more n = min (n + 1) (2 ^ 64 - 1)

-- what a port with this plan shows that has answered no call yet
abbrev pub untouched : Plan → Aside
untouched plan = record { plan = Some plan; coming = Some plan.connections; rest = Some []; given = Some []; opened = 0; closed = 0; is_open = false; taken = 0; refused = false; open_faults = 0; read_faults = 0; write_faults = None; laid = [] }

-- the same of a link
abbrev pub untouched_link : Plan → Aside
untouched_link plan = record (untouched plan) { write_faults = Some [] }

-- The connections to come, and what the present one has left, where they are told: the next connection was opened,
-- where true, and there was none, where false. A failed call leaves what is to come.
abbrev pub OpensNext : Option (List (List ℕ)) → Option (List (List ℕ)) → Option (List ℕ) → Result Bool Failed → Type 0
OpensNext None after rest result = after ≡ None
OpensNext (Some before) None rest result = ⊥
OpensNext (Some before) (Some after) None (Ok true) = ⊥
OpensNext (Some before) (Some after) (Some rest) (Ok true) = before ≡ rest ∷ after
OpensNext (Some before) (Some after) rest (Ok false) = (before ≡ []) × (after ≡ [])
OpensNext (Some before) (Some after) rest (Err e) = after ≡ before

-- the connections given, where a further one is opened
abbrev pub GivesNext : Option (List Given) → Option (List Given) → Result Bool Failed → Type 0
GivesNext None after result = after ≡ None
GivesNext (Some before) after (Ok true) = after ≡ Some (before ++ fresh ∷ [])
GivesNext (Some before) after (Ok false) = after ≡ Some before
GivesNext (Some before) after (Err e) = after ≡ Some before

abbrev pub opened_after : ℕ → Result Bool Failed → ℕ
opened_after n (Ok true) = one_more n
opened_after n (Ok false) = n
opened_after n (Err e) = n

abbrev pub taken_after : ℕ → Result Bool Failed → ℕ
taken_after n (Ok true) = 0
taken_after n (Ok false) = n
taken_after n (Err e) = n

-- whether a connection is open, where one was before or not
abbrev pub open_after : Bool → Result Bool Failed → Bool
open_after before (Ok true) = true
open_after before (Ok false) = before
open_after before (Err e) = before

abbrev pub is_refusal : Result Bool Failed → Bool
is_refusal (Ok true) = false
is_refusal (Ok false) = true
is_refusal (Err e) = false

-- the result of `next_connection` that gave a connection
abbrev pub opened_one : Result Bool Failed
opened_one = Ok true

-- the result of `next_connection` that gave none: there was none, or it failed
abbrev pub IsRefusal : Result Bool Failed → Type 0
IsRefusal (Ok true) = ⊥
IsRefusal (Ok false) = Unit {0}
IsRefusal (Err e) = Unit {0}

-- what a call does that opens the next connection
pub record Opens (old new : Aside) (result : Result Bool Failed) : Type 0 where
  pub plan : new.plan ≡ old.plan
  pub coming : OpensNext old.coming new.coming new.rest result
  pub given : GivesNext old.given new.given result
  pub opened : new.opened ≡ opened_after old.opened result
  pub closed : new.closed ≡ old.closed
  pub is_open : new.is_open ≡ open_after old.is_open result
  pub taken : new.taken ≡ taken_after old.taken result
  pub refused : new.refused ≡ is_refusal result
  pub cause : HasCause old.open_faults new.open_faults result
  pub calm : new.read_faults ≡ old.read_faults
  pub laid : new.laid ≡ old.laid

-- the counts of faults in writes as each connection was opened, where a further one is opened and the count is this
abbrev pub noted_writes : ℕ → Option (List ℕ) → Result Bool Failed → Option (List ℕ)
noted_writes faults None result = None
noted_writes faults (Some before) (Ok true) = Some (before ++ faults ∷ [])
noted_writes faults (Some before) (Ok false) = Some before
noted_writes faults (Some before) (Err e) = Some before

-- the connections given, after the present one gave these bytes
abbrev pub given_more : List Given → List ℕ → LastRead → List Given
given_more [] bytes last = []
given_more (g ∷ []) bytes last = record { bytes = g.bytes ++ bytes; last = last } ∷ []
given_more (g ∷ h ∷ gs) bytes last = g ∷ given_more (h ∷ gs) bytes last

-- the present connection gave these bytes more, and its last read went so
abbrev pub GivesMore : Option (List Given) → Option (List Given) → List ℕ → LastRead → Type 0
GivesMore None new bytes last = new ≡ None
GivesMore (Some old) new bytes last = new ≡ Some (given_more old bytes last)

-- the count of faults before the reads of a connection and after them, where the last one went so
abbrev pub CountsLast : ℕ → ℕ → LastRead → Type 0
CountsLast before now gave = now ≡ before
CountsLast before now gave_none = now ≡ before
CountsLast before now failed = Rose before now

-- how a read went that gave so many bytes
abbrev pub read_of : ℕ → LastRead
read_of n = if nat_eq n 0 then gave_none else gave

-- the connections given, after a read
abbrev pub GivesBytes : Option (List Given) → Option (List Given) → Result ℕ Failed → List ℕ → Type 0
GivesBytes None after result buf = after ≡ None
GivesBytes (Some before) after (Ok n) buf = after ≡ Some (given_more before (take n buf) (read_of n))
GivesBytes (Some before) after (Err e) buf = after ≡ Some (given_more before [] failed)

-- how many bytes the present connection gave, after a read; the count ends at what 64 bits hold
abbrev pub taken_by : ℕ → Result ℕ Failed → ℕ
taken_by taken (Ok n) = min (taken + n) (2 ^ 64 - 1)
taken_by taken (Err e) = taken

-- what a read does
pub record Reads (old new : Aside) (result : Result ℕ Failed) (buf : List ℕ) : Type 0 where
  pub plan : new.plan ≡ old.plan
  pub coming : new.coming ≡ old.coming
  pub rest : ReadConsumes old.rest new.rest result buf
  pub given : GivesBytes old.given new.given result buf
  pub opened : new.opened ≡ old.opened
  pub closed : new.closed ≡ old.closed
  pub is_open : new.is_open ≡ old.is_open
  pub taken : new.taken ≡ taken_by old.taken result
  pub refused : new.refused ≡ old.refused
  pub cause : HasCause old.read_faults new.read_faults result
  pub calm : new.open_faults ≡ old.open_faults
  pub writes : new.write_faults ≡ old.write_faults
  pub laid : new.laid ≡ old.laid

-- what closing the present connection does: it is counted, what the connection has left is no more of interest, and all
-- else stays
pub record Closes (old new : Aside) : Type 0 where
  pub same : new ≡ record old { rest = new.rest; closed = one_more old.closed; is_open = false }

-- how a read went
abbrev pub went_so : Result ℕ Failed → LastRead
went_so (Ok n) = read_of n
went_so (Err e) = failed

-- how the reads went, the last first, after one more, where that is kept
abbrev pub Went : Option (List LastRead) → Option (List LastRead) → Result ℕ Failed → Type 0
Went None new result = new ≡ None
Went (Some old) new result = new ≡ Some (went_so result ∷ old)

-- the causes told, where they are kept, after one more was told, or none for want of memory
abbrev pub told_after : Option (List Cause) → Option Cause → Option (List Cause)
told_after None cause = None
told_after (Some told) None = Some told
told_after (Some told) (Some cause) = Some (told ++ cause ∷ [])

-- how many bytes are asked for, where so many were taken of the connection
abbrev pub read_size : ℕ → ℕ
read_size taken = min most_read (most_taken - taken)

-- the most bytes that a link is asked for at once
abbrev pub most_heard : ℕ
most_heard = 512

-- how many bytes a link is asked for, where so many were taken of the connection
abbrev pub heard_size : ℕ → ℕ
heard_size taken = min most_heard (most_taken - taken)

-- a call of a planned port fails exactly where its number is among those that do
abbrev pub AsPlanned : Option Plan → ℕ → ℕ → Result ℕ Failed → Type 0
AsPlanned None before after result = Unit {0}
AsPlanned (Some plan) before after (Ok n) = (after ≡ one_more before) × (Contains plan.fails before → ⊥)
AsPlanned (Some plan) before after (Err e) = (after ≡ one_more before) × Contains plan.fails before

-- a port that was given back: its number, and what it showed
pub record Returned : Type 0 where
  pub lane : ℕ
  pub shows : Aside

-- a link that was given back: its number, what it showed, what was written to it, and its count of faults in writes
pub record ReturnedLink : Type 0 where
  pub number : ℕ
  pub shows : Aside
  pub written : Option (List ℕ)
  pub faults : ℕ

-- a file of a yard: under which path, and its bytes
pub record FileValue : Type 0 where
  pub path : List ℕ
  pub bytes : List ℕ

-- what a disk shows: what it tells, and its count of faults
pub record DiskShown : Type 0 where
  pub value : DiskValue
  pub faults : ℕ

-- What a port was made over that keeps on a disk what another gives, as they were then: that port, and how many of its
-- calls were made that its plan numbers; the disk; the place of the byte that more is kept after, and whether the keeping
-- had stopped.
pub record MadeOver : Type 0 where
  pub shows : Aside
  pub calls : ℕ
  pub disk : DiskShown
  pub place : ℕ
  pub stopped : Bool

-- a disk of a yard: under which path, and what it shows; none where it was handed out and not given back since
pub record DiskAt : Type 0 where
  pub path : List ℕ
  pub shows : Option DiskShown

-- what a yard tells
pub record YardValue : Type 0 where
  -- the plans of the ports that it will hand out, in order, of which none has answered a call yet
  pub ports : List Plan
  -- the same of the links
  pub links : List Plan
  -- the numbers of its calls that fail
  pub fails : List ℕ
  -- under which numbers a port was handed out and not given back since, the last first
  pub out : List ℕ
  -- the same of the links
  pub links_out : List ℕ
  -- the ports that were given back
  pub back : List Returned
  -- the links that were given back
  pub links_back : List ReturnedLink
  -- its files; of two under one path the first counts
  pub files : List FileValue
  -- its disks by path, as they now are; of two under one path the first counts
  pub disks : List DiskAt

-- what contracts see of a yard: what it tells, how many of its calls that answer a `Result` were made, what the last
-- `listen` asked for, how many endings it took, and the last one, where it tells anything
pub record YardSeen (E : Type 0) : Type 0 where
  pub told : Option YardValue
  pub calls : ℕ
  pub listened : Option Listening
  pub endings : ℕ
  pub last_ending : Option E

-- the same of a yard that tells nothing, and whose endings have nothing in them
abbrev pub counts_only : ℕ → Option Listening → ℕ → YardSeen (Unit {0})
counts_only calls listened endings = record { told = None; calls = calls; listened = listened; endings = endings; last_ending = None }

-- a call was counted; what is listened for stays, and so do the endings
pub record CountsCall {E : Type 0} (old new : YardSeen E) : Type 0 where
  pub calls : new.calls ≡ one_more old.calls
  pub listened : new.listened ≡ old.listened
  pub endings : new.endings ≡ old.endings
  pub ending : new.last_ending ≡ old.last_ending

-- all stays but what the yard tells
pub record LeavesRest {E : Type 0} (old new : YardSeen E) : Type 0 where
  pub calls : new.calls ≡ old.calls
  pub listened : new.listened ≡ old.listened
  pub endings : new.endings ≡ old.endings
  pub ending : new.last_ending ≡ old.last_ending

-- how many lanes and askers were asked for, where it was asked to listen
abbrev pub feeds_of : Option Listening → ℕ
feeds_of None = 0
feeds_of (Some l) = l.feeds

abbrev pub askers_of : Option Listening → ℕ
askers_of None = 0
askers_of (Some l) = l.askers

-- The number of a port: that of the one input connection, or of a lane.
abbrev pub IsLane : Option Listening → ℕ → Type 0
IsLane l lane = (lane ≡ 0) ⊎ (lane < feeds_of l)

-- A call of this number that is to listen fails exactly where the plan says so.
abbrev pub Listens : ℕ → Option YardValue → Option YardValue → Result (Unit {0}) Failed → Type 0
Listens number None new result = new ≡ None
Listens number (Some old) new (Ok u) = (Contains old.fails number → ⊥) × (new ≡ Some old)
Listens number (Some old) new (Err e) = Contains old.fails number × (new ≡ Some old)

-- A call of this number hands out the next port under this number, or fails: exactly where the plan says so, or
-- nothing is left to hand out. The port has answered no call yet.
abbrev pub HandsOut : {P : Type 0} → (P → Aside) → (P → ℕ) → ℕ → ℕ → Option YardValue → Option YardValue → Result P Failed → Type 0
HandsOut shows calls lane number None new result = new ≡ None
HandsOut shows calls lane number (Some old) new (Ok port) = (Contains old.fails number → ⊥) × (plan : Plan) × (rest : List Plan) × (old.ports ≡ plan ∷ rest)
    × (new ≡ Some (record old { ports = rest; out = lane ∷ old.out })) × (shows port ≡ untouched plan) × (calls port ≡ 0)
HandsOut shows calls lane number (Some old) new (Err e) = (Contains old.fails number ⊎ (old.ports ≡ [])) × (new ≡ Some old)

-- a link with this plan that has answered no call yet, and to which nothing was written
pub record IsUnused {L : Type 0} (shows : L → Aside) (told : L → Option (List ℕ)) (faults calls : L → ℕ) (plan : Plan) (link : L) : Type 0 where
  pub shown : shows link ≡ untouched_link plan
  pub written : told link ≡ Some []
  pub calm : faults link ≡ 0
  pub none : calls link ≡ 0

-- the same of a link
abbrev pub HandsOutLink : {L : Type 0} → (L → Aside) → (L → Option (List ℕ)) → (L → ℕ) → (L → ℕ) → ℕ → ℕ → Option YardValue → Option YardValue → Result L Failed → Type 0
HandsOutLink shows told faults calls place number None new result = new ≡ None
HandsOutLink shows told faults calls place number (Some old) new (Ok link) = (Contains old.fails number → ⊥) × (plan : Plan) × (rest : List Plan) × (old.links ≡ plan ∷ rest)
    × (new ≡ Some (record old { links = rest; links_out = place ∷ old.links_out })) × IsUnused shows told faults calls plan link
HandsOutLink shows told faults calls place number (Some old) new (Err e) = (Contains old.fails number ⊎ (old.links ≡ [])) × (new ≡ Some old)

-- the list without the first place of this number
abbrev pub without : ℕ → List ℕ → List ℕ
without n [] = []
without n (x ∷ xs) = if nat_eq x n then xs else x ∷ without n xs

-- A port is given back under this number: it is shown where one was handed out under it and not given back since,
-- else it is dropped.
pub record TakesBackTold (lane : ℕ) (shows : Aside) (old : YardValue) (new : Option YardValue) : Type 0 where
  pub lent : Contains old.out lane → new ≡ Some (record old { out = without lane old.out; back = old.back ++ record { lane = lane; shows = shows } ∷ [] })
  pub dropped : (Contains old.out lane → ⊥) → new ≡ Some old

abbrev pub TakesBack : ℕ → Aside → Option YardValue → Option YardValue → Type 0
TakesBack lane shows None new = new ≡ None
TakesBack lane shows (Some old) new = TakesBackTold lane shows old new

-- the same of a link
pub record TakesLinkBackTold (link : ReturnedLink) (old : YardValue) (new : Option YardValue) : Type 0 where
  pub lent : Contains old.links_out link.number → new ≡ Some (record old { links_out = without link.number old.links_out; links_back = old.links_back ++ link ∷ [] })
  pub dropped : (Contains old.links_out link.number → ⊥) → new ≡ Some old

abbrev pub TakesLinkBack : ReturnedLink → Option YardValue → Option YardValue → Type 0
TakesLinkBack link None new = new ≡ None
TakesLinkBack link (Some old) new = TakesLinkBackTold link old new

-- an ending is kept in the place of an earlier one, where the yard tells
abbrev pub KeepsEnding : {E : Type 0} → Option YardValue → E → Option E → Type 0
KeepsEnding None ending now = Unit {0}
KeepsEnding (Some told) ending now = now ≡ Some ending
