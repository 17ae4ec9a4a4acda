-- What `archive` comes to.
use Rattle.std.specs.Prelude.{◌≡◌, ◌⊎◌, ℕ, ◌+◌, ◌*◌, ◌<◌, ◌≤◌, List, [], ◌∷◌, ◌++◌, Option, Some, None, Contains, Result, Ok, Err, false, length, codes}
use Rattle.bmp_specs.specs.declared.causes.Cause.{Cause}
use Rattle.bmp_specs.specs.Life.{IsReadNoFurther, Given, HasCome}
use Rattle.bmp_specs.specs.Lines.{line, number_line, stop_line}
use Rattle.bmp_specs.specs.Meaning.{Meaning}
use Rattle.bmp_specs.specs.Values.{EntryValue}
use Rattle.disk_doors.specs.Disk.{IsSound, Lasts, Passes}
use Rattle.disk_doors.specs.Images.{IsImage, settled}
use Rattle.feed_archive.specs.Appending.{Began, Refuses}
use Rattle.feed_archive.specs.Archive.{HasContent, most_archive, most_record}
use Rattle.feed_archive.specs.Creating.{Creates, CreateCalls, CreateCause, CreatePlanned}
use Rattle.feed_archive.specs.Keeping.{HasFrontOf, Told}
use Rattle.feed_archive.specs.Recovering.{FaultCause, Holds, HasOnly}
use Rattle.feed_archive.specs.Scanning.{IsPlain}
use Rattle.feed_archive.specs.declared.fault.AppendFault.{AppendFault}
use Rattle.feed_archive.specs.declared.fault.AppendFault.TheVariants as append
use Rattle.feed_archive.specs.declared.fault.CreateFault.{CreateFault}
use Rattle.feed_archive.specs.declared.fault.CreateFault.TheVariants as create
use Rattle.feed_archive.specs.declared.fault.RecoverFault.{RecoverFault}
use Rattle.feed_archive.specs.declared.fault.RecoverFault.TheVariants as recover
use Rattle.station_doors.specs.Disks.{disk_at, with_disk}
use Rattle.station_doors.specs.Doors.{DiskShown, YardValue, one_more, untouched}
use Rattle.station_doors.specs.Planned.{first_of}
use Rattle.wire_io.specs.Aside.{Aside, Plan}
use Rattle.wire_io.specs.Faults.{Rose}
use Rattle.wire_io.specs.declared.sink.Failed.{Failed}
use Rattle.station_top.specs.RecallRuns.{RefusesDisk, status_unread, text_unread}
use Rattle.station_top.specs.Status.{status_of}
use Rattle.station_top.specs.Take.{BreaksOff, Comes}
use Rattle.station_top.specs.Written.{IsWritten}
use Rattle.station_top.specs.declared.archive.Kept.{Kept}
use Rattle.station_top.specs.declared.archive.Kept.TheVariants as kept
use Rattle.station_top.specs.declared.status.Status.{Status}
use Rattle.station_top.specs.declared.status.Status.TheVariants.{NoMemory, YardFault, BadArchive, DiskFault, ArchiveFull}

-- how many bytes were taken and kept
abbrev pub kept_line : ℕ → List ℕ
kept_line bytes = number_line (codes "kept") bytes

-- the file isn't empty
abbrev pub notempty_line : List ℕ
notempty_line = line (codes "notempty") []

-- no further piece fits the archive
abbrev pub archivefull_line : List ℕ
archivefull_line = line (codes "archivefull") []

-- the status, by what became of the input
abbrev pub status_kept : Kept → Status
status_kept (kept.Uncreated create.Failed) = DiskFault
status_kept (kept.Uncreated create.NotEmpty) = BadArchive
status_kept (kept.Unbegun why) = status_unread why
status_kept kept.Starved = NoMemory
status_kept (kept.Whole bytes cause) = status_of cause
status_kept (kept.CutOff bytes append.Failed) = DiskFault
status_kept (kept.CutOff bytes append.Full) = ArchiveFull
status_kept (kept.CutOff bytes append.Stopped) = DiskFault

-- and the text: where an append was refused there is no stop line
abbrev pub text_kept : Kept → List ℕ
text_kept (kept.Uncreated create.Failed) = []
text_kept (kept.Uncreated create.NotEmpty) = notempty_line
text_kept (kept.Unbegun why) = text_unread why
text_kept kept.Starved = []
text_kept (kept.Whole bytes cause) = kept_line bytes ++ stop_line cause
text_kept (kept.CutOff bytes append.Failed) = kept_line bytes
text_kept (kept.CutOff bytes append.Full) = kept_line bytes ++ archivefull_line
text_kept (kept.CutOff bytes append.Stopped) = kept_line bytes

-- The yard, whose plan fails neither call, handed out the disk of the path and then the first port that waits, under the
-- number 0, and took both back: what they showed then stands in this relation.
pub record LendsBoth (Is : Plan → Aside → DiskShown → DiskShown → Type 0) (path : List ℕ) (old : YardValue) (new : Option YardValue) (number : ℕ) : Type 0 where
  pub planned : Contains old.fails number → ⊥
  pub lent : DiskShown
  pub stood : disk_at path old.disks ≡ Some (Some lent)
  pub port_planned : Contains old.fails (one_more number) → ⊥
  pub plan : Plan
  pub waiting : List Plan
  pub first : old.ports ≡ plan ∷ waiting
  pub shows : Aside
  pub back : DiskShown
  pub given_back : new ≡ Some (record old { ports = waiting; back = old.back ++ record { lane = 0; shows = shows } ∷ []; disks = with_disk path (Some back) old.disks })
  pub is : Is plan shows lent back

-- the same of a yard that tells
abbrev pub LendsBothWhereTold : (Plan → Aside → DiskShown → DiskShown → Type 0) → List ℕ → Option YardValue → Option YardValue → ℕ → Type 0
LendsBothWhereTold Is path None new number = new ≡ None
LendsBothWhereTold Is path (Some old) new number = LendsBoth Is path old new number

-- The yard handed out the disk of the path, refused the port, since its plan fails the call or it has none, and took the
-- disk back as it was.
pub record RefusesPort (path : List ℕ) (old : YardValue) (new : Option YardValue) (number : ℕ) : Type 0 where
  pub planned : Contains old.fails number → ⊥
  pub lent : DiskShown
  pub stood : disk_at path old.disks ≡ Some (Some lent)
  pub refused : Contains old.fails (one_more number) ⊎ (old.ports ≡ [])
  pub given_back : new ≡ Some (record old { disks = with_disk path (Some lent) old.disks })

abbrev pub RefusesPortWhereTold : List ℕ → Option YardValue → Option YardValue → ℕ → Type 0
RefusesPortWhereTold path None new number = new ≡ None
RefusesPortWhereTold path (Some old) new number = RefusesPort path old new number

-- An archive was to be created on a disk, with this result: at most its byte 0 was written, once, and then synced, once. The
-- disk's count of faults rose exactly where it failed, and it failed only where its plan fails a call or it has no room for
-- a byte.
pub record HasCreated (result : Result (Unit {0}) CreateFault) (lent made : DiskShown) : Type 0 where
  pub creates : Creates lent.value made.value result
  pub calls : CreateCalls lent.value made.value result
  pub lasts : Lasts lent.value made.value
  pub planned : CreatePlanned lent.value result
  pub cause : CreateCause lent.faults made.faults result

-- An archive was created on a disk that was empty, and wasn't begun: only since the disk failed, where its plan fails a
-- call or it has no room for a byte, or there was no memory. It is the archive with no content still, and a crash leaves
-- that.
pub record HasNotBegun (why : RecoverFault) (lent back : DiskShown) : Type 0 where
  pub made : DiskShown
  pub created : HasCreated (Ok tt) lent made
  pub did : Refuses made.value back.value why
  pub only : HasOnly back.value.now []
  pub plain : IsPlain why
  pub planned : why ≡ recover.Failed → IsSound lent.value 1 → ⊥
  pub cause : FaultCause lent.faults back.faults why

-- An archive was created on a disk that was empty, and begun: a crash leaves the archive with no content.
pub record IsBegun (lent begun : DiskShown) : Type 0 where
  pub made : DiskShown
  pub created : HasCreated (Ok tt) lent made
  pub began : Began made.value begun.value
  pub only : HasOnly begun.value.now []
  pub lasts : Lasts lent.value begun.value
  pub calm : begun.faults ≡ lent.faults

-- These bytes were kept in an archive that had just been begun, and then this piece was refused, where it isn't empty.
pub record KeepsBytes (bytes lost : List ℕ) (begun back : DiskShown) : Type 0 where
  -- a crash at any moment since leaves an archive whose content is a front of them
  pub any_moment : Passes (HasFrontOf [] (bytes ++ lost)) begun.value back.value
  -- and now it leaves one that has all bytes that were kept, and at most the piece more
  pub present : (c : List ℕ) → IsImage back.value.now c → Holds c bytes ⊎ Holds c (bytes ++ lost)
  pub small : length lost ≤ most_record

-- All of the input was kept: the disk is an archive of these bytes, and a crash leaves that. The port shows what it shows
-- after a replay.
pub record KeepsInput (meaning : Meaning) (input : Given) (messages : List EntryValue) (cause : Cause) (plan : Plan) (shows : Aside) (begun back : DiskShown) : Type 0 where
  pub kept : KeepsBytes input.bytes [] begun back
  pub settled_is : back.value.now ≡ settled back.value.now.file
  pub holds : HasContent back.value.now.file input.bytes
  pub only : HasOnly back.value.now input.bytes
  pub calm : back.faults ≡ begun.faults
  pub comes : Comes meaning plan shows input messages cause

-- Why an append was refused, where the first connection of the port's plan has so many bytes: the disk failed, and its
-- count rose, where its plan fails a call or it has no room for an archive of that connection; or an archive of the
-- connection may have more bytes than an archive has, and then the disk holds exactly what was kept.
abbrev pub IsRefused : AppendFault → ℕ → List ℕ → DiskShown → DiskShown → Type 0
IsRefused append.Failed n bytes begun back = (begun.faults ≤ back.faults) × Rose begun.faults back.faults × (IsSound begun.value (6 * n + 1) → ⊥)
IsRefused append.Full n bytes begun back = (back.faults ≡ begun.faults) × (most_archive < 6 * n + 1) × HasOnly back.value.now bytes
IsRefused append.Stopped n bytes begun back = ⊥

-- These bytes were kept, and the append of the next piece was refused. They and the piece are the first bytes of the first
-- connection of the port's plan, and what the port shows as given. That connection was opened and closed, and no other.
pub record KeepsFor (why : AppendFault) (bytes : List ℕ) (plan : Plan) (shows : Aside) (begun back : DiskShown) : Type 0 where
  pub lost : List ℕ
  pub some : 0 < length lost
  pub kept : KeepsBytes bytes lost begun back
  pub rest : List ℕ
  pub front : first_of plan.connections ≡ (bytes ++ lost) ++ rest
  pub shown : shows.plan ≡ Some plan
  pub told : Told shows (bytes ++ lost)
  pub opened : shows.opened ≡ 1
  pub closed : shows.closed ≡ 1
  pub is_closed : shows.is_open ≡ false
  pub refused : IsRefused why (length (first_of plan.connections)) bytes begun back

-- Some first bytes of the first connection were kept, and then there was no memory: the disk is an archive of them, and they
-- are what the port shows as given. It shows what it shows where a replay is broken off so.
pub record KeepsFront (meaning : Meaning) (plan : Plan) (shows : Aside) (begun back : DiskShown) : Type 0 where
  pub bytes : List ℕ
  pub rest : List ℕ
  pub front : first_of plan.connections ≡ bytes ++ rest
  pub told : Told shows bytes
  pub kept : KeepsBytes bytes [] begun back
  pub only : HasOnly back.value.now bytes
  pub calm : back.faults ≡ begun.faults
  pub breaks : BreaksOff meaning plan shows

-- the same of a disk on which the archive was created and begun
abbrev pub OnArchive : (Plan → Aside → DiskShown → DiskShown → Type 0) → Plan → Aside → DiskShown → DiskShown → Type 0
OnArchive Is plan shows lent back = (begun : DiskShown) × IsBegun lent begun × Is plan shows begun back

-- What became of the input once the archive was begun. Hands says that the port and the disk were used and handed back, and
-- that they stand in a relation.
abbrev pub IsTakenIn : Meaning → ((Plan → Aside → DiskShown → DiskShown → Type 0) → Type 0) → Kept → Type 0
IsTakenIn meaning Hands (kept.Uncreated why) = ⊥
IsTakenIn meaning Hands (kept.Unbegun why) = ⊥
-- there was no memory while the input was taken
IsTakenIn meaning Hands kept.Starved = Hands (KeepsFront meaning)
-- the input was taken, so many bytes, and no further than its walk goes
IsTakenIn meaning Hands (kept.Whole bytes cause) = (input : Given) × (messages : List EntryValue) × HasCome meaning input messages cause × IsReadNoFurther meaning input.bytes × (bytes ≡ length input.bytes) × Hands (KeepsInput meaning input messages cause)
-- so many bytes were taken and kept, and the append of the next piece was refused
IsTakenIn meaning Hands (kept.CutOff bytes append.Failed) = (taken : List ℕ) × IsReadNoFurther meaning taken × (bytes ≡ length taken) × Hands (KeepsFor append.Failed taken)
IsTakenIn meaning Hands (kept.CutOff bytes append.Full) = (taken : List ℕ) × IsReadNoFurther meaning taken × (bytes ≡ length taken) × Hands (KeepsFor append.Full taken)
-- no append had failed before
IsTakenIn meaning Hands (kept.CutOff bytes append.Stopped) = ⊥

-- what became of the input that was to be kept
abbrev pub IsKept : Meaning → ((Plan → Aside → DiskShown → DiskShown → Type 0) → Type 0) → Kept → Type 0
-- the file isn't empty, or the disk failed: the port was not used
IsKept meaning Hands (kept.Uncreated why) = Hands (λ plan shows lent back. (shows ≡ untouched plan) × HasCreated (Err why) lent back)
-- the disk failed, or there was no memory: the port was not used
IsKept meaning Hands (kept.Unbegun why) = Hands (λ plan shows lent back. (shows ≡ untouched plan) × HasNotBegun why lent back)
-- an archive was created and begun
IsKept meaning Hands kept.Starved = IsTakenIn meaning (λ Is. Hands (OnArchive Is)) kept.Starved
IsKept meaning Hands (kept.Whole bytes cause) = IsTakenIn meaning (λ Is. Hands (OnArchive Is)) (kept.Whole bytes cause)
IsKept meaning Hands (kept.CutOff bytes why) = IsTakenIn meaning (λ Is. Hands (OnArchive Is)) (kept.CutOff bytes why)

-- Of a port that has this plan and has answered no call, and of a disk that tells: what they show stands in this relation.
abbrev pub HandsBoth : Type 0 → Aside → ℕ → DiskShown → Aside → DiskShown → (Plan → Aside → DiskShown → DiskShown → Type 0) → Type 0
HandsBoth tells first calls lent shows back Is = tells → (plan : Plan) → first ≡ untouched plan → calls ≡ 0 → Is plan shows lent back

-- the same of a disk of which a crash leaves the archive with no content, and which is closed at its first byte
abbrev pub HandsEmpty : Type 0 → Aside → ℕ → DiskShown → ℕ → Aside → DiskShown → (Plan → Aside → DiskShown → DiskShown → Type 0) → Type 0
HandsEmpty tells first calls begun place shows back Is = tells → HasOnly begun.value.now [] → place ≡ 0 → (plan : Plan) → first ≡ untouched plan → calls ≡ 0 → Is plan shows begun back

-- What the yard did where it handed out both, and how many calls of it were made; or it refused one of them.
abbrev pub UsesBoth : Meaning → List ℕ → Option YardValue → Option YardValue → ℕ → ℕ → Result Kept Failed → Type 0
UsesBoth meaning path old new number calls (Ok kept) = IsKept meaning (λ Is. LendsBothWhereTold Is path old new number) kept × (calls ≡ one_more (one_more number))
UsesBoth meaning path old new number calls (Err e) = (RefusesDisk path old new number × (calls ≡ one_more number)) ⊎ (RefusesPortWhereTold path old new number × (calls ≡ one_more (one_more number)))

-- What `archive` comes to by the yard, the disk and the port: how many calls of the yard were made, its status, and what was
-- written.
pub data ArchiveConcludes (meaning : Meaning) (path : List ℕ) (old new : Option YardValue) (number calls : ℕ) (told0 told1 : Option (List ℕ)) (status : Status) : Type 0 where
  -- the yard refused the disk: nothing is written
  diskless : RefusesDisk path old new number → calls ≡ one_more number → status ≡ YardFault → told1 ≡ told0 → ArchiveConcludes meaning path old new number calls told0 told1 status
  -- the yard refused the port: nothing is written, and the disk is given back as it was
  portless : RefusesPortWhereTold path old new number → calls ≡ one_more (one_more number) → status ≡ YardFault → told1 ≡ told0 → ArchiveConcludes meaning path old new number calls told0 told1 status
  -- it handed out both, the input was kept or not, and both are given back
  handed : (kept : Kept) → IsKept meaning (λ Is. LendsBothWhereTold Is path old new number) kept → calls ≡ one_more (one_more number) → IsWritten told0 told1 (text_kept kept) (status_kept kept) status → ArchiveConcludes meaning path old new number calls told0 told1 status
