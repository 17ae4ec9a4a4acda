-- What `recall` comes to.
use Rattle.std.specs.Prelude.{◌≡◌, ◌⊎◌, ℕ, List, [], ◌∷◌, ◌++◌, Option, Some, None, Contains, Result, Ok, Err, IfErr, take, length, codes}
use Rattle.bmp_specs.specs.declared.causes.Cause.{Cause}
use Rattle.bmp_specs.specs.Life.{gave_none, most_taken, Given, HasCome}
use Rattle.bmp_specs.specs.Lines.{line, number_line, stop_line}
use Rattle.bmp_specs.specs.Meaning.{Meaning}
use Rattle.bmp_specs.specs.Openings.{nothing_told}
use Rattle.bmp_specs.specs.Values.{EntryValue, opened}
use Rattle.disk_doors.specs.Disk.{Rests}
use Rattle.feed_archive.specs.Recovering.{Recovers, RecoverCause, FaultPlanned}
use Rattle.feed_archive.specs.declared.fault.RecoverFault.{RecoverFault}
use Rattle.feed_archive.specs.declared.fault.RecoverFault.TheVariants as fault
use Rattle.station_doors.specs.Disks.{disk_at, with_disk}
use Rattle.station_doors.specs.Doors.{DiskShown, YardValue}
use Rattle.station_top.specs.Status.{status_of}
use Rattle.station_top.specs.Written.{IsWritten}
use Rattle.station_top.specs.declared.status.Status.{Status}
use Rattle.station_top.specs.declared.status.Status.TheVariants.{NoMemory, YardFault, BadArchive, DiskFault}
use Rattle.station_top.specs.declared.take.Taken.{Taken}

-- the line of a file that is no archive: at this offset stands no record that is whole and right, and no end
abbrev pub badarchive_line : ℕ → List ℕ
badarchive_line offset = number_line (codes "badarchive") offset

-- the line of a file that is longer than what is looked at, and that is no archive so far
abbrev pub longarchive_line : List ℕ
longarchive_line = line (codes "longarchive") []

-- the yard refused the disk: its plan fails the call of this number, or no disk stands under the path
abbrev pub RefusesDisk : List ℕ → Option YardValue → Option YardValue → ℕ → Type 0
RefusesDisk path None new number = new ≡ None
RefusesDisk path (Some old) new number = (Contains old.fails number ⊎ ((shown : DiskShown) → disk_at path old.disks ≡ Some (Some shown) → ⊥)) × (new ≡ Some old)

-- The yard, whose plan doesn't fail the call of this number, handed out the disk of the path and took it back: what it
-- shows now stands in this relation to what it showed. Nothing else of the yard changed.
pub record LendsDisk (Is : DiskShown → DiskShown → Type 0) (path : List ℕ) (old : YardValue) (new : Option YardValue) (number : ℕ) : Type 0 where
  pub planned : Contains old.fails number → ⊥
  pub lent : DiskShown
  pub back : DiskShown
  pub stood : disk_at path old.disks ≡ Some (Some lent)
  pub given_back : new ≡ Some (record old { disks = with_disk path (Some back) old.disks })
  pub is : Is lent back

-- the same of a yard that tells
abbrev pub LendsDiskWhereTold : (DiskShown → DiskShown → Type 0) → List ℕ → Option YardValue → Option YardValue → ℕ → Type 0
LendsDiskWhereTold Is path None new number = new ≡ None
LendsDiskWhereTold Is path (Some old) new number = LendsDisk Is path old new number

-- An archive was recovered from a disk, with this result: nothing was written or synced, and the count of faults rose
-- exactly where the disk failed, which it does only where its plan fails a call.
pub record HasRecovered (result : Result (List ℕ) RecoverFault) (lent back : DiskShown) : Type 0 where
  pub recovers : Recovers lent.value.now.file result
  pub rests : Rests lent.value back.value
  pub cause : RecoverCause lent.faults back.faults result
  pub planned : IfErr result (FaultPlanned lent.value)

-- a content as one connection that ended, of which 2^46 bytes are taken at most
abbrev pub whole_input : List ℕ → Given
whole_input content = record { bytes = take most_taken content; last = gave_none }

-- the content was taken into an account, which stands for its opening and its messages
pub record IsRecalled (meaning : Meaning) (Stands : List EntryValue → Type 0) (content : List ℕ) (taken : Taken) : Type 0 where
  pub messages : List EntryValue
  pub come : HasCome meaning (whole_input content) messages taken.cause
  pub noted : Stands (opened nothing_told ∷ messages)
  pub count : taken.revision ≡ length (opened nothing_told ∷ messages)

-- the status and the text where there is no content
abbrev pub status_unread : RecoverFault → Status
status_unread fault.Failed = DiskFault
status_unread (fault.Damaged offset) = BadArchive
status_unread fault.TooLong = BadArchive
status_unread fault.NoMemory = NoMemory

abbrev pub text_unread : RecoverFault → List ℕ
text_unread fault.Failed = []
text_unread (fault.Damaged offset) = badarchive_line offset
text_unread fault.TooLong = longarchive_line
text_unread fault.NoMemory = []

-- What a content comes to as one connection that ended: the status that is meant, and the text. Replies says which bytes
-- are the reply on some entries.
pub data RecallMeans (meaning : Meaning) (Replies : List EntryValue → List ℕ → Type 0) (content : List ℕ) : Status → List ℕ → Type 0 where
  -- the reply on its opening and its messages, then the stop line
  recalled : (messages : List EntryValue) (cause : Cause) (reply : List ℕ) → HasCome meaning (whole_input content) messages cause → Replies (opened nothing_told ∷ messages) reply → RecallMeans meaning Replies content (status_of cause) (reply ++ stop_line cause)
  -- out of memory: nothing is written
  unrecalled : RecallMeans meaning Replies content NoMemory []

-- what is answered of a content, and what was written
pub record RecallAnswers (meaning : Meaning) (Replies : List EntryValue → List ℕ → Type 0) (content : List ℕ) (told0 told1 : Option (List ℕ)) (status : Status) : Type 0 where
  pub meant : Status
  pub text : List ℕ
  pub means : RecallMeans meaning Replies content meant text
  pub written : IsWritten told0 told1 text meant status

-- What `recall` comes to by the yard and the disk: its status, and what was written. In each case but the first the disk
-- was handed out and given back as it was.
pub data RecallConcludes (meaning : Meaning) (Replies : List EntryValue → List ℕ → Type 0) (path : List ℕ) (old new : Option YardValue) (number : ℕ) (told0 told1 : Option (List ℕ)) (status : Status) : Type 0 where
  -- the yard refused the disk: nothing is written
  diskless : RefusesDisk path old new number → status ≡ YardFault → told1 ≡ told0 → RecallConcludes meaning Replies path old new number told0 told1 status
  -- the file is no archive, the disk failed, or memory ran out
  unread : (why : RecoverFault) → LendsDiskWhereTold (HasRecovered (Err why)) path old new number → IsWritten told0 told1 (text_unread why) (status_unread why) status → RecallConcludes meaning Replies path old new number told0 told1 status
  -- the file is an archive with this content
  answered : (content : List ℕ) → LendsDiskWhereTold (HasRecovered (Ok content)) path old new number → RecallAnswers meaning Replies content told0 told1 status → RecallConcludes meaning Replies path old new number told0 told1 status
