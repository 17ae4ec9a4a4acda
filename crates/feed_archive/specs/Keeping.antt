-- A port that keeps what it gives: what it tells, and what its archive holds.
use Rattle.std.specs.Prelude.{◌≡◌, ℕ, zero, suc, ◌+◌, ◌*◌, ◌<◌, ◌≤◌, ◌⊎◌, Bool, true, false, cond, List, [], ◌∷◌, ◌++◌, length, Option, None, Some}
use Rattle.bmp_specs.specs.Life.{LastRead, gave as gave_some, gave_none, failed, most_read, Given}
use Rattle.wire_io.specs.Aside.{Aside, Plan, fresh}
use Rattle.station_doors.specs.Doors.{MadeOver, given_more}
use Rattle.station_doors.specs.Planned.{Follows}
use Rattle.disk_doors.specs.Images.{IsImage}
use Rattle.disk_doors.specs.Disk.{DiskValue, Passes, Rests, Lasts, IsSound}
use Rattle.disk_doors.specs.Note.{Event}
use Rattle.feed_archive.specs.Archive.{most_archive}
use Rattle.feed_archive.specs.Recovering.{Holds, HasOnly}
use Rattle.feed_archive.specs.Appending.{ArchiveValue}
use Rattle.feed_archive.specs.declared.fault.AppendFault.{AppendFault}
use Rattle.feed_archive.specs.declared.fault.AppendFault.TheVariants.{Failed as DiskFailed, Full, Stopped}
use Rattle.wire_io.specs.Faults.{Rose}

-- What was noted, the last first: a piece that was given (0), the piece whose append was refused (1), a later read, which
-- failed (2), a connection that was opened (3), a read of the port below that gave none (4), and one that failed (any
-- other).

-- the bytes that were given
abbrev pub gave_more : ℕ → List ℕ → List ℕ → List ℕ
gave_more zero piece before = before ++ piece
gave_more (suc k) piece before = before

abbrev pub gave : List Event → List ℕ
gave [] = []
gave (e ∷ es) = gave_more e.0 e.2 (gave es)

-- the piece that was refused
abbrev pub lost_more : ℕ → List ℕ → List ℕ → List ℕ
lost_more zero piece before = before
lost_more (suc zero) piece before = piece
lost_more (suc (suc k)) piece before = before

abbrev pub lost : List Event → List ℕ
lost [] = []
lost (e ∷ es) = lost_more e.0 e.2 (lost es)

-- whether a piece was refused
abbrev pub refuses : ℕ → Bool → Bool
refuses zero before = before
refuses (suc zero) before = true
refuses (suc (suc k)) before = before

abbrev pub is_refused : List Event → Bool
is_refused [] = false
is_refused (e ∷ es) = refuses e.0 (is_refused es)

-- whether a connection was opened since
abbrev pub opens_later : ℕ → Bool → Bool
opens_later zero before = before
opens_later (suc zero) before = false
opens_later (suc (suc zero)) before = before
opens_later (suc (suc (suc zero))) before = true
opens_later (suc (suc (suc (suc k)))) before = before

abbrev pub opened_later : List Event → Bool
opened_later [] = false
opened_later (e ∷ es) = opens_later e.0 (opened_later es)

-- how its reads went, the last first
abbrev pub went_more : ℕ → List LastRead → List LastRead
went_more zero before = gave_some ∷ before
went_more (suc zero) before = failed ∷ before
went_more (suc (suc zero)) before = failed ∷ before
went_more (suc (suc (suc zero))) before = before
went_more (suc (suc (suc (suc zero)))) before = gave_none ∷ before
went_more (suc (suc (suc (suc (suc k))))) before = failed ∷ before

abbrev pub went_of : List Event → List LastRead
went_of [] = []
went_of (e ∷ es) = went_more e.0 (went_of es)

-- how the reads of the port below went, the last first
abbrev pub asked_more : ℕ → List LastRead → List LastRead
asked_more zero before = gave_some ∷ before
asked_more (suc zero) before = gave_some ∷ before
asked_more (suc (suc zero)) before = before
asked_more (suc (suc (suc zero))) before = before
asked_more (suc (suc (suc (suc zero)))) before = gave_none ∷ before
asked_more (suc (suc (suc (suc (suc k))))) before = failed ∷ before

abbrev pub asked : List Event → List LastRead
asked [] = []
asked (e ∷ es) = asked_more e.0 (asked es)

-- how many reads failed here
abbrev pub fails_more : ℕ → ℕ → ℕ
fails_more zero before = before
fails_more (suc zero) before = 1
fails_more (suc (suc zero)) before = before + 1
fails_more (suc (suc (suc k))) before = before

abbrev pub failures : List Event → ℕ
failures [] = 0
failures (e ∷ es) = fails_more e.0 (failures es)

-- the connections given, after a read that failed, and after one more was opened
abbrev pub marked : Option (List Given) → Option (List Given)
marked None = None
marked (Some gs) = Some (given_more gs [] failed)

abbrev pub joined_by : Option (List Given) → Option (List Given)
joined_by None = None
joined_by (Some gs) = Some (gs ++ fresh ∷ [])

abbrev pub given_by : Option (List Given) → ℕ → Option (List Given) → Option (List Given)
given_by base zero before = before
given_by base (suc zero) before = marked base
given_by base (suc (suc zero)) before = marked before
given_by base (suc (suc (suc zero))) before = joined_by before
given_by base (suc (suc (suc (suc k)))) before = before

abbrev pub given_later : Option (List Given) → List Event → Option (List Given)
given_later base [] = base
given_later base (e ∷ es) = given_by base e.0 (given_later base es)

-- what is told where no piece was refused
abbrev pub calm : Aside → Aside
calm inner = record inner { plan = None }

-- what is told where one was: the port below, as it was before that piece and now
abbrev pub late : Aside → Aside → List Event → Aside
late inner base es = record inner {
  plan = None;
  rest = cond (opened_later es) inner.rest base.rest;
  given = given_later base.given es;
  taken = cond (opened_later es) inner.taken base.taken;
  read_faults = inner.read_faults + failures es;
}

abbrev pub told_by : Bool → Aside → Aside → List Event → Aside
told_by b inner base es = cond b (late inner base es) (calm inner)

-- what a port tells that keeps what it gives
abbrev pub keep_aside : Aside → Aside → List Event → Aside
keep_aside inner base es = told_by (is_refused es) inner base es

-- the ports and archives now, as they were when it was made, and the port before its last read
pub record KeepPortValue (P D : Type 0) : Type 0 where
  pub inner : P
  pub archive : ArchiveValue D
  pub first : P
  pub made : ArchiveValue D
  pub before : P
  pub events : List Event
  pub refused : Option AppendFault

-- what it was made over
abbrev pub made_over : {P D : Type 0} → (P → Aside) → (P → ℕ) → (D → DiskValue) → (D → ℕ) → P → ArchiveValue D → MadeOver
made_over shows calls disk faults first made = record { shows = shows first; calls = calls first; disk = record { value = disk made.disk; faults = faults made.disk }; place = made.place; stopped = made.stopped }

abbrev pub stays_of : {P D : Type 0} → (P → Aside) → (P → ℕ) → (D → DiskValue) → (D → ℕ) → KeepPortValue P D → Option MadeOver
stays_of shows calls disk faults k = Some (made_over shows calls disk faults k.first k.made)

-- the file holds the first content, then a front of these bytes
pub record HasFrontOf (first bytes file : List ℕ) : Type 0 where
  pub front : List ℕ
  pub back : List ℕ
  pub parts : bytes ≡ front ++ back
  pub has : Holds file (first ++ front)

-- the file holds the first content, then at least these bytes, and no more than those
pub record HasBetween (first least most file : List ℕ) : Type 0 where
  pub front : List ℕ
  pub back : List ℕ
  pub parts : most ≡ least ++ front ++ back
  pub has : Holds file (first ++ least ++ front)

-- A run over these notes, from a disk whose images held this content. A crash between a note and the one before it leaves
-- the content, then every byte that was given before, and no more than what was then given or refused.
abbrev pub RanOver : List ℕ → List Event → DiskValue → DiskValue → Type 0
RanOver first [] made now = Rests made now
RanOver first (e ∷ es) made now = (mid : DiskValue) × RanOver first es made mid × Passes (HasBetween first (gave es) (gave (e ∷ es) ++ lost (e ∷ es))) mid now

-- The same run as a whole.
pub record Ran (first : List ℕ) (es : List Event) (made now : DiskValue) : Type 0 where
  pub over : RanOver first es made now
  -- a crash at any moment of it leaves the content and a front of what the port below gave
  pub any_moment : Passes (HasFrontOf first (gave es ++ lost es)) made now
  -- and now it leaves all that was given, and at most the refused piece more
  pub present : (c : List ℕ) → IsImage now.now c → Holds c (first ++ gave es) ⊎ Holds c (first ++ gave es ++ lost es)

-- what holds of each port that keeps what it gives
pub record HasKept (tells : Type 0) (made now : DiskValue) (es : List Event) : Type 0 where
  pub run : tells → (first : List ℕ) → HasOnly made.now first → Ran first es made now
  pub none : is_refused es ≡ false → lost es ≡ []
  -- the piece that was refused is one of a read
  pub small : length (lost es) ≤ most_read

-- the bytes of these connections, one after another
abbrev pub all_bytes : List Given → List ℕ
all_bytes [] = []
all_bytes (g ∷ gs) = g.bytes ++ all_bytes gs

-- the connections that are told have these bytes, and there is one where one is open
pub record Told (now : Aside) (bytes : List ℕ) : Type 0 where
  pub given : List Given
  pub given_is : now.given ≡ Some given
  pub bytes_are : all_bytes given ≡ bytes
  pub present : now.is_open ≡ true → given ≡ [] → ⊥

-- The same of a port that told no connection and none open at first.
pub record TellsBytes (first now : Aside) (bytes : List ℕ) : Type 0 where
  pub told : first.given ≡ Some [] → first.is_open ≡ false → Told now bytes

-- the port below has its plan still, gave what was kept and the piece that was refused, and failed only where its plan
-- fails a call
pub record InnerGave (first inner : Aside) (es : List Event) : Type 0 where
  pub plan : inner.plan ≡ first.plan
  pub told : TellsBytes first inner (gave es ++ lost es)
  pub later : first.read_faults ≤ inner.read_faults
  pub calm : (plan : Plan) → first.plan ≡ Some plan → plan.fails ≡ [] → (inner.read_faults ≡ first.read_faults) × (inner.open_faults ≡ first.open_faults)

-- the port below follows its plan, and where no piece was refused its reads went as those of this port
pub record KeepsPlan (first inner : Aside) (before calls : ℕ) (es : List Event) : Type 0 where
  pub follows : Follows first inner before calls (asked es)
  pub same : is_refused es ≡ false → asked es ≡ went_of es

-- The closing byte's place grew by one at least and six at most for each byte that was given, and a full archive has no room
-- for the record of the refused piece, nor for six bytes for each that the port below gave.
pub record KeepsPlace (made now : ℕ) (es : List Event) (refused : Option AppendFault) : Type 0 where
  pub least : (refused ≡ Some DiskFailed → ⊥) → made + length (gave es) ≤ now
  pub small : (refused ≡ Some DiskFailed → ⊥) → now ≤ made + 6 * length (gave es)
  pub full : refused ≡ Some Full → most_archive < now + 6 + length (lost es)
  pub long : refused ≡ Some Full → most_archive < made + 6 * length (gave es ++ lost es) + 1
  -- the piece that was refused has a byte
  pub some : is_refused es ≡ true → 0 < length (lost es)

-- the disk's count rose exactly where the append that was refused failed
abbrev pub KeepCause : ℕ → ℕ → Option AppendFault → Type 0
KeepCause before now None = now ≡ before
KeepCause before now (Some DiskFailed) = (before ≤ now) × Rose before now
KeepCause before now (Some Full) = now ≡ before
KeepCause before now (Some Stopped) = now ≡ before

-- The disk has its plan and its room still, and an append failed only where the plan fails a call or there is no room for
-- six bytes for each that the port below gave, after the closing byte's place as it was.
pub record KeepsDisk (tells : Type 0) (made now : DiskValue) (place : ℕ) (es : List Event) (refused : Option AppendFault) : Type 0 where
  pub lasts : tells → Lasts made now
  pub planned : tells → refused ≡ Some DiskFailed → IsSound made (place + 6 * length (gave es ++ lost es) + 1) → ⊥

-- an archive that had not failed before is never refused as one that had, and goes on but where the disk failed
pub record KeepsGoing (made now : Bool) (refused : Option AppendFault) : Type 0 where
  pub same : (refused ≡ Some DiskFailed → ⊥) → now ≡ made
  pub stopped : refused ≡ Some Stopped → made ≡ true

-- where the disk failed no append, a crash leaves exactly what was given
pub record KeepsExactly (tells : Type 0) (made now : DiskValue) (es : List Event) (refused : Option AppendFault) : Type 0 where
  pub exact : tells → (first : List ℕ) → HasOnly made.now first → (refused ≡ Some DiskFailed → ⊥) → HasOnly now.now (first ++ gave es)
