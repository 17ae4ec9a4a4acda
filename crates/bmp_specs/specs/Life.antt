-- The life of a connection, a notion of ours: its opening, the messages of the bytes that were taken of it, and its closing.
use Rattle.std.specs.Prelude.{◌≡◌, ℕ, ◌-◌, ◌^◌, ◌<◌, ◌≤◌, ◌==◌, Option, List, [], ◌∷◌, ◌++◌, length, take, if◌then◌else◌}
use Rattle.bmp_specs.specs.declared.causes.Cause.{Cause}
use Rattle.bmp_specs.specs.declared.causes.Cause.TheVariants.{Ended, Terminated, CutShort, Broken, ReadFault, Full}
use Rattle.bmp_specs.specs.Values.{EntryValue, OpeningValue, opened, closed}
use Rattle.bmp_specs.specs.Meaning.{Meaning, WalksBy}
use Rattle.bmp_specs.specs.Walk.{Verdict, whole, more, terminated, broken}

-- how the last read of a connection went: it gave bytes, or none was made; it gave no bytes; it failed
pub data LastRead : Type 0 where
  gave : LastRead
  gave_none : LastRead
  failed : LastRead

-- a connection that was given: its bytes that were given, and how its last read went
pub record Given : Type 0 where
  pub bytes : List ℕ
  pub last : LastRead

-- the most bytes that are taken of one connection
abbrev pub most_taken : ℕ
most_taken = 2 ^ 46

-- the most bytes that one read gives
abbrev pub most_read : ℕ
most_read = 65536

-- the cause fits a connection: so many bytes were taken of it, its last read went so, and its walk has this verdict at
-- this offset
abbrev pub Fits : ℕ → LastRead → Verdict → ℕ → Cause → Type 0
Fits taken last verdict offset Terminated = verdict ≡ terminated
Fits taken last verdict offset (Broken at why) = (verdict ≡ broken why) × (at ≡ offset)
Fits taken last verdict offset Full = taken ≡ most_taken
Fits taken last verdict offset Ended = (last ≡ gave_none) × (verdict ≡ whole)
Fits taken last verdict offset (CutShort at) = (last ≡ gave_none) × (verdict ≡ more) × (at ≡ offset)
Fits taken last verdict offset (ReadFault at) = (last ≡ failed) × (at ≡ taken)

-- which cause is given where several fit: the one with the least rank
abbrev pub cause_rank : Cause → ℕ
cause_rank Terminated = 0
cause_rank (Broken at why) = 1
cause_rank Full = 2
cause_rank Ended = 3
cause_rank (CutShort at) = 4
cause_rank (ReadFault at) = 5

-- the first cause that fits
pub record IsCause (taken : ℕ) (last : LastRead) (verdict : Verdict) (offset : ℕ) (cause : Cause) : Type 0 where
  pub fits : Fits taken last verdict offset cause
  pub first : (other : Cause) → cause_rank other < cause_rank cause → Fits taken last verdict offset other → ⊥

-- by this meaning of bodies the walk of the bytes that were taken has these messages, and this is the cause of the
-- connection's end
pub record HasCome (meaning : Meaning) (input : Given) (messages : List EntryValue) (cause : Cause) : Type 0 where
  pub offset : ℕ
  pub verdict : Verdict
  pub within : length input.bytes ≤ most_taken
  pub walk : WalksBy meaning input.bytes messages offset verdict
  pub because : IsCause (length input.bytes) input.last verdict offset cause

-- the walk of these bytes, whatever comes after them, has these messages and this verdict
abbrev pub EndsAt : Meaning → List ℕ → List EntryValue → ℕ → Verdict → Type 0
EndsAt meaning bytes messages offset verdict = (after : List ℕ) → WalksBy meaning (bytes ++ after) messages offset verdict

-- the same, with the cause of the end, where the bytes decide it
abbrev pub EndsBy : Meaning → List ℕ → List EntryValue → Cause → Type 0
EndsBy meaning bytes messages Terminated = (offset : ℕ) × EndsAt meaning bytes messages offset terminated
EndsBy meaning bytes messages (Broken offset why) = EndsAt meaning bytes messages offset (broken why)
EndsBy meaning bytes messages Ended = ⊥
EndsBy meaning bytes messages (CutShort offset) = ⊥
EndsBy meaning bytes messages (ReadFault offset) = ⊥
EndsBy meaning bytes messages Full = ⊥

-- the cause of a connection that ended with so many bytes after its messages
abbrev pub cause_at_end : ℕ → ℕ → Cause
cause_at_end rest offset = if rest == 0 then Ended else CutShort offset

-- the entries are the life of a connection of which these bytes were taken
pub record IsLife (meaning : Meaning) (bytes : List ℕ) (last : LastRead) (life : List EntryValue) : Type 0 where
  pub messages : List EntryValue
  pub offset : ℕ
  pub verdict : Verdict
  pub cause : Cause
  pub came : OpeningValue
  pub until : Option ℕ
  pub within : length bytes ≤ most_taken
  pub walk : WalksBy meaning bytes messages offset verdict
  pub because : IsCause (length bytes) last verdict offset cause
  pub is : life ≡ opened came ∷ (messages ++ closed (record { cause = cause; until = until }) ∷ [])

-- the same of a connection that wasn't closed
pub record IsOpenLife (meaning : Meaning) (bytes : List ℕ) (life : List EntryValue) : Type 0 where
  pub messages : List EntryValue
  pub offset : ℕ
  pub verdict : Verdict
  pub came : OpeningValue
  pub within : length bytes ≤ most_taken
  pub walk : WalksBy meaning bytes messages offset verdict
  pub is : life ≡ opened came ∷ messages

-- the walk goes on where more bytes come
abbrev pub IsUndecided : Verdict → Type 0
IsUndecided whole = Unit {0}
IsUndecided more = Unit {0}
IsUndecided terminated = ⊥
IsUndecided (broken why) = ⊥

-- what was taken before the last read, or more of it, doesn't decide the walk: nothing is read once it is decided
pub record IsReadNoFurther (meaning : Meaning) (bytes : List ℕ) : Type 0 where
  pub messages : List EntryValue
  pub offset : ℕ
  pub verdict : Verdict
  pub walk : WalksBy meaning (take (length bytes - most_read) bytes) messages offset verdict
  pub undecided : IsUndecided verdict
