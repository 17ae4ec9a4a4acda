-- The walk of a stream (RFC 7854, section 4.1) that comes in pieces: what any run of its calls gives.
use Rattle.std.specs.Prelude.{◌≡◌, ℕ, ◌+◌, ◌-◌, ◌<◌, ◌≤◌, ◌==◌, List, [], ◌∷◌, ◌++◌, length, Option, None, Some, Result, Ok, if◌then◌else◌}
use Rattle.bmp_specs.specs.declared.causes.Cause.{Cause}
use Rattle.bmp_specs.specs.Frame.{IsFrame}
use Rattle.bmp_specs.specs.Life.{EndsAt, EndsBy}
use Rattle.bmp_specs.specs.Meaning.{Meaning, WalksBy}
use Rattle.bmp_specs.specs.Values.{EntryValue}
use Rattle.bmp_specs.specs.Walk.{Verdict, whole, more, terminated, broken, HasWalked, termination}
use Rattle.bmp_frames.specs.Cutter.{CutterValue}
use Rattle.wire_io.specs.declared.bytes.NoMemory.{NoMemory}
use Rattle.bmp_message.specs.declared.walk.Progress.{Progress}
use Rattle.bmp_message.specs.declared.walk.Progress.TheVariants as progress
use Rattle.bmp_message.specs.declared.walk.Stage.{Stage}
use Rattle.bmp_message.specs.declared.walk.Stage.TheVariants as stage

-- what a walk holds: the reading of the messages so far, the bytes that were fed and not cut, the length of the
-- messages whose entries were given, and where it stands between two calls
pub record WalkValue (R : Type 0) : Type 0 where
  pub reading : R
  pub cutter : CutterValue
  pub offset : ℕ
  pub stage : Stage

-- how many bytes were fed
abbrev pub fed_of : {R : Type 0} → WalkValue R → ℕ
fed_of w = w.cutter.offset + length w.cutter.pending

-- how many bytes were fed beyond the messages whose entries were given
abbrev pub rest_of : {R : Type 0} → WalkValue R → ℕ
rest_of w = fed_of w - w.offset

-- by this meaning of bodies the bytes are those of messages with these entries, none of them a Termination, and then the
-- rest
pub record HasRead (meaning : Meaning) (fed : List ℕ) (given : List EntryValue) (state : meaning.State) (rest : List ℕ) (offset : ℕ) : Type 0 where
  pub front : List ℕ
  pub split : fed ≡ front ++ rest
  pub place : offset ≡ length front
  pub walked : HasWalked meaning.Means meaning.start state front given

-- a message of this type stands after what was read, and then what is pending
pub record HasCutNext {R : Type 0} (meaning : Meaning) (state : R → meaning.State) (fed : List ℕ) (given : List EntryValue) (w : WalkValue R) (kind : ℕ) : Type 0 where
  pub frame : List ℕ
  pub is_frame : IsFrame frame kind w.cutter.body
  pub read : HasRead meaning fed given (state w.reading) (frame ++ w.cutter.pending) w.offset

abbrev pub Stands : {R : Type 0} (meaning : Meaning) (state : R → meaning.State) → List ℕ → List EntryValue → WalkValue R → Stage → Type 0
Stands meaning state fed given w stage.Between = HasRead meaning fed given (state w.reading) w.cutter.pending w.offset
Stands meaning state fed given w (stage.Within kind) = HasCutNext meaning state fed given w kind
Stands meaning state fed given w stage.Terminated = EndsAt meaning fed given w.offset terminated
Stands meaning state fed given w (stage.Broken why) = EndsAt meaning fed given w.offset (broken why)

-- A run of calls fed these bytes in all and gave these entries, in this meaning of bodies. The state says what a reading
-- knows of the messages so far.
pub record HasReached {R : Type 0} (meaning : Meaning) (state : R → meaning.State) (fed : List ℕ) (given : List EntryValue) (w : WalkValue R) : Type 0 where
  pub count : length fed ≡ fed_of w
  pub stands : Stands meaning state fed given w w.stage

-- the verdict where nothing more comes: whole where no byte is left over
abbrev pub verdict_with : ℕ → Verdict
verdict_with rest = if rest == 0 then whole else more

-- the walk gave all whole messages of these bytes, which are these, and goes on where more comes
pub record HasGiven {R : Type 0} (meaning : Meaning) (state : R → meaning.State) (fed : List ℕ) (messages : List EntryValue) (walk : WalkValue R) : Type 0 where
  pub reached : HasReached meaning state fed messages walk
  pub walks : WalksBy meaning fed messages walk.offset (verdict_with (rest_of walk))

-- the walk gave all messages of these bytes, and goes on, or ends for a cause
abbrev pub Gives : {R : Type 0} (meaning : Meaning) (state : R → meaning.State) → List ℕ → List EntryValue → WalkValue R → Option Cause → Type 0
Gives meaning state fed messages walk None = HasGiven meaning state fed messages walk
Gives meaning state fed messages walk (Some cause) = EndsBy meaning fed messages cause

-- The run goes on with this answer: one more message was given; or the walk of the bytes, if nothing more comes,
-- gives the entries given; or the walk ends here, whatever comes.
abbrev pub GoesOn : {R T : Type 0} (meaning : Meaning) (state : R → meaning.State) → (T → EntryValue → Type 0) → List ℕ → List EntryValue → WalkValue R → Progress T → Type 0
GoesOn meaning state IsOf fed given new (progress.Message item) = (entry : EntryValue) × IsOf item entry × HasReached meaning state fed (given ++ entry ∷ []) new
GoesOn meaning state IsOf fed given new progress.More = HasReached meaning state fed given new × WalksBy meaning fed given new.offset (verdict_with (rest_of new))
GoesOn meaning state IsOf fed given new progress.Terminated = HasReached meaning state fed given new × EndsAt meaning fed given new.offset terminated
GoesOn meaning state IsOf fed given new (progress.Broken why) = HasReached meaning state fed given new × EndsAt meaning fed given new.offset (broken why)

-- any run that came to the walk as it was goes on with this answer
abbrev pub RunsOn : {R T : Type 0} (meaning : Meaning) (state : R → meaning.State) → (T → EntryValue → Type 0) → WalkValue R → WalkValue R → Progress T → Type 0
RunsOn meaning state IsOf old new answer = (fed : List ℕ) (given : List EntryValue) → HasReached meaning state fed given old → GoesOn meaning state IsOf fed given new answer

-- how a walk moves; the bytes fed stay in each case
abbrev pub Advances : {R T : Type 0} → WalkValue R → WalkValue R → Progress T → Type 0
Advances old new (progress.Message item) = (fed_of new ≡ fed_of old) × (rest_of new < rest_of old)
Advances old new progress.More = (new ≡ old) × (old.stage ≡ stage.Between)
Advances old new progress.Terminated = (new ≡ old) × (old.stage ≡ stage.Terminated)
Advances old new (progress.Broken why) = (fed_of new ≡ fed_of old) × (new.offset ≡ old.offset) × (new.stage ≡ stage.Broken why)

-- after an end each call tells it again, and nothing moves
abbrev pub Repeats : {R T : Type 0} → Stage → WalkValue R → WalkValue R → Result (Progress T) NoMemory → Type 0
Repeats stage.Between old new result = Unit {0}
Repeats (stage.Within kind) old new result = Unit {0}
Repeats stage.Terminated old new result = (result ≡ Ok progress.Terminated) × (new ≡ old)
Repeats (stage.Broken why) old new result = (result ≡ Ok (progress.Broken why)) × (new ≡ old)

-- nothing was given, and the run goes on as before
pub record IsAsBefore {R : Type 0} (meaning : Meaning) (state : R → meaning.State) (old new : WalkValue R) : Type 0 where
  pub fed : fed_of new ≡ fed_of old
  pub offset : new.offset ≡ old.offset
  pub run : (fed : List ℕ) (given : List EntryValue) → HasReached meaning state fed given old → HasReached meaning state fed given new

-- what the offset is beside the bytes that were cut
abbrev pub FitsStage : ℕ → CutterValue → Stage → Type 0
FitsStage offset cutter stage.Between = offset ≡ cutter.offset
FitsStage offset cutter (stage.Within kind) = (offset < cutter.offset) × (length cutter.body ≤ 1048570)
FitsStage offset cutter stage.Terminated = offset ≤ cutter.offset
FitsStage offset cutter (stage.Broken why) = offset ≤ cutter.offset

pub record FitsWalk (offset : ℕ) (cutter : CutterValue) (at : Stage) : Type 0 where
  pub within : offset ≤ cutter.offset
  pub here : FitsStage offset cutter at

-- where a walk stands after a message of this type
abbrev pub next_stage : ℕ → Stage
next_stage kind = if kind == termination then stage.Terminated else stage.Between
