-- What the parts of a connection do: one line, one piece of the input.
use Rattle.std.specs.Prelude.{◌≡◌, ◌⊎◌, ℕ, Bool, true, false, List, ◌++◌, Option, None, Some}
use Rattle.std.specs.Io.KnownBytes.{Appends}
use Rattle.cut_publisher.specs.History.{Begins, revision}
use Rattle.ask_session.specs.declared.close.Close.{Close}
use Rattle.ask_session.specs.declared.close.Close.TheVariants.{Ended, Full, Over, ReadFault, WriteFault}
use Rattle.ask_session.specs.Lines.{HasNoEnd, IsTooMany}
use Rattle.ask_session.specs.Replies.{History, Heard, IsHeard, IsAnswer, is_over}
use Rattle.ask_session.specs.Dialogue.{Dialogue, EndsWith}
use Rattle.ask_session.specs.Connection.{HasWritten}

-- ways to end before the input does
abbrev pub IsEarly : Close → Type 0
IsEarly Over = Unit {0}
IsEarly WriteFault = Unit {0}
IsEarly Ended = ⊥
IsEarly Full = ⊥
IsEarly ReadFault = ⊥

-- ways to end with the input
abbrev pub IsEnd : Close → Type 0
IsEnd Ended = Unit {0}
IsEnd Full = Unit {0}
IsEnd Over = ⊥
IsEnd ReadFault = ⊥
IsEnd WriteFault = ⊥

-- what was written of this text, and whether the connection ends
abbrev pub Answers : Option Close → Bool → List ℕ → Option (List ℕ) → Option (List ℕ) → ℕ → ℕ → Type 0
Answers None over text told told' writes writes' = (over ≡ false) × Appends told told' text × (writes' ≡ writes)
Answers (Some close) over text told told' writes writes' = IsEarly close × EndsWith close over × HasWritten close text told told' writes writes'

-- a reply was written, after which a line counts
pub record HasReplied (IsText : List ℕ → Type 0) (result : Option Close) (told told' : Option (List ℕ)) (writes writes' : ℕ) : Type 0 where
  pub text : List ℕ
  pub is_text : IsText text
  pub answers : Answers result false text told told' writes writes'

-- a line was answered, of what was then seen
pub record Replied (lanes : ℕ) (line : List ℕ) (seen : History) (told told' : Option (List ℕ)) (writes writes' : ℕ) (result : Option Close) : Type 0 where
  pub heard : Heard
  pub text : List ℕ
  pub is_heard : IsHeard line heard
  pub is_answer : IsAnswer lanes seen heard text
  pub answers : Answers result (is_over heard) text told told' writes writes'

-- of the bytes `from` all but the last, `to`, were answered by `written`, whatever follows
pub record Turns (lanes : ℕ) (seen seen' : History) (from to written : List ℕ) : Type 0 where
  pub sees : Begins seen seen'
  pub go : (close : Close) (ended : Bool) (history : History) (t back : List ℕ) → Begins seen' history
      → Dialogue lanes close ended history (revision seen') (to ++ t) back → Dialogue lanes close ended history (revision seen) (from ++ t) (written ++ back)

-- the connection goes on: so much of `from` was answered, and `pending` is held
pub record Goes (lanes : ℕ) (seen seen' : History) (from pending : List ℕ) (told told' : Option (List ℕ)) (writes writes' : ℕ) : Type 0 where
  pub written : List ℕ
  pub turns : Turns lanes seen seen' from pending written
  pub plain : HasNoEnd pending
  pub few : IsTooMany pending → ⊥
  pub told_is : Appends told told' written
  pub calm : writes' ≡ writes

-- the connection ended, and `from` are its bytes
pub record Halts (lanes : ℕ) (close : Close) (ended : Bool) (seen seen' : History) (from : List ℕ) (told told' : Option (List ℕ)) (writes writes' : ℕ) : Type 0 where
  pub sees : Begins seen seen'
  pub replies : List ℕ
  pub talk : Dialogue lanes close ended seen' (revision seen) from replies
  pub written : HasWritten close replies told told' writes writes'

-- what a piece of the input leads to
abbrev pub Hears : ℕ → Option Close → (seen seen' : History) → (pending piece pending' : List ℕ) → Option (List ℕ) → Option (List ℕ) → ℕ → ℕ → Type 0
Hears lanes None seen seen' pending piece pending' told told' writes writes' = Goes lanes seen seen' (pending ++ piece) pending' told told' writes writes'
Hears lanes (Some close) seen seen' pending piece pending' told told' writes writes' = IsEarly close × Halts lanes close false seen seen' (pending ++ piece) told told' writes writes'

-- the connection ended as the input did, or by its last line
pub record EndsSo (lanes : ℕ) (close result : Close) (seen seen' : History) (pending : List ℕ) (told told' : Option (List ℕ)) (writes writes' : ℕ) : Type 0 where
  pub which : (result ≡ close) ⊎ IsEarly result
  pub halts : Halts lanes result true seen seen' pending told told' writes writes'
