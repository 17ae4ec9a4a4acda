-- What the entries of the input go to, one after another.
use Rattle.std.specs.Prelude.{◌≡◌, ℕ, List, ◌∷◌, length, Option, Some, None}
use Rattle.bmp_specs.specs.declared.causes.Cause.{Cause}
use Rattle.bmp_specs.specs.Life.{EndsBy}
use Rattle.bmp_specs.specs.Meaning.{Meaning, WalksBy}
use Rattle.bmp_specs.specs.Openings.{nothing_told}
use Rattle.bmp_specs.specs.Reply.{told_count}
use Rattle.bmp_specs.specs.Values.{EntryValue, opened}
use Rattle.bmp_message.specs.StreamWalk.{WalkValue, HasReached, rest_of, verdict_with}

-- the account stands for an opening of which nothing is told, and these messages, so many entries
pub record HasNoted (Stands : List EntryValue → Type 0) (messages : List EntryValue) (revision : ℕ) : Type 0 where
  pub noted : Stands (opened nothing_told ∷ messages)
  pub count : revision ≡ told_count (length (opened nothing_told ∷ messages))

-- A walk of these bytes gave the messages that were noted, in this meaning of bodies. The state says what its reading
-- knows.
pub record HasDrawn {R : Type 0} (meaning : Meaning) (state : R → meaning.State) (Stands : List EntryValue → Type 0) (fed : List ℕ) (walk : WalkValue R) (revision : ℕ) : Type 0 where
  pub messages : List EntryValue
  pub reached : HasReached meaning state fed messages walk
  pub noted : HasNoted Stands messages revision

-- all whole messages of the bytes were noted, and the walk goes on where more comes
pub record IsDrained {R : Type 0} (meaning : Meaning) (state : R → meaning.State) (Stands : List EntryValue → Type 0) (fed : List ℕ) (walk : WalkValue R) (revision : ℕ) : Type 0 where
  pub messages : List EntryValue
  pub reached : HasReached meaning state fed messages walk
  pub walks : WalksBy meaning fed messages walk.offset (verdict_with (rest_of walk))
  pub noted : HasNoted Stands messages revision

-- all messages of the bytes were noted, and the walk ends here
pub record IsEnded (meaning : Meaning) (Stands : List EntryValue → Type 0) (fed : List ℕ) (revision : ℕ) (cause : Cause) : Type 0 where
  pub messages : List EntryValue
  pub ends : EndsBy meaning fed messages cause
  pub noted : HasNoted Stands messages revision

-- what was drawn of a walk
abbrev pub Draws : {R : Type 0} (meaning : Meaning) (state : R → meaning.State) → (List EntryValue → Type 0) → List ℕ → WalkValue R → ℕ → Option Cause → Type 0
Draws meaning state Stands fed walk revision None = IsDrained meaning state Stands fed walk revision
Draws meaning state Stands fed walk revision (Some cause) = IsEnded meaning Stands fed revision cause
