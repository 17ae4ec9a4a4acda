-- A meaning of the bodies of messages, in our words. Walks and lives are defined over any meaning: that of the RFCs is
-- `strict` in MessageEffects.
use Rattle.std.specs.Prelude.{◌≡◌, ℕ, List}
use Rattle.bmp_specs.specs.Values.{EntryValue}
use Rattle.bmp_specs.specs.Walk.{Verdict, Walks}

pub record Meaning : Type 1 where
  -- what is known of a stream from its messages so far
  pub State : Type 0
  -- what is known as a connection begins
  pub start : State
  -- under the state a body of this type has this entry, and leaves this state
  pub Means : State → ℕ → List ℕ → EntryValue → State → Type 0

-- under each state a body has one entry at most, and leaves one state
abbrev pub IsExact : Meaning → Type 0
IsExact meaning = (s t u : meaning.State) (kind : ℕ) (body : List ℕ) (e f : EntryValue) → meaning.Means s kind body e t → meaning.Means s kind body f u → (e ≡ f) × (t ≡ u)

-- the bytes of a connection are messages with these entries and a rest, with the length of all messages and the verdict
abbrev pub WalksBy : Meaning → List ℕ → List EntryValue → ℕ → Verdict → Type 0
WalksBy meaning bytes entries offset verdict = Walks meaning.Means meaning.start bytes entries offset verdict
