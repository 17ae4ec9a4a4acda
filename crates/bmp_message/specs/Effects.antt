-- The effects of the message that a body means.
use Rattle.std.specs.Prelude.{◌≡◌, ℕ, ◌+◌, List, length}
use Rattle.bmp_specs.specs.Frame.{least}
use Rattle.bmp_specs.specs.Meaning.{Meaning}
use Rattle.bmp_specs.specs.MessageBody.{ReadingState}
use Rattle.bmp_specs.specs.MessageEffects.{effects_of}
use Rattle.bmp_specs.specs.Values.{EffectValue, EntryValue, HeadValue, MessageValue, message}

-- a message is meant that has these effects, and it leaves this state
pub record HasEffects (Means : MessageValue → ReadingState → Type 0) (effects : List EffectValue) (next : ReadingState) : Type 0 where
  pub value : MessageValue
  pub means : Means value next
  pub effects_are : effects ≡ effects_of value

-- this was made of the effects that are read, and it leaves this state
abbrev pub IsMade : {T S : Type 0} → (T → List EffectValue → Type 0) → (List EffectValue → S → Type 0) → T → S → Type 0
IsMade IsOf Reads made next = (effects : List EffectValue) × IsOf made effects × Reads effects next

-- no effects are read
abbrev pub ReadsNothing : {S : Type 0} → (List EffectValue → S → Type 0) → Type 0
ReadsNothing {S} Reads = (effects : List EffectValue) (next : S) → Reads effects next → ⊥

-- nothing is meant that has an entry
abbrev pub MeansNoEntry : {S : Type 0} → (EntryValue → S → Type 0) → Type 0
MeansNoEntry {S} Means = (e : EntryValue) (next : S) → Means e next → ⊥

-- the entry is that of a message of this type and this length
pub record HasTypeAndLength (kind size : ℕ) (entry : EntryValue) : Type 0 where
  pub head : HeadValue
  pub effects : List EffectValue
  pub kind_is : head.kind ≡ kind
  pub size_is : head.size ≡ size
  pub entry_is : entry ≡ message head effects

-- the entry is that of a message of this type with this body: it has its type and its whole length
abbrev pub IsOfMessage : ℕ → List ℕ → EntryValue → Type 0
IsOfMessage kind body entry = HasTypeAndLength kind (least + length body) entry

-- an entry that a body has is that of its message
abbrev pub GivesMessages : Meaning → Type 0
GivesMessages meaning = (known next : meaning.State) (kind : ℕ) (body : List ℕ) (entry : EntryValue) → meaning.Means known kind body entry next → IsOfMessage kind body entry
