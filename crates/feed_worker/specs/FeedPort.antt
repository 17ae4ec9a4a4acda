-- When a lane may be given more bytes, or the next connection: nothing whole is unpublished, or nothing at all.
use Rattle.std.specs.Prelude.{◌≡◌, ◌⊎◌, ℕ, List, [], ◌∷◌, ◌++◌, Option, None, Some}
use Rattle.bmp_specs.specs.Life.{Given}
use Rattle.bmp_specs.specs.Meaning.{Meaning, WalksBy}
use Rattle.bmp_specs.specs.Values.{ClosingValue, EntryValue, OpeningValue, opened, closed}
use Rattle.bmp_specs.specs.Walk.{Verdict}

-- by this meaning of bodies the entries since the last opening are exactly the messages of these bytes
pub record IsPublished (meaning : Meaning) (entries : List EntryValue) (bytes : List ℕ) : Type 0 where
  pub before : List EntryValue
  pub messages : List EntryValue
  pub offset : ℕ
  pub verdict : Verdict
  pub came : OpeningValue
  pub walk : WalksBy meaning bytes messages offset verdict
  pub is : entries ≡ before ++ opened came ∷ messages

-- the bytes that the present connection gave
abbrev pub present_of : List Given → List ℕ
present_of [] = []
present_of (g ∷ []) = g.bytes
present_of (g ∷ h ∷ gs) = present_of (h ∷ gs)

-- the present connection gave these bytes, where the connections given are told
abbrev pub IsPresent : Option (List Given) → List ℕ → Type 0
IsPresent None bytes = Unit {0}
IsPresent (Some given) bytes = present_of given ≡ bytes

-- the entries are published of what the present connection gave, where the connections given are told
abbrev pub IsPublishedWhereTold : Meaning → List EntryValue → Option (List Given) → Type 0
IsPublishedWhereTold meaning entries None = Unit {0}
IsPublishedWhereTold meaning entries (Some given) = IsPublished meaning entries (present_of given)

-- One more read is made, after so many bytes of its connection. After how many the last read began, before that and
-- then, where that is kept.
abbrev pub BeginsAfter : Option ℕ → Option ℕ → ℕ → Type 0
BeginsAfter None new taken = new ≡ None
BeginsAfter (Some old) new taken = new ≡ Some taken

-- nothing of a connection is unpublished: there is no entry, or the last one is a closing
abbrev pub IsAtRest : List EntryValue → Type 0
IsAtRest entries = (entries ≡ []) ⊎ ((before : List EntryValue) × (closing : ClosingValue) × (entries ≡ before ++ closed closing ∷ []))
