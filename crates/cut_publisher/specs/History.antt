-- Histories: entries, each of a lane, in one list. The mark may stand at its end.
use Rattle.std.specs.Prelude.{◌≡◌, ℕ, Bool, ◌+◌, ◌<◌, eqb, cond, List, [], ◌∷◌, ◌++◌}
use Rattle.logbook.specs.Pages.{Book}
use Rattle.cut_publisher.specs.declared.history.Event.{Event}
use Rattle.cut_publisher.specs.declared.history.Event.TheVariants.{Of, Finish}
use Rattle.cut_publisher.specs.declared.history.Step.{Step}
use Rattle.cut_publisher.specs.declared.history.Step.TheVariants.{Batch, End}

-- ys begins with xs
pub record Begins {A : Type 0} (xs ys : List A) : Type 0 where
  pub rest : List A
  pub is : xs ++ rest ≡ ys

module _ {E : Type 0} where
  -- the entries of a lane, in the history's order
  abbrev pub part : ℕ → List (Event E) → List E
  part lane [] = []
  part lane (Of k e ∷ h) = cond (eqb k lane) (e ∷ part lane h) (part lane h)
  part lane (Finish ∷ h) = part lane h

  -- the number of entries; the mark is not counted
  abbrev pub revision : List (Event E) → ℕ
  revision [] = 0
  revision (Of k e ∷ h) = 1 + revision h
  revision (Finish ∷ h) = revision h

  -- the mark is not in the history
  abbrev pub IsUnmarked : List (Event E) → Type 0
  IsUnmarked [] = Unit {0}
  IsUnmarked (Of k e ∷ h) = IsUnmarked h
  IsUnmarked (Finish ∷ h) = ⊥

  -- each entry is of a lane below n
  abbrev pub IsWithin : ℕ → List (Event E) → Type 0
  IsWithin n [] = Unit {0}
  IsWithin n (Of k e ∷ h) = (k < n) × IsWithin n h
  IsWithin n (Finish ∷ h) = IsWithin n h

  -- these entries, as the lane's
  abbrev pub batch : ℕ → List E → List (Event E)
  batch lane [] = []
  batch lane (e ∷ es) = Of lane e ∷ batch lane es

  -- the history that a log of publications tells
  abbrev pub told : List (Step E) → List (Event E)
  told [] = []
  told (Batch lane es ∷ log) = batch lane es ++ told log
  told (End ∷ log) = Finish ∷ told log

-- which station it is, and how many lanes it has
pub record Site : Type 0 where
  pub book : Book
  pub lanes : ℕ

abbrev pub site : Book → ℕ → Site
site b n = record { book = b; lanes = n }

-- what contracts see of a note and of a publisher without a name: the station, and the history that it has seen
pub record Saw (E : Type 0) : Type 0 where
  pub station : Site
  pub seen : List (Event E)

abbrev pub saw : {E : Type 0} → Site → List (Step E) → Saw E
saw b log = record { station = b; seen = told log }

-- what contracts see of an asker's pass: the station, the history that it has seen, and whether it has a seat at the
-- cell
pub record Asker (E : Type 0) : Type 0 where
  pub station : Site
  pub seen : List (Event E)
  pub seated : Bool

abbrev pub asker : {E : Type 0} → Site → List (Step E) → Bool → Asker E
asker b log seated = record { station = b; seen = told log; seated = seated }

-- what contracts see of a lane's pass: the station, the lane, the entries that it made, and the history that it has
-- seen
pub record Fed (E : Type 0) : Type 0 where
  pub station : Site
  pub lane : ℕ
  pub entries : List E
  pub seen : List (Event E)

abbrev pub fed : {E : Type 0} → Site → ℕ → List (Step E) → Fed E
fed b lane log = record { station = b; lane = lane; entries = part lane (told log); seen = told log }
