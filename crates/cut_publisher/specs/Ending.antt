-- How a station ends: all its passes have seen one history, which ends with the mark.
use Rattle.std.specs.Prelude.{◌≡◌, ℕ, ◌<◌, List, [], ◌∷◌, ◌++◌, length, slice_index_or}
use Rattle.cut_publisher.specs.declared.history.Event.{Event}
use Rattle.cut_publisher.specs.declared.history.Event.TheVariants.{Finish}
use Rattle.cut_publisher.specs.History.{Begins, Fed, Asker, IsUnmarked, part}
use Rattle.cut_publisher.specs.Cuts.{Stands}
use Rattle.cut_publisher.specs.Publication.{IsFollowed}

module _ {E : Type 0} where
  abbrev pub AllFollow : {S : Type 0} → List (Fed E) → List (S × ℕ) → List (Event E) → Type 0
  AllFollow feeds c h = (k : ℕ) (d : Fed E) → k < length feeds → IsFollowed (slice_index_or feeds k d) c h

  -- each lane's part of this history is its pass's entries
  abbrev pub AllSame : List (Event E) → List (Fed E) → Type 0
  AllSame h feeds = (k : ℕ) (d : Fed E) → k < length feeds → part (slice_index_or feeds k d).lane h ≡ (slice_index_or feeds k d).entries

  -- the pass, with this history seen
  abbrev pub fed_at_end : List (Event E) → Fed E → Fed E
  fed_at_end h f = record f { seen = h }

  abbrev pub asked_at_end : List (Event E) → Asker E → Asker E
  asked_at_end h a = record a { seen = h }

  -- all have seen this history
  pub record FeedsEnded (h : List (Event E)) (old new : List (Fed E)) : Type 0 where
    pub count : length new ≡ length old
    pub each : (k : ℕ) (d : Fed E) → k < length old → slice_index_or new k d ≡ fed_at_end h (slice_index_or old k d)

  -- all have seen this history, and it begins with what each had seen
  pub record AsksEnded (h : List (Event E)) (old new : List (Asker E)) : Type 0 where
    pub count : length new ≡ length old
    pub each : (k : ℕ) (d : Asker E) → k < length old → slice_index_or new k d ≡ asked_at_end h (slice_index_or old k d)
    pub earlier : (k : ℕ) (d : Asker E) → k < length old → Begins (slice_index_or old k d).seen h

-- all passes have seen one history, whose last event is the mark, and no other is; it begins with what each had seen,
-- a lane's pass before the mark; each lane's part of it is that pass's entries, and the cut of all lanes stands for
-- it
pub record IsEnding {S E : Type 0} (stands : S → List E → Type 0) (lanes : ℕ) (feeds : List (Fed E)) (asks : List (Asker E)) (c : List (S × ℕ)) (feeds' : List (Fed E)) (asks' : List (Asker E)) : Type 0 where
  pub before : List (Event E)
  pub history : List (Event E)
  pub marked : history ≡ before ++ Finish ∷ []
  pub unmarked : IsUnmarked before
  pub feeds_end : FeedsEnded history feeds feeds'
  pub asks_end : AsksEnded history asks asks'
  pub earlier : (k : ℕ) (d : Fed E) → k < length feeds → Begins (slice_index_or feeds k d).seen before
  pub parts : AllSame history feeds
  pub cut_is : Stands stands c history
  pub wide : length c ≡ lanes
