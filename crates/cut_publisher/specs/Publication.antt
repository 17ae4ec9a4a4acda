-- What a publication does to its lane's pass.
use Rattle.std.specs.Prelude.{◌≡◌, ℕ, ◌<◌, List, ◌++◌, length}
use Rattle.cut_publisher.specs.declared.history.Event.{Event}
use Rattle.cut_publisher.specs.History.{Begins, Fed, IsUnmarked, Saw, part, batch}

-- the pass's lane is one of the cut's, and its entries are the lane's part of the history, which begins with what it
-- has seen
pub record IsFollowed {S E : Type 0} (pass : Fed E) (c : List (S × ℕ)) (h : List (Event E)) : Type 0 where
  pub within : pass.lane < length c
  pub earlier : Begins pass.seen h
  pub same : part pass.lane h ≡ pass.entries

-- the entries were appended as the lane's, in one step, after all that the pass had seen and all that others had
-- published, and no mark is there; the note has that history
pub record Published {E : Type 0} (old : Fed E) (es : List E) (new : Fed E) (note : Saw E) : Type 0 where
  pub station : new.station ≡ old.station
  pub lane : new.lane ≡ old.lane
  pub entries : new.entries ≡ old.entries ++ es
  pub before : List (Event E)
  pub earlier : Begins old.seen before
  pub last : new.seen ≡ before ++ batch old.lane es
  pub unmarked : IsUnmarked new.seen
  pub part_is : part new.lane new.seen ≡ new.entries
  pub note_is : note ≡ record { station = new.station; seen = new.seen }

-- what a note of the pass's last publication has
abbrev pub note_to : {E : Type 0} → Fed E → Saw E
note_to pass = record { station = pass.station; seen = pass.seen }
