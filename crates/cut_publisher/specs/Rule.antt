-- The rule of the cell, and what its steps tell.
use Rattle.std.specs.Prelude.{◌≡◌, ◌⊎◌, ℕ, List, [], ◌∷◌, ◌++◌, length, true, false, Option, Some, None}
use Rattle.left_right.specs.declared.reader.Reader.{Reader}
use Rattle.std.specs.Arc.{arc_value}
use mathlib.Core.Option.{some}
use lib.ListN.{get_elem?}
use Rattle.logbook.specs.Pages.{Book, Named}
use Rattle.cut_publisher.specs.declared.cell.Shown.{Shown}
use Rattle.cut_publisher.specs.declared.cell.Known.{Known}
use Rattle.cut_publisher.specs.History.{Site, told}
use Rattle.cut_publisher.specs.Cuts.{Stands}
use Rattle.cut_publisher.specs.Logs.{IsLog, IsOpen, head_of}

-- a seat that knows of no station yet
abbrev pub nobody : Known
nobody = record { named = false; number = 0; log_name = 0; cells_name = 0; lanes = 0 }

-- a seat that knows the station
abbrev pub named : Site → Known
named s = record { named = true; number = s.book.number; log_name = s.book.log_name; cells_name = s.book.cells_name; lanes = s.lanes }

-- the station of a cut in this book
abbrev pub site_at : {S : Type 0} → Book → List (S × ℕ) → Site
site_at b c = record { book = b; lanes = length c }

abbrev pub site_of : {S E : Type 0} → Shown S E → Site
site_of x = site_at x.seen.book (arc_value x.cut)

-- the reader, if there is one, knows the station
abbrev pub IsSeated : {S E P A : Type 0} → Site → Option (Reader (Shown S E) Known P A) → Type 0
IsSeated b None = Unit {0}
IsSeated b (Some r) = r.place.me.0.client ≡ named b

-- both hold one cut, as contracts see it, and one log
pub record IsAlike {S E : Type 0} (x y : Shown S E) : Type 0 where
  pub cut : arc_value x.cut ≡ arc_value y.cut
  pub seen : x.seen ≡ y.seen
  pub steps : x.steps ≡ y.steps

module _ {S E : Type 0} (stands : S → List E → Type 0) where
  -- the cut stands for the history that the log tells, and the log's length is known
  pub record Good (x : Shown S E) : Type 0 where
    pub cut : Stands stands (arc_value x.cut) (told x.seen.log)
    pub long : x.steps ≡ length x.seen.log
    pub marked : IsLog x.seen.log

  -- it is good, and no mark stands in its log
  pub record IsLive (x : Shown S E) : Type 0 where
    pub good : Good x
    pub unmarked : IsOpen x.seen.log

  -- the rule: what stands in the cell is live, and of the station that each seat knows
  pub record Keeps (x : Shown S E) (seats : List Known) : Type 0 where
    pub station : (seat : ℕ) (v : Known) → get_elem? seats seat ≡ some v → v.named ≡ true → v ≡ named (site_of x)
    pub live : IsLive x

  -- who enters learns the station, which is the one that it knew
  pub record Entered (v : Known) (x y : Shown S E) (w : Known) : Type 0 where
    pub now : w ≡ named (site_of y)
    pub before : v.named ≡ true → v ≡ named (site_of y)
    pub live : IsLive y

  -- the last of these is live, and of this station
  abbrev pub Ends : Site → List (Shown S E) → Type 0
  Ends b xs = (before : List (Shown S E)) × (x : Shown S E) × (xs ≡ before ++ x ∷ []) × IsLive x × (site_of x ≡ b)

  -- what is shown is live, and nothing waits to be shown
  abbrev pub IsIdle : Shown S E → List (Shown S E) → Type 0
  IsIdle x pending = IsLive x × (pending ≡ [])

  -- what a turn shows is live, and of the station of what is shown: the last that waits, or the same again
  abbrev pub IsReady : Shown S E → List (Shown S E) → Type 0
  IsReady x pending = Ends (site_of x) pending ⊎ IsIdle x pending

  -- what lies under the lock is of this station, no mark stands in its log, and the cell shows it
  pub record IsDesk (b : Site) (head : Named) (cell : Shown S E → Type 0) (shown : Shown S E) : Type 0 where
    pub station : site_of shown ≡ b
    pub head_is : head ≡ head_of b.book
    pub cell_is : cell shown
    pub good : Good shown
    pub unmarked : IsOpen shown.seen.log
