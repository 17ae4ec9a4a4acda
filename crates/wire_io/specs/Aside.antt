-- What an object holds beside the side that is written to: the connections that a link gives, and what lies over it.
use Rattle.std.specs.Prelude.{ℕ, Bool, false, List, [], ◌∷◌, Option, None}
use Rattle.bmp_specs.specs.Life.{Given, gave}

-- the connections that an object was made with, and the numbers of its calls that fail
pub record Plan : Type 0 where
  pub connections : List (List ℕ)
  pub fails : List ℕ

-- a connection of which no byte was given yet
abbrev pub fresh : Given
fresh = record { bytes = []; last = gave }

pub record Aside : Type 0 where
  -- the plan, where it is shown; it stays through the object's life
  pub plan : Option Plan
  -- the connections to come, where they are told
  pub coming : Option (List (List ℕ))
  -- what the present connection has left, where it is told
  pub rest : Option (List ℕ)
  -- the connections given so far, the present one last, where they are told
  pub given : Option (List Given)
  -- how many connections were given
  pub opened : ℕ
  -- how many connections were closed
  pub closed : ℕ
  -- whether the present connection is open: it was opened, and not closed since
  pub is_open : Bool
  -- how many bytes the present connection gave
  pub taken : ℕ
  -- whether it was answered that there is no further connection
  pub refused : Bool
  -- the count of faults of the calls that open a connection
  pub open_faults : ℕ
  -- the count of faults of reads
  pub read_faults : ℕ
  -- the count of faults in writes as each connection was opened, the present one last, where it is told
  pub write_faults : Option (List ℕ)
  -- what the sink told as a buffer was laid over it, for each buffer
  pub laid : List (Option (List ℕ))

-- of an object that gives no connections
abbrev pub nothing_aside : Aside
nothing_aside = record { plan = None; coming = None; rest = None; given = None; opened = 0; closed = 0; is_open = false; taken = 0; refused = false; open_faults = 0; read_faults = 0; write_faults = None; laid = [] }

-- the same, with a buffer over it
abbrev pub laid_over : Option (List ℕ) → Aside → Aside
laid_over told a = record a { laid = told ∷ a.laid }
