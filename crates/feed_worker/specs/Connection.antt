-- One connection of a router: what is taken of it, and what the lane publishes of that.
use Rattle.std.specs.Prelude.{◌≡◌, ◌⊎◌, IsTrue, ℕ, ◌≤◌, List, [], ◌∷◌, ◌++◌, Option, None, Some, IfSome, length}
use Rattle.std.specs.Io.KnownBytes.{Consumes, IsAtEnd}
use Rattle.bmp_specs.specs.declared.causes.Cause.{Cause}
use Rattle.bmp_specs.specs.Life.{gave, gave_none, failed, most_taken, most_read, IsOpenLife, IsReadNoFurther, Given, HasCome}
use Rattle.bmp_specs.specs.Meaning.{Meaning}
use Rattle.bmp_specs.specs.Values.{EntryValue, OpeningValue, opened}
use Rattle.station_doors.specs.Doors.{GivesMore, CountsLast}
use Rattle.cut_publisher.specs.History.{Fed}
use Rattle.rib_model.specs.declared.entry.Entry.{Entry}
use Rattle.wire_io.specs.Aside.{Aside, fresh}
use Rattle.feed_worker.specs.Publishing.{Grows}

-- where the connections given are told, the last of them gave nothing yet
abbrev pub EndsFresh : Option (List Given) → Type 0
EndsFresh None = Unit {0}
EndsFresh (Some given) = (earlier : List Given) × (given ≡ earlier ++ fresh ∷ [])

-- the present connection is open, and no byte of it was given yet
pub record IsNew (a : Aside) : Type 0 where
  pub is_open : IsTrue a.is_open
  pub none : a.taken ≡ 0
  pub fresh : EndsFresh a.given

-- What the reads of a connection do to its port: they gave these bytes, and the last one went so. The connection was
-- read no further than its walk goes: what was taken before the last read doesn't decide it. A read gave nothing only
-- at the end, and failed only where the plan has a call that fails.
pub record TakesBytes (meaning : Meaning) (old new : Aside) (input : Given) : Type 0 where
  pub plan : new.plan ≡ old.plan
  pub coming : new.coming ≡ old.coming
  pub rest : Consumes old.rest new.rest input.bytes
  pub given : GivesMore old.given new.given input.bytes input.last
  pub opened : new.opened ≡ old.opened
  pub closed : new.closed ≡ old.closed
  pub is_open : IsTrue new.is_open
  pub taken : new.taken ≡ length input.bytes
  pub refused : new.refused ≡ old.refused
  pub within : length input.bytes ≤ most_taken
  pub no_further : IsReadNoFurther meaning input.bytes
  pub end : input.last ≡ gave_none → IsAtEnd new.rest
  pub planned : input.last ≡ failed → IfSome old.plan (λ plan. plan.fails ≡ [] → ⊥)
  pub open_faults : new.open_faults ≡ old.open_faults
  pub read_faults : CountsLast old.read_faults new.read_faults input.last

-- The present connection was taken to its end, for this cause: this opening and all messages of what it gave were
-- published, and nothing else.
pub record TakesConnection (meaning : Meaning) (came : OpeningValue) (old new : Aside) (pass pass' : Fed Entry) (cause : Cause) : Type 0 where
  pub input : Given
  pub messages : List EntryValue
  pub took : TakesBytes meaning old new input
  pub come : HasCome meaning input messages cause
  pub grows : Grows pass pass' (opened came ∷ messages)

-- The opening and all messages of these bytes as they stood where a read ended: of all, or of those before the piece
-- that the last read gave. Where it is told after how many bytes that read began, so many stand before the piece.
pub record IsLifeOfFront (meaning : Meaning) (began : Option ℕ) (bytes : List ℕ) (entries : List EntryValue) : Type 0 where
  pub front : List ℕ
  pub piece : List ℕ
  pub split : bytes ≡ front ++ piece
  pub short : length piece ≤ most_read
  pub edge : (piece ≡ []) ⊎ IfSome began (λ n. length front ≡ n)
  pub life : IsOpenLife meaning front entries

-- A beginning of a life: nothing, where nothing was read, or else the opening and all messages of what was read without the
-- last read, or with it.
abbrev pub IsBegun : Meaning → Option ℕ → List ℕ → List EntryValue → Type 0
IsBegun meaning began bytes entries = ((bytes ≡ []) × (entries ≡ [])) ⊎ IsLifeOfFront meaning began bytes entries

-- the first of these entries, if there are any, is this opening
abbrev pub BeginWith : OpeningValue → List EntryValue → Type 0
BeginWith came [] = Unit {0}
BeginWith came (entry ∷ entries) = entry ≡ opened came

-- Memory ran out as the present connection was taken: a beginning of this opening and its messages was published. No
-- read had failed or told the end. The last one began after so many bytes, where that is told.
pub record BreaksConnection (meaning : Meaning) (came : OpeningValue) (began : Option ℕ) (old new : Aside) (pass pass' : Fed Entry) : Type 0 where
  pub input : Given
  pub entries : List EntryValue
  pub took : TakesBytes meaning old new input
  pub going : input.last ≡ gave
  pub begun : IsBegun meaning began input.bytes entries
  pub opening : BeginWith came entries
  pub grows : Grows pass pass' entries
