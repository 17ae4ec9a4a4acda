-- What a call that writes to a sink leaves.
use Rattle.std.specs.Prelude.{◌≡◌, ℕ, List, [], ◌∷◌, ◌++◌, Option, Result, OnOk}
use Rattle.std.specs.Borrow.{Bor}
use Rattle.std.specs.Io.KnownBytes.{Appends}
use Rattle.wire_io.specs.declared.sink.Failed.{Failed}
use Rattle.wire_io.specs.Aside.{Aside}
use Rattle.wire_io.specs.Faults.{HasCause}

-- a front of the text was written
pub record AppendsFront (old : Option (List ℕ)) (text : List ℕ) (new : Option (List ℕ)) : Type 0 where
  pub front : List ℕ
  pub back : List ℕ
  pub parts : text ≡ front ++ back
  pub grown : Appends old new front

-- The whole text was written and no write failed, or a write failed in this call and a front was written. What the sink
-- holds beside stays.
pub record Writes {O : Type 0} (faults : O → ℕ) (told : O → Option (List ℕ)) (aside : O → Aside) (old : O) (text : List ℕ) (result : Result (Unit {0}) Failed) (new : O) : Type 0 where
  pub whole : OnOk result (Appends (told old) (told new) text)
  pub front : AppendsFront (told old) text (told new)
  pub kept : aside new ≡ aside old
  pub cause : HasCause (faults old) (faults new) result

-- the pieces, one after another
abbrev pub joined : List (Bor (List ℕ)) → List ℕ
joined [] = []
joined (piece ∷ pieces) = piece.now ++ joined pieces
