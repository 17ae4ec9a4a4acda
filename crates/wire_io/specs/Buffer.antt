-- A buffer over a sink.
use Rattle.std.specs.Prelude.{◌≡◌, ℕ, List, [], ◌++◌, drop, Option, Result, IsOk, OnOk}
use Rattle.std.specs.Io.KnownBytes.{Appends, append_known}
use Rattle.wire_io.specs.declared.sink.Failed.{Failed}
use Rattle.wire_io.specs.Aside.{Aside, laid_over}
use Rattle.wire_io.specs.Faults.{HasCause}
use Rattle.wire_io.specs.Writes.{Writes}

-- the sink as it was when the buffer was laid over it, the sink now, the bytes that are held back, and how much of the
-- buffer is used
pub record BufferValue (O : Type 0) : Type 0 where
  pub first : O
  pub below : O
  pub held : List ℕ
  pub used : ℕ

-- known bytes grew, by some bytes
pub record Extends (old new : Option (List ℕ)) : Type 0 where
  pub written : List ℕ
  pub grown : Appends old new written

-- the bytes from a start on were written up to a place
pub record Pours (old new : Option (List ℕ)) (bytes : List ℕ) (start at : ℕ) : Type 0 where
  pub written : List ℕ
  pub split : drop start bytes ≡ written ++ drop at bytes
  pub grown : Appends old new written

-- What a call leaves that lays a buffer over the sink, hands it on to another call, and then hands on what is held, if
-- that call didn't fail. `Leaves` says what the other call may make of a buffer.
pub record GoesThrough {O : Type 0} (faults : O → ℕ) (told : O → Option (List ℕ)) (aside : O → Aside) (Leaves : BufferValue O → Result (Unit {0}) Failed → BufferValue O → Type 0) (old : O) (result : Result (Unit {0}) Failed) (new : O) : Type 0 where
  -- the buffer that the other call left, and its answer
  pub last : BufferValue O
  pub answer : Result (Unit {0}) Failed
  pub left : Leaves (record { first = old; below = old; held = []; used = 0 }) answer last
  -- what it wrote to the buffer was written to the sink
  pub written : (text : List ℕ) → Writes (λ (p : BufferValue O). faults p.below) (λ (p : BufferValue O). append_known (told p.below) p.held) (λ (p : BufferValue O). laid_over (told p.first) (aside p.below)) (record { first = old; below = old; held = []; used = 0 }) text answer last → Writes faults told aside old text result new
  -- whatever it wrote: Ok comes only after its own Ok
  pub sound : OnOk result (IsOk answer)
  pub kept : aside new ≡ aside last.below
  pub cause : HasCause (faults old) (faults last.below) answer → HasCause (faults old) (faults new) result
