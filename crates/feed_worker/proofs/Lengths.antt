-- How many messages a walk has: each has a common header of six bytes at least (RFC 7854, section 4.1).
use Rattle.std.proofs.Common.{◌≡◌, ℕ, ◌+◌, ◌*◌, ◌≤◌, Bool, true, false, List, [], ◌∷◌, length, eqb, ap, ◌∙◌, arith, length-append}
use Rattle.std.specs.Prelude.{MatchBool}
use Rattle.bmp_specs.specs.Meaning.{Meaning, WalksBy}
use Rattle.bmp_specs.specs.Values.{EntryValue}
use Rattle.bmp_specs.specs.Walk.{Verdict, terminated, Walks, termination}

-- messages of six bytes each, which the bytes have
pub record AreFew (count offset len : ℕ) : Type 0 where
  pub each : 6 * count ≤ offset
  pub within : offset ≤ len

module _ {S M : Type 0} (Is : S → ℕ → List ℕ → M → S → Type 0) where
  pub are_few : (s : S) (bytes : List ℕ) (ms : List M) (offset : ℕ) (v : Verdict) → Walks Is s bytes ms offset v → AreFew (length ms) offset (length bytes)
  are_few s bytes [] offset v (none, stops) = record { each = omega (arith, none); within = omega (arith, none) }
  are_few s bytes (m ∷ ms) offset v (step, rest) = go (eqb step.kind termination) (λ n w. are_few step.next step.rest ms n v w) rest
    where
      parts : length bytes ≡ length step.frame + length step.rest
      parts = ap length step.split ∙ length-append step.frame step.rest

      go : (t : Bool) → ((n : ℕ) → Walks Is step.next step.rest ms n v → AreFew (length ms) n (length step.rest))
          → MatchBool t ((ms ≡ []) × (offset ≡ length step.frame) × (v ≡ terminated)) ((after : ℕ) × (offset ≡ length step.frame + after) × Walks Is step.next step.rest ms after v)
          → AreFew (length (m ∷ ms)) offset (length bytes)
      go true again (none, place, ends) = record { each = omega (arith, place, step.is_frame.header, ap length none); within = omega (arith, place, parts) }
      go false again (after, place, w) = let tail = again after w in record { each = omega (arith, place, step.is_frame.header, tail.each); within = omega (arith, place, parts, tail.within) }

pub few_messages : (meaning : Meaning) (bytes : List ℕ) (messages : List EntryValue) (offset : ℕ) (v : Verdict) → WalksBy meaning bytes messages offset v → 6 * length messages ≤ length bytes
few_messages meaning bytes messages offset v w = let few = are_few meaning.Means meaning.start bytes messages offset v w in omega (arith, few.each, few.within)
