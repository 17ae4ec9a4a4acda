-- How many messages a walk has, and how long they are.
use Rattle.std.proofs.Common.{◌≡◌, ℕ, ◌+◌, ◌≤◌, Bool, true, false, List, [], ◌∷◌, length, eqb, sym, ap, ◌∙◌, arith, length-append, length-drop}
use Rattle.std.proofs.lemmas.List.Sums.{sum_by-cons}
use Rattle.std.specs.Prelude.{MatchBool, sum_by}
use Rattle.bmp_specs.specs.Check.{length_of}
use Rattle.bmp_specs.specs.Frame.{IsFrame}
use Rattle.bmp_specs.specs.Meaning.{Meaning}
use Rattle.bmp_specs.specs.Values.{EntryValue}
use Rattle.bmp_specs.specs.Walk.{Verdict, terminated, Walks, termination}
use Rattle.bmp_message.specs.Effects.{GivesMessages}

-- an entry is as long as its message
entry_length : (meaning : Meaning) (gives : GivesMessages meaning) (s next : meaning.State) (kind : ℕ) (frame body : List ℕ) (m : EntryValue) → IsFrame frame kind body → meaning.Means s kind body m next → length_of m ≡ length frame
entry_length meaning gives s next kind frame body m is means =
    let has = gives s next kind body m means in
    ap length_of has.entry_is ∙ has.size_is ∙ omega (arith, is.header, ap length is.body_is, length-drop 6 frame)

-- the messages of a walk have as many bytes as its offset says, and each has one at least
pub record IsAsLong (messages : List EntryValue) (offset len : ℕ) : Type 0 where
  pub bytes : sum_by length_of messages ≡ offset
  pub count : length messages ≤ offset
  pub within : offset ≤ len

pub walk_lengths : (meaning : Meaning) (gives : GivesMessages meaning) (s : meaning.State) (bytes : List ℕ) (ms : List EntryValue) (offset : ℕ) (v : Verdict) → Walks meaning.Means s bytes ms offset v → IsAsLong ms offset (length bytes)
walk_lengths meaning gives s bytes [] offset v (none, stops) = record { bytes = sym none; count = omega (arith, none); within = omega (arith, none) }
walk_lengths meaning gives s bytes (m ∷ ms) offset v (step, rest) = go (eqb step.kind termination) (λ n w. walk_lengths meaning gives step.next step.rest ms n v w) rest
  where
    long : length_of m ≡ length step.frame
    long = entry_length meaning gives s step.next step.kind step.frame step.body m step.is_frame step.means

    parts : length bytes ≡ length step.frame + length step.rest
    parts = ap length step.split ∙ length-append step.frame step.rest

    all : sum_by length_of (m ∷ ms) ≡ length_of m + sum_by length_of ms
    all = sum_by-cons length_of m ms

    go : (t : Bool) → ((n : ℕ) → Walks meaning.Means step.next step.rest ms n v → IsAsLong ms n (length step.rest))
        → MatchBool t ((ms ≡ []) × (offset ≡ length step.frame) × (v ≡ terminated)) ((after : ℕ) × (offset ≡ length step.frame + after) × Walks meaning.Means step.next step.rest ms after v)
        → IsAsLong (m ∷ ms) offset (length bytes)
    go true again (none, place, ends) = record {
      bytes = omega (arith, all, long, place, ap (λ (l : List EntryValue). sum_by length_of l) none);
      count = omega (arith, place, step.is_frame.header, ap length none);
      within = omega (arith, place, parts);
    }
    go false again (after, place, w) = let tail = again after w in record {
      bytes = omega (arith, all, long, place, tail.bytes);
      count = omega (arith, place, step.is_frame.header, tail.count);
      within = omega (arith, place, parts, tail.within);
    }
