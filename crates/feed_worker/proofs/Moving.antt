-- Where a walk stands once more has come: where it stood, or behind all that was there before.
use Rattle.std.proofs.Common.{◌≡◌, ◌⊎◌, inl, inr, ℕ, ◌+◌, ◌<◌, ◌≤◌, Bool, true, false, List, [], ◌∷◌, ◌++◌, length, eqb, refl, sym, ap, ◌∙◌, subst, append_assoc, append-nil, arith, length-append, Option, Some, None}
use Rattle.std.specs.Prelude.{MatchBool}
use Rattle.std.proofs.lemmas.List.{append_cancel_left}
use Rattle.bmp_specs.specs.declared.causes.Cause.{Cause}
use Rattle.bmp_specs.specs.declared.causes.Cause.TheVariants.{Ended, Terminated, CutShort, Broken, ReadFault, Full}
use Rattle.bmp_specs.specs.Frame.{IsFrame, NeedsMore, stated}
use Rattle.bmp_specs.specs.Life.{IsUndecided, Given}
use Rattle.bmp_specs.specs.Meaning.{Meaning, WalksBy}
use Rattle.bmp_specs.specs.Values.{EntryValue}
use Rattle.bmp_specs.specs.Walk.{Verdict, whole, more, terminated, broken, Step, Stops, Walks, termination}
use Rattle.bmp_specs.proofs.FrameCode.{stated-append, frame_one}
use Rattle.bmp_message.proofs.Causes.{undecided}
use Rattle.bmp_message.specs.StreamWalk.{WalkValue, HasGiven, Gives, rest_of, verdict_with}
use Rattle.feed_worker.specs.FeedPort.{IsPresent}
use Rattle.feed_worker.specs.Front.{IsFront, IsFrontAt, BreaksAt, BreaksIfBroken, place_of}
use Rattle.feed_worker.proofs.Lengths.{are_few}

-- a message that begins where more was needed ends behind all that was there
needs_reach : (fed piece frame rest body : List ℕ) (kind : ℕ) → NeedsMore fed → fed ++ piece ≡ frame ++ rest → IsFrame frame kind body → length fed ≤ length frame
needs_reach fed piece frame rest body kind (inl short) split is = omega (arith, short, is.header)
needs_reach fed piece frame rest body kind (inr (right, range, cut)) split is =
    let says : stated fed ≡ length frame = sym (stated-append fed piece (omega (arith, right.header))) ∙ ap (λ (l : List ℕ). stated l) split ∙ stated-append frame rest (omega (arith, is.header)) ∙ is.length_is in
    omega (arith, says, cut)

-- a walk ends behind its first message, or further on
first_within : (t : Bool) (size offset : ℕ) (P Q : Type 0) (R : ℕ → Type 0) → MatchBool t (P × (offset ≡ size) × Q) ((after : ℕ) × (offset ≡ size + after) × R after) → size ≤ offset
first_within true size offset P Q R (none, place, ends) = omega (arith, place)
first_within false size offset P Q R (after, place, w) = omega (arith, place)

module _ {S M : Type 0} (Is : S → ℕ → List ℕ → M → S → Type 0) where
  needs_more : (s : S) (bytes : List ℕ) (v : Verdict) → Stops Is s bytes v → IsUndecided v → NeedsMore bytes
  needs_more s bytes whole stops u = inl (omega (arith, ap length stops))
  needs_more s bytes more stops u = stops.1
  needs_more s bytes terminated stops u = absurd u
  needs_more s bytes (broken why) stops u = absurd u

  pub moves : (s t : S) (fed piece : List ℕ) (ms ns : List M) (o p : ℕ) (v w : Verdict) → Walks Is s fed ms o v → IsUndecided v → Walks Is t (fed ++ piece) (ms ++ ns) p w → (p ≡ o) ⊎ (length fed ≤ p)
  moves s t fed piece [] [] o p v w (here, stops) u (there, ends) = inl (there ∙ sym here)
  moves s t fed piece [] (n ∷ ns) o p v w (here, stops) u (step, tail) =
      let reach : length fed ≤ length step.frame = needs_reach fed piece step.frame step.rest step.body step.kind (needs_more s fed v stops u) step.split step.is_frame in
      let ends : length step.frame ≤ p = first_within (eqb step.kind termination) (length step.frame) p (ns ≡ []) (w ≡ terminated) (λ after. Walks Is step.next step.rest ns after w) tail in
      inr (omega (arith, reach, ends))
  moves s t fed piece (m ∷ ms) ns o p v w (a, x) u (b, y) =
      let split : a.frame ++ (a.rest ++ piece) ≡ b.frame ++ b.rest = sym (append_assoc a.frame a.rest piece) ∙ sym (ap (λ (l : List ℕ). l ++ piece) a.split) ∙ b.split in
      let same = frame_one a.frame b.frame (a.rest ++ piece) b.rest a.kind b.kind a.body b.body a.is_frame b.is_frame split in
      let rest : a.rest ++ piece ≡ b.rest = append_cancel_left a.frame (a.rest ++ piece) b.rest (split ∙ ap (λ (f : List ℕ). f ++ b.rest) (sym same.0)) in
      go (eqb a.kind termination) (eqb b.kind termination) (ap (λ (k : ℕ). eqb k termination) same.1) (λ i j x y. moves a.next b.next a.rest piece ms ns i j v w x u y) x y same.0 rest
    where
      parts : length fed ≡ length a.frame + length a.rest
      parts = ap length a.split ∙ length-append a.frame a.rest

      go : (c d : Bool) → c ≡ d
          → ((i j : ℕ) → Walks Is a.next a.rest ms i v → Walks Is b.next (a.rest ++ piece) (ms ++ ns) j w → (j ≡ i) ⊎ (length a.rest ≤ j))
          → MatchBool c ((ms ≡ []) × (o ≡ length a.frame) × (v ≡ terminated)) ((after : ℕ) × (o ≡ length a.frame + after) × Walks Is a.next a.rest ms after v)
          → MatchBool d ((ms ++ ns ≡ []) × (p ≡ length b.frame) × (w ≡ terminated)) ((after : ℕ) × (p ≡ length b.frame + after) × Walks Is b.next b.rest (ms ++ ns) after w)
          → a.frame ≡ b.frame → a.rest ++ piece ≡ b.rest → (p ≡ o) ⊎ (length fed ≤ p)
      go true d e again (none, place, ends) y f r = absurd (subst IsUndecided ends u)
      go false true e again x y f r = absurd cc
      go false false e again (i, at, x) (j, there, y) f r = elim (again i j x (subst (λ (l : List ℕ). Walks Is b.next l (ms ++ ns) j w) (sym r) y)) [
        | inl h ↦ inl (omega (arith, at, there, h, ap length f))
        | inr h ↦ inr (omega (arith, there, h, parts, ap length f))
      ]

-- what a front follows, in other words for the same numbers
pub same_places : (fed piece octets : List ℕ) (given from to here there : ℕ) → length fed ≡ given → from ≡ here → to ≡ there
    → ((to ≡ from) ⊎ (given ≤ to) → to ≤ given + length piece → IsFront (fed ++ piece) to octets)
    → (there ≡ here) ⊎ (length fed ≤ there) → there ≤ length fed + length piece → IsFront (fed ++ piece) there octets
same_places fed piece octets given from to here there count first last f moved within =
    let moves : (to ≡ from) ⊎ (given ≤ to) = elim moved [ inl h ↦ inl (omega (arith, h, first, last)) | inr h ↦ inr (omega (arith, h, count, last)) ] in
    subst (λ (n : ℕ). IsFront (fed ++ piece) n octets) last (f moves (omega (arith, within, count, last)))

module _ {B : Type 0} (meaning : Meaning) (state : B → meaning.State) where
  module _ (fed piece : List ℕ) (messages further : List EntryValue) (walk : WalkValue B) (given : HasGiven meaning state fed messages walk) where
    stands : (offset : ℕ) (v : Verdict) → WalksBy meaning (fed ++ piece) (messages ++ further) offset v → ((offset ≡ walk.offset) ⊎ (length fed ≤ offset)) × (offset ≤ length fed + length piece)
    stands offset v w = (
      moves meaning.Means meaning.start meaning.start fed piece messages further walk.offset offset (verdict_with (rest_of walk)) v given.walks (undecided (rest_of walk)) w,
      omega (arith, (are_few meaning.Means meaning.start (fed ++ piece) (messages ++ further) offset v w).within, length-append fed piece),
    )

    -- what is so of a front where a walk stands so is so of it
    pub front_follows : (after : WalkValue B) (end : Option Cause) (octets : List ℕ) → Gives meaning state (fed ++ piece) (messages ++ further) after end
        → ((place_of after.offset end ≡ walk.offset) ⊎ (length fed ≤ place_of after.offset end) → place_of after.offset end ≤ length fed + length piece → IsFront (fed ++ piece) (place_of after.offset end) octets)
        → IsFrontAt (fed ++ piece) after.offset end octets
    front_follows after None octets g f = let s = stands after.offset (verdict_with (rest_of after)) g.walks in f s.0 s.1
    front_follows after (Some (Broken at why)) octets g f =
        let s = stands at (broken why) (subst (λ (l : List ℕ). WalksBy meaning l (messages ++ further) at (broken why)) (append-nil (fed ++ piece)) (g [])) in
        f s.0 s.1
    front_follows after (Some Ended) octets g f = tt
    front_follows after (Some Terminated) octets g f = tt
    front_follows after (Some (CutShort at)) octets g f = tt
    front_follows after (Some (ReadFault at)) octets g f = tt
    front_follows after (Some Full) octets g f = tt

  -- where a connection broke, as far as its bytes are told
  pub breaks_told : (given : Option (List Given)) (bytes : List ℕ) (messages : List EntryValue) (after : WalkValue B) (end : Option Cause) (octets : List ℕ) → IsPresent given bytes
      → Gives meaning state bytes messages after end → IsFrontAt bytes after.offset end octets → BreaksIfBroken meaning given end octets
  breaks_told None bytes messages after (Some (Broken at why)) octets p g f = tt
  breaks_told (Some gs) bytes messages after (Some (Broken at why)) octets p g f = subst (λ (l : List ℕ). BreaksAt meaning l at octets) (sym p) (record { messages = messages; why = why; ends = g; front = f })
  breaks_told given bytes messages after None octets p g f = tt
  breaks_told given bytes messages after (Some Ended) octets p g f = tt
  breaks_told given bytes messages after (Some Terminated) octets p g f = tt
  breaks_told given bytes messages after (Some (CutShort at)) octets p g f = tt
  breaks_told given bytes messages after (Some (ReadFault at)) octets p g f = tt
  breaks_told given bytes messages after (Some Full) octets p g f = tt
