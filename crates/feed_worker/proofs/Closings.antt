-- The causes that a port is told, beside the closings that are published.
use Rattle.std.proofs.Common.{◌≡◌, inl, inr, ℕ, ◌+◌, length, Bool, true, false, List, [], ◌∷◌, ◌++◌, Option, Some, None, Result, Ok, Err, eqb, refl, sym, ap, ◌∙◌, subst, append-nil}
use Rattle.std.specs.Prelude.{MatchBool, MatchResult}
use Rattle.bmp_specs.specs.declared.causes.Cause.{Cause}
use Rattle.bmp_specs.specs.Meaning.{Meaning, WalksBy}
use Rattle.bmp_specs.specs.Values.{EntryValue, OpeningValue, opened, message, closed}
use Rattle.bmp_specs.specs.Walk.{Verdict, terminated, Walks, termination}
use Rattle.bmp_message.specs.Effects.{GivesMessages}
use Rattle.cut_publisher.specs.History.{Fed}
use Rattle.rib_model.specs.declared.entry.Entry.{Entry}
use Rattle.rib_model.specs.Entries.{entry_values}
use Rattle.station_doors.specs.Doors.{told_after}
use Rattle.wire_io.specs.Aside.{Aside}
use Rattle.feed_worker.specs.Closings.{AreTold, closings_of}
use Rattle.feed_worker.specs.Connection.{BreaksConnection, IsBegun, TakesConnection}
use Rattle.feed_worker.specs.Publishing.{Grows}
use Rattle.feed_worker.proofs.Growing.{grows_then, grows_values}

-- the closings of entries, and of more after them
closings_append : (xs ys : List EntryValue) → closings_of (xs ++ ys) ≡ closings_of xs ++ closings_of ys
closings_append [] ys = refl
closings_append (opened came ∷ xs) ys = closings_append xs ys
closings_append (message head effects ∷ xs) ys = closings_append xs ys
closings_append (closed closing ∷ xs) ys = ap (λ (l : List Cause). closing.cause ∷ l) (closings_append xs ys)

module _ (meaning : Meaning) (gives : GivesMessages meaning) where
  -- a walk has no closing
  none_walked : (s : meaning.State) (bytes : List ℕ) (messages : List EntryValue) (offset : ℕ) (v : Verdict) → Walks meaning.Means s bytes messages offset v → closings_of messages ≡ []
  none_walked s bytes [] offset v w = refl
  none_walked s bytes (opened came ∷ ms) offset v (step, rest) = absurd (cc ((gives s step.next step.kind step.body (opened came) step.means).entry_is))
  none_walked s bytes (closed closing ∷ ms) offset v (step, rest) = absurd (cc ((gives s step.next step.kind step.body (closed closing) step.means).entry_is))
  none_walked s bytes (message head effects ∷ ms) offset v (step, rest) = go (eqb step.kind termination) (λ n w. none_walked step.next step.rest ms n v w) rest
    where
      go : (t : Bool) → ((n : ℕ) → Walks meaning.Means step.next step.rest ms n v → closings_of ms ≡ [])
          → MatchBool t ((ms ≡ []) × (offset ≡ length step.frame) × (v ≡ terminated)) ((after : ℕ) × (offset ≡ length step.frame + after) × Walks meaning.Means step.next step.rest ms after v)
          → closings_of ms ≡ []
      go true again (none, place, ends) = ap closings_of none
      go false again (after, place, w) = again after w

  -- the beginning of a life has none
  none_begun : (began : Option ℕ) (bytes : List ℕ) (entries : List EntryValue) → IsBegun meaning began bytes entries → closings_of entries ≡ []
  none_begun began bytes entries (inl none) = ap closings_of none.1
  none_begun began bytes entries (inr l) = ap closings_of l.life.is ∙ none_walked meaning.start l.front l.life.messages l.life.offset l.life.verdict l.life.walk

-- the cause that is told, if any
abbrev pub told_of : Option Cause → List Cause
told_of None = []
told_of (Some cause) = cause ∷ []

-- one more was told, or none, and as much was published
tells : (was told : Option (List Cause)) (cause : Option Cause) (before after : List EntryValue) → told ≡ told_after was cause → closings_of after ≡ closings_of before ++ told_of cause → AreTold was before → AreTold told after
tells None told cause before after is published a = subst (λ (o : Option (List Cause)). AreTold o after) (sym is) tt
tells (Some causes) told None before after is published a = subst (λ (o : Option (List Cause)). AreTold o after) (sym is) (a ∙ sym (published ∙ append-nil (closings_of before)))
tells (Some causes) told (Some cause) before after is published a = subst (λ (o : Option (List Cause)). AreTold o after) (sym is) (ap (λ (l : List Cause). l ++ cause ∷ []) a ∙ sym published)

-- what a pass published has these closings
grows_closings : (old new : Fed Entry) (values : List EntryValue) → Grows old new values → closings_of (entry_values new.entries) ≡ closings_of (entry_values old.entries) ++ closings_of values
grows_closings old new values g = ap closings_of (grows_values old new values g) ∙ closings_append (entry_values old.entries) values

module _ (meaning : Meaning) (gives : GivesMessages meaning) (came : OpeningValue) (a b : Aside) (pass0 pass : Fed Entry) (was taken told : Option (List Cause)) (same : taken ≡ was) where
  module _ (cause : Cause) (t : TakesConnection meaning came a b pass0 pass cause) where
    none_taken : closings_of (opened came ∷ t.messages) ≡ []
    none_taken = none_walked meaning gives meaning.start t.input.bytes t.messages t.come.offset t.come.verdict t.come.walk

    -- its closing was published, and its cause told
    tells_closing : (until : Option ℕ) (new : Fed Entry) → Grows pass new (closed (record { cause = cause; until = until }) ∷ []) → told ≡ told_after taken (Some cause) → AreTold was (entry_values pass0.entries) → AreTold told (entry_values new.entries)
    tells_closing until new grows is =
        let end : List EntryValue = closed (record { cause = cause; until = until }) ∷ [] in
        let all = grows_then pass0 pass new (opened came ∷ t.messages) end t.grows grows in
        let last : closings_of ((opened came ∷ t.messages) ++ end) ≡ cause ∷ [] = closings_append (opened came ∷ t.messages) end ∙ ap (λ (l : List Cause). l ++ cause ∷ []) none_taken in
        tells was told (Some cause) (entry_values pass0.entries) (entry_values new.entries) (is ∙ ap (λ (o : Option (List Cause)). told_after o (Some cause)) same)
        (grows_closings pass0 new ((opened came ∷ t.messages) ++ end) all ∙ ap (λ (l : List Cause). closings_of (entry_values pass0.entries) ++ l) last)

    -- neither
    tells_unclosed : (new : Fed Entry) → new ≡ pass → told ≡ told_after taken None → AreTold was (entry_values pass0.entries) → AreTold told (entry_values new.entries)
    tells_unclosed new stays is =
        tells was told None (entry_values pass0.entries) (entry_values new.entries) (is ∙ ap (λ (o : Option (List Cause)). told_after o None) same)
        (ap (λ (p : Fed Entry). closings_of (entry_values p.entries)) stays ∙ grows_closings pass0 pass (opened came ∷ t.messages) t.grows ∙ ap (λ (l : List Cause). closings_of (entry_values pass0.entries) ++ l) none_taken)

    -- whether its closing was published or not
    pub both_tell : (until : Option ℕ) (new : Fed Entry) {A E : Type 0} (r : Result A E) → MatchResult r (λ _. Grows pass new (closed (record { cause = cause; until = until }) ∷ [])) (λ _. new ≡ pass)
        → MatchResult r (λ _. told ≡ told_after taken (Some cause)) (λ _. told ≡ told_after taken None) → AreTold was (entry_values pass0.entries) → AreTold told (entry_values new.entries)
    both_tell until new (Ok a) grows is = tells_closing until new grows is
    both_tell until new (Err e) stays is = tells_unclosed new stays is

  -- memory ran out as it was taken
  pub tells_broken : (began : Option ℕ) → BreaksConnection meaning came began a b pass0 pass → told ≡ told_after taken None → AreTold was (entry_values pass0.entries) → AreTold told (entry_values pass.entries)
  tells_broken began t is =
      tells was told None (entry_values pass0.entries) (entry_values pass.entries) (is ∙ ap (λ (o : Option (List Cause)). told_after o None) same)
      (grows_closings pass0 pass t.entries t.grows ∙ ap (λ (l : List Cause). closings_of (entry_values pass0.entries) ++ l) (none_begun meaning gives began t.input.bytes t.entries t.begun))
