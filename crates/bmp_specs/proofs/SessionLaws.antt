-- The present session: where it stands in the entries of a lane, and what one more entry makes of it.
use Rattle.std.proofs.Common.{◌≡◌, ◌⊎◌, ℕ, inl, inr, unwrap_or, List, [], ◌∷◌, ◌++◌, Option, Some, None, refl, sym, ap, ◌∙◌, append-nil}
use Rattle.std.specs.Prelude.{filter_map, flat_map}
use Rattle.std.specs.Option.{option_or, option_map, option_and_then}
use Rattle.std.specs.List.{last_or, AllByRecursion}
use Rattle.std.proofs.lemmas.Grind.{flat_map-append}
use Rattle.bmp_specs.specs.declared.causes.Cause.{Cause}
use Rattle.bmp_specs.specs.Values.{ClosingValue, EffectValue, EntryValue, HeadValue, OpeningValue, opened, message, closed}
use Rattle.bmp_specs.specs.Session.{since_opening, cause_in, last_cause, unless_closed, present_session, idle, live, shut, state_by, state_since, state_of, effects_in, session_messages, session_effects}

-- the entry is a message
abbrev pub IsMessage : EntryValue → Type 0
IsMessage (opened came) = ⊥
IsMessage (message head effects) = Unit {0}
IsMessage (closed closing) = ⊥

-- the session is what stands after an opening, and has messages alone
pub record IsSession (entries session : List EntryValue) : Type 0 where
  pub before : List EntryValue
  pub came : OpeningValue
  pub split : entries ≡ before ++ opened came ∷ session
  pub messages : AllByRecursion IsMessage session

-- entries without an opening, and a last cause that has no closing
since_none : (entries : List EntryValue) → AllByRecursion IsMessage entries → since_opening entries ≡ None
since_none [] all = refl
since_none (opened came ∷ entries) all = absurd all.0
since_none (message head effects ∷ entries) all = since_none entries all.1
since_none (closed closing ∷ entries) all = absurd all.0

cause_none : (entries : List EntryValue) → AllByRecursion IsMessage entries → last_cause entries ≡ None
cause_none [] all = refl
cause_none (opened came ∷ entries) all = absurd all.0
cause_none (message head effects ∷ entries) all = cause_none entries all.1
cause_none (closed closing ∷ entries) all = absurd all.0

since_at : (before : List EntryValue) (here : OpeningValue) (session : List EntryValue) → AllByRecursion IsMessage session → since_opening (before ++ opened here ∷ session) ≡ Some session
since_at [] here session all = ap (λ (o : Option (List EntryValue)). option_or o (Some session)) (since_none session all)
since_at (opened came ∷ before) here session all = ap (λ (o : Option (List EntryValue)). option_or o (Some (before ++ opened here ∷ session))) (since_at before here session all)
since_at (message head effects ∷ before) here session all = since_at before here session all
since_at (closed closing ∷ before) here session all = since_at before here session all

-- what stands at the end of some entries after the last opening is a session
pub session_here : (entries session : List EntryValue) → IsSession entries session → present_session entries ≡ Some session
session_here entries session s = rw (s.split, since_at s.before s.came session s.messages, cause_none session s.messages) refl

-- one more entry
since_pushed : (entries : List EntryValue) (e : EntryValue) → IsMessage e ⊎ ((closing : ClosingValue) × (e ≡ closed closing)) → since_opening (entries ++ e ∷ []) ≡ option_map (λ s. s ++ e ∷ []) (since_opening entries)
since_pushed [] (opened came) (inl h) = absurd h
since_pushed [] (opened came) (inr h) = absurd (let e : opened came ≡ closed h.0 = h.1 in cc)
since_pushed [] (message head effects) h = refl
since_pushed [] (closed closing) h = refl
since_pushed (opened came ∷ entries) e h = go (since_opening entries) (since_pushed entries e h)
  where
    go : (o : Option (List EntryValue)) → since_opening (entries ++ e ∷ []) ≡ option_map (λ s. s ++ e ∷ []) o
        → option_or (since_opening (entries ++ e ∷ [])) (Some (entries ++ e ∷ [])) ≡ option_map (λ s. s ++ e ∷ []) (option_or o (Some entries))
    go None is = ap (λ (p : Option (List EntryValue)). option_or p (Some (entries ++ e ∷ []))) is
    go (Some s) is = ap (λ (p : Option (List EntryValue)). option_or p (Some (entries ++ e ∷ []))) is
since_pushed (message head effects ∷ entries) e h = since_pushed entries e h
since_pushed (closed closing ∷ entries) e h = since_pushed entries e h

since_opened : (entries : List EntryValue) (came : OpeningValue) → since_opening (entries ++ opened came ∷ []) ≡ Some []
since_opened entries came = since_at entries came [] tt

cause_pushed : (entries : List EntryValue) (found : Option Cause) (head : HeadValue) (effects : List EffectValue) → last_or found (filter_map cause_in (entries ++ message head effects ∷ [])) ≡ last_or found (filter_map cause_in entries)
cause_pushed [] found head effects = refl
cause_pushed (opened came ∷ entries) found head effects = cause_pushed entries found head effects
cause_pushed (message h fx ∷ entries) found head effects = cause_pushed entries found head effects
cause_pushed (closed closing ∷ entries) found head effects = cause_pushed entries (Some closing.cause) head effects

cause_closed : (entries : List EntryValue) (found : Option Cause) (closing : ClosingValue) → last_or found (filter_map cause_in (entries ++ closed closing ∷ [])) ≡ Some closing.cause
cause_closed [] found closing = refl
cause_closed (opened came ∷ entries) found closing = cause_closed entries found closing
cause_closed (message h fx ∷ entries) found closing = cause_closed entries found closing
cause_closed (closed other ∷ entries) found closing = cause_closed entries (Some other.cause) closing

-- an opening begins a session without messages
pub messages_after_opening : (entries : List EntryValue) (came : OpeningValue) → session_messages (entries ++ opened came ∷ []) ≡ []
messages_after_opening entries came = rw (since_opened entries came) refl

pub effects_after_opening : (entries : List EntryValue) (came : OpeningValue) → session_effects (entries ++ opened came ∷ []) ≡ []
effects_after_opening entries came = ap (flat_map effects_in) (messages_after_opening entries came)

pub state_after_opening : (entries : List EntryValue) (came : OpeningValue) → state_of (entries ++ opened came ∷ []) ≡ live
state_after_opening entries came = rw (since_opened entries came) refl

-- a closing ends the session
pub messages_after_closing : (entries : List EntryValue) (closing : ClosingValue) → session_messages (entries ++ closed closing ∷ []) ≡ []
messages_after_closing entries closing = rw (since_pushed entries (closed closing) (inr (closing, refl))) (go (since_opening entries))
  where
    go : (o : Option (List EntryValue)) → unwrap_or (option_and_then (λ s. unless_closed s (last_cause s)) (option_map (λ s. s ++ closed closing ∷ []) o)) [] ≡ []
    go None = refl
    go (Some s) = rw (cause_closed s None closing) refl

pub effects_after_closing : (entries : List EntryValue) (closing : ClosingValue) → session_effects (entries ++ closed closing ∷ []) ≡ []
effects_after_closing entries closing = ap (flat_map effects_in) (messages_after_closing entries closing)

pub state_after_closing : (entries : List EntryValue) (closing : ClosingValue) → (state_of entries ≡ idle → ⊥) → state_of (entries ++ closed closing ∷ []) ≡ shut closing.cause
state_after_closing entries closing ever = rw (since_pushed entries (closed closing) (inr (closing, refl))) (go (since_opening entries) ever)
  where
    go : (o : Option (List EntryValue)) → (state_since o ≡ idle → ⊥) → state_since (option_map (λ s. s ++ closed closing ∷ []) o) ≡ shut closing.cause
    go None was = absurd (was refl)
    go (Some s) was = rw (cause_closed s None closing) refl

-- a closing before any opening changes nothing
pub state_stays_idle : (entries : List EntryValue) (closing : ClosingValue) → state_of entries ≡ idle → state_of (entries ++ closed closing ∷ []) ≡ idle
state_stays_idle entries closing is_idle = rw (since_pushed entries (closed closing) (inr (closing, refl))) (go (since_opening entries) is_idle)
  where
    by_cause : (c : Option Cause) → state_by c ≡ idle → ⊥
    by_cause None e = cc
    by_cause (Some d) e = cc

    go : (o : Option (List EntryValue)) → state_since o ≡ idle → state_since (option_map (λ s. s ++ closed closing ∷ []) o) ≡ idle
    go None was = refl
    go (Some s) was = absurd (by_cause (last_cause s) was)

-- a message joins the session, where there is one
pub messages_after_message : (entries : List EntryValue) (head : HeadValue) (effects : List EffectValue) → state_of entries ≡ live → session_messages (entries ++ message head effects ∷ []) ≡ session_messages entries ++ message head effects ∷ []
messages_after_message entries head effects is_live = rw (since_pushed entries (message head effects) (inl tt)) (go (since_opening entries) is_live)
  where
    go : (o : Option (List EntryValue)) → state_since o ≡ live
        → unwrap_or (option_and_then (λ s. unless_closed s (last_cause s)) (option_map (λ s. s ++ message head effects ∷ []) o)) []
        ≡ unwrap_or (option_and_then (λ s. unless_closed s (last_cause s)) o) [] ++ message head effects ∷ []
    go None was = absurd cc
    go (Some s) was = at (last_cause s) refl was
      where
        at : (c : Option Cause) → last_cause s ≡ c → state_by c ≡ live
            → unwrap_or (unless_closed (s ++ message head effects ∷ []) (last_cause (s ++ message head effects ∷ []))) [] ≡ unwrap_or (unless_closed s (last_cause s)) [] ++ message head effects ∷ []
        at (Some cause) is was = absurd cc
        at None is was = rw (cause_pushed s None head effects, is) refl

pub effects_after_message : (entries : List EntryValue) (head : HeadValue) (effects : List EffectValue) → state_of entries ≡ live → session_effects (entries ++ message head effects ∷ []) ≡ session_effects entries ++ effects
effects_after_message entries head effects is_live =
    ap (flat_map effects_in) (messages_after_message entries head effects is_live)
    ∙ flat_map-append effects_in (session_messages entries) (message head effects ∷ [])
    ∙ ap (λ (l : List EffectValue). session_effects entries ++ l) (append-nil effects)

-- and goes nowhere, where there is none
pub messages_stay_none : (entries : List EntryValue) (head : HeadValue) (effects : List EffectValue) → (state_of entries ≡ live → ⊥) → session_messages (entries ++ message head effects ∷ []) ≡ []
messages_stay_none entries head effects isnt_live = rw (since_pushed entries (message head effects) (inl tt)) (go (since_opening entries) isnt_live)
  where
    go : (o : Option (List EntryValue)) → (state_since o ≡ live → ⊥) → unwrap_or (option_and_then (λ s. unless_closed s (last_cause s)) (option_map (λ s. s ++ message head effects ∷ []) o)) [] ≡ []
    go None was = refl
    go (Some s) was = at (last_cause s) refl was
      where
        at : (c : Option Cause) → last_cause s ≡ c → (state_by c ≡ live → ⊥) → unwrap_or (unless_closed (s ++ message head effects ∷ []) (last_cause (s ++ message head effects ∷ []))) [] ≡ []
        at None is was = absurd (was refl)
        at (Some cause) is was = rw (cause_pushed s None head effects, is) refl

pub state_after_message : (entries : List EntryValue) (head : HeadValue) (effects : List EffectValue) → state_of (entries ++ message head effects ∷ []) ≡ state_of entries
state_after_message entries head effects = rw (since_pushed entries (message head effects) (inl tt)) (go (since_opening entries))
  where
    go : (o : Option (List EntryValue)) → state_since (option_map (λ s. s ++ message head effects ∷ []) o) ≡ state_since o
    go None = refl
    go (Some s) = ap state_by (cause_pushed s None head effects)

-- without a session there is no message
pub messages_without_session : (entries : List EntryValue) → (state_of entries ≡ live → ⊥) → session_messages entries ≡ []
messages_without_session entries isnt_live = go (since_opening entries) isnt_live
  where
    at : (s : List EntryValue) (c : Option Cause) → (state_by c ≡ live → ⊥) → unwrap_or (unless_closed s c) [] ≡ []
    at s None isnt = absurd (isnt refl)
    at s (Some cause) isnt = refl

    go : (o : Option (List EntryValue)) → (state_since o ≡ live → ⊥) → unwrap_or (option_and_then (λ s. unless_closed s (last_cause s)) o) [] ≡ []
    go None isnt = refl
    go (Some s) isnt = at s (last_cause s) isnt

-- and one more goes nowhere
pub messages_stay : (entries : List EntryValue) (head : HeadValue) (effects : List EffectValue) → (state_of entries ≡ live → ⊥) → session_messages (entries ++ message head effects ∷ []) ≡ session_messages entries
messages_stay entries head effects isnt_live = messages_stay_none entries head effects isnt_live ∙ sym (messages_without_session entries isnt_live)

pub effects_stay : (entries : List EntryValue) (head : HeadValue) (effects : List EffectValue) → (state_of entries ≡ live → ⊥) → session_effects (entries ++ message head effects ∷ []) ≡ session_effects entries
effects_stay entries head effects isnt_live = ap (flat_map effects_in) (messages_stay entries head effects isnt_live)
