-- What one more entry makes of the present session.
use Rattle.std.proofs.Common.{◌≡◌, true, false, List, [], ◌∷◌, ◌++◌, Result, Ok, Err, OnOk, refl, sym, ap, ◌∙◌, subst}
use Rattle.bmp_specs.specs.Counts.{counts_of}
use Rattle.bmp_specs.specs.Session.{LaneStateValue, idle, live, shut, state_of, session_effects}
use Rattle.bmp_specs.specs.Sums.{no_counts}
use Rattle.bmp_specs.specs.Values.{ClosingValue, EffectValue, EntryValue, HeadValue, OpeningValue, opened, message, closed}
use Rattle.bmp_specs.proofs.LaneLaws.{counts_after_opening, counts_after_closing, counts_stay}
use Rattle.bmp_specs.proofs.SessionLaws.{state_after_opening, state_after_closing, state_stays_idle, state_after_message, effects_after_opening, effects_after_closing, effects_after_message, effects_stay}
use Rattle.router_tables.specs.Books.{StandsForBooks}
use Rattle.router_tables.specs.Last.{StandsForLast}
use Rattle.router_tables.specs.Session.{SessionValue, StandsForSession}
use Rattle.router_tables.specs.State.{is_live, after_closing}
use Rattle.router_tables.proofs.LastSteps.{last_unheard}

pub live_there : (s : LaneStateValue) → is_live s ≡ true → s ≡ live
live_there idle is = absurd cc
live_there live is = refl
live_there (shut cause) is = absurd cc

pub live_not_there : (s : LaneStateValue) → is_live s ≡ false → s ≡ live → ⊥
live_not_there s is same = let e : true ≡ false = sym (ap is_live same) ∙ is in cc

closes : (entries : List EntryValue) (closing : ClosingValue) → after_closing (state_of entries) closing.cause ≡ state_of (entries ++ closed closing ∷ [])
closes entries closing = go (state_of entries) refl
  where
    go : (s : LaneStateValue) → state_of entries ≡ s → after_closing s closing.cause ≡ state_of (entries ++ closed closing ∷ [])
    go idle is = sym (state_stays_idle entries closing is)
    go live is = sym (state_after_closing entries closing (λ e. let d : live ≡ idle = sym is ∙ e in cc))
    go (shut was) is = sym (state_after_closing entries closing (λ e. let d : shut was ≡ idle = sym is ∙ e in cc))

-- an opening begins a session
pub stands_opened : (session : SessionValue) → session.state ≡ live → session.counts ≡ no_counts → StandsForBooks session.books []
    → (entries : List EntryValue) (came : OpeningValue) → StandsForLast session.last (entries ++ opened came ∷ []) → StandsForSession session (entries ++ opened came ∷ [])
stands_opened session state counts books entries came last = record {
  state = state ∙ sym (state_after_opening entries came);
  counts = counts ∙ sym (counts_after_opening entries came);
  books = subst (StandsForBooks session.books) (sym (effects_after_opening entries came)) books;
  last = last;
}

-- a closing ends it
pub stands_closed : (old session : SessionValue) (closing : ClosingValue) → session.state ≡ after_closing old.state closing.cause → session.counts ≡ no_counts → StandsForBooks session.books []
    → (entries : List EntryValue) → StandsForSession old entries → StandsForLast session.last (entries ++ closed closing ∷ []) → StandsForSession session (entries ++ closed closing ∷ [])
stands_closed old session closing state counts books entries h last = record {
  state = state ∙ ap (λ (s : LaneStateValue). after_closing s closing.cause) h.state ∙ closes entries closing;
  counts = counts ∙ sym (counts_after_closing entries closing);
  books = subst (StandsForBooks session.books) (sym (effects_after_closing entries closing)) books;
  last = last;
}

-- a message joins it
pub stands_message : (old new : SessionValue) (head : HeadValue) (effects : List EffectValue) → is_live old.state ≡ true → new.state ≡ old.state
    → ((entries : List EntryValue) → state_of entries ≡ live → old.counts ≡ counts_of entries → new.counts ≡ counts_of (entries ++ message head effects ∷ []))
    → ((entries : List EntryValue) → state_of entries ≡ live → StandsForLast old.last entries → StandsForLast new.last (entries ++ message head effects ∷ []))
    → ((earlier : List EffectValue) → StandsForBooks old.books earlier → StandsForBooks new.books (earlier ++ effects))
    → (entries : List EntryValue) → StandsForSession old entries → StandsForSession new (entries ++ message head effects ∷ [])
stands_message old new head effects is same counts last books entries h =
    let there : state_of entries ≡ live = sym h.state ∙ live_there old.state is in
    record {
      state = same ∙ h.state ∙ sym (state_after_message entries head effects);
      counts = counts entries there h.counts;
      books = subst (StandsForBooks new.books) (sym (effects_after_message entries head effects there)) (books (session_effects entries) h.books);
      last = last entries there h.last;
    }

-- without a session a message goes nowhere
pub stands_unheard : (session : SessionValue) (head : HeadValue) (effects : List EffectValue) → is_live session.state ≡ false
    → (entries : List EntryValue) → StandsForSession session entries → StandsForSession session (entries ++ message head effects ∷ [])
stands_unheard session head effects is entries h =
    let not_there : (state_of entries ≡ live → ⊥) = (λ e. live_not_there session.state is (h.state ∙ e)) in
    record {
      state = h.state ∙ sym (state_after_message entries head effects);
      counts = h.counts ∙ sym (counts_stay entries head effects not_there);
      books = subst (StandsForBooks session.books) (sym (effects_stay entries head effects not_there)) h.books;
      last = last_unheard session.last head effects entries not_there h.last;
    }

pub seen : (inside now : SessionValue) → inside ≡ now → (entries : List EntryValue) → StandsForSession now entries → StandsForSession inside entries
seen inside now is entries h = subst (λ (s : SessionValue). StandsForSession s entries) (sym is) h

pub from_four : {A E P Q R S T : Type 0} (r : Result A E) → OnOk r P → OnOk r Q → OnOk r R → OnOk r S → (P → Q → R → S → T) → OnOk r T
from_four (Ok x) p q r s f = f p q r s
from_four (Err e) p q r s f = tt
