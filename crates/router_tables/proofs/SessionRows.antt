-- What one more entry makes of the rows of the present session.
use Rattle.std.proofs.Common.{◌≡◌, true, false, List, [], ◌∷◌, ◌++◌, sym, ◌∙◌, subst}
use Rattle.bmp_specs.specs.Session.{live, state_of, session_effects}
use Rattle.bmp_specs.specs.Values.{ClosingValue, EffectValue, EntryValue, HeadValue, OpeningValue, opened, message, closed}
use Rattle.bmp_specs.proofs.SessionLaws.{effects_after_opening, effects_after_closing, effects_after_message, effects_stay}
use Rattle.router_tables.specs.Books.{StandsForBooks}
use Rattle.router_tables.specs.Pending.{RowsValue, StandsForRows}
use Rattle.router_tables.specs.Session.{SessionValue, StandsForSession}
use Rattle.router_tables.specs.State.{is_live}
use Rattle.router_tables.proofs.SessionSteps.{live_there, live_not_there}

-- a session begins without rows
pub rows_opened : (rows : RowsValue) → StandsForRows rows [] → (entries : List EntryValue) (came : OpeningValue) → StandsForRows rows (session_effects (entries ++ opened came ∷ []))
rows_opened rows h entries came = subst (λ (es : List EffectValue). StandsForRows rows es) (sym (effects_after_opening entries came)) h

-- and none are left where it ends
pub rows_closed : (rows : RowsValue) → StandsForRows rows [] → (entries : List EntryValue) (closing : ClosingValue) → StandsForRows rows (session_effects (entries ++ closed closing ∷ []))
rows_closed rows h entries closing = subst (λ (es : List EffectValue). StandsForRows rows es) (sym (effects_after_closing entries closing)) h

module _ (session : SessionValue) (head : HeadValue) (effects : List EffectValue) where
  -- a message joins it
  pub rows_message : (old new : RowsValue) → is_live session.state ≡ true → ((earlier : List EffectValue) → StandsForBooks session.books earlier → StandsForRows old earlier → StandsForRows new (earlier ++ effects))
      → (entries : List EntryValue) → StandsForSession session entries → StandsForRows old (session_effects entries) → StandsForRows new (session_effects (entries ++ message head effects ∷ []))
  rows_message old new is takes entries h rows =
      let there : state_of entries ≡ live = sym h.state ∙ live_there session.state is in
      subst (λ (es : List EffectValue). StandsForRows new es) (sym (effects_after_message entries head effects there)) (takes (session_effects entries) h.books rows)

  -- without a session a message goes nowhere
  pub rows_stay : (rows : RowsValue) → is_live session.state ≡ false → (entries : List EntryValue) → StandsForSession session entries → StandsForRows rows (session_effects entries)
      → StandsForRows rows (session_effects (entries ++ message head effects ∷ []))
  rows_stay rows is entries h stay = subst (λ (es : List EffectValue). StandsForRows rows es) (sym (effects_stay entries head effects (λ e. live_not_there session.state is (h.state ∙ e)))) stay
