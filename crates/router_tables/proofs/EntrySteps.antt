-- A router's tables while entries are taken, with one entry more.
use Rattle.std.proofs.Common.{◌≡◌, ℕ, ◌+◌, ◌<◌, length, get_or, take, List, [], ◌∷◌, ◌++◌, sym, ap, ◌∙◌, subst, append_assoc}
use Rattle.std.proofs.lemmas.List.{map-append, take_more}
use Rattle.bmp_specs.specs.Session.{session_effects}
use Rattle.bmp_specs.specs.Values.{EffectValue, EntryValue}
use Rattle.rib_model.specs.declared.entry.Entry.{Entry}
use Rattle.rib_model.specs.Entries.{entry_value, entry_values}
use Rattle.router_tables.specs.Pending.{RowsValue, StandsForRows}
use Rattle.router_tables.specs.Session.{SessionValue, StandsForSession}
use Rattle.router_tables.specs.Tables.{TablesValue, Tables, AreRowsOf, StandsFor}
use Rattle.router_tables.specs.Taken.{AreTaken}

-- the first entries, and one more
pub more_entries : (so_far : List EntryValue) (entries : List Entry) (i : ℕ) (e : Entry) → i < length entries → e ≡ get_or entries i e
    → (so_far ++ entry_values (take i entries)) ++ entry_value e ∷ [] ≡ so_far ++ entry_values (take (i + 1) entries)
more_entries so_far entries i e within is =
    ap (λ (d : Entry). (so_far ++ entry_values (take i entries)) ++ entry_value d ∷ []) is
    ∙ append_assoc so_far (entry_values (take i entries)) (entry_value (get_or entries i e) ∷ [])
    ∙ ap (λ (l : List EntryValue). so_far ++ l) (sym (map-append entry_value (take i entries) (get_or entries i e ∷ [])))
    ∙ ap (λ (l : List Entry). so_far ++ entry_values l) (sym (take_more entries i e within))

module _ (old new : SessionValue) (rows next : RowsValue) (e : Entry)
    (session : (entries : List EntryValue) → StandsForSession old entries → StandsForSession new (entries ++ entry_value e ∷ []))
    (routes : (entries : List EntryValue) → StandsForSession old entries → StandsForRows rows (session_effects entries) → StandsForRows next (session_effects (entries ++ entry_value e ∷ []))) where
  taken : (entries : List EntryValue) → AreTaken old rows entries → AreTaken new next (entries ++ entry_value e ∷ [])
  taken entries h = record { session = session entries h.session; rows = routes entries h.session h.rows }

  pub taken_more : (so_far : List EntryValue) (entries : List Entry) (i : ℕ) → i < length entries → e ≡ get_or entries i e
      → AreTaken old rows (so_far ++ entry_values (take i entries)) → AreTaken new next (so_far ++ entry_values (take (i + 1) entries))
  taken_more so_far entries i within is h = subst (λ (l : List EntryValue). AreTaken new next l) (more_entries so_far entries i e within is) (taken (so_far ++ entry_values (take i entries)) h)

-- before the first one is taken
pub taken_none : (now : TablesValue) (session : SessionValue) (rows : RowsValue) (tables : Tables) → session ≡ now.session → tables ≡ now.tables
    → ((effects : List EffectValue) → AreRowsOf tables effects → StandsForRows rows effects) → (entries : List EntryValue) → StandsFor now entries → AreTaken session rows entries
taken_none now session rows tables s t begins entries h = record {
  session = subst (λ (v : SessionValue). StandsForSession v entries) (sym s) h.session;
  rows = begins (session_effects entries) (subst (λ (v : Tables). AreRowsOf v (session_effects entries)) (sym t) h.rows);
}
