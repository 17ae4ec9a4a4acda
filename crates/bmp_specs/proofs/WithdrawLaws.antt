-- An UPDATE message that is treated as a withdrawal leaves no row of a route that it contains.
use Rattle.std.proofs.Common.{◌≡◌, ◌⊎◌, ℕ, ◌+◌, zero, suc, ◌<◌, length, get_or, Bool, true, false, cond, inl, inr, List, [], ◌∷◌, ◌++◌, map, Contains, refl, sym, ◌∙◌, subst, append-nil, append_assoc, arith}
use Rattle.std.specs.List.{AllByRecursion}
use Rattle.bmp_specs.specs.declared.peers.View.{View}
use Rattle.bmp_specs.specs.declared.wire.IdUse.{IdUse}
use Rattle.bmp_specs.specs.FramedUpdate.{FramedValue}
use Rattle.bmp_specs.specs.MessageEffects.{effects_of, unread_effect}
use Rattle.bmp_specs.specs.Rows.{HasRow, RowValue}
use Rattle.bmp_specs.specs.TreatAsWithdraw.{IsTreatedAsWithdraw}
use Rattle.bmp_specs.specs.Update.{passed_over}
use Rattle.bmp_specs.specs.Values.{AttrsValue, EffectValue, KeyValue, NlriValue, UpdateValue, announce, routes, unread, withdraw}
use Rattle.bmp_specs.proofs.RowLaws.{row_from}

-- an element of a list is its first one or a later one
here_or_later : (m n : NlriValue) (ns : List NlriValue) (k : ℕ) → k < length (m ∷ ns) → get_or (m ∷ ns) k n ≡ n → (m ≡ n) ⊎ Contains ns n
here_or_later m n ns zero within e = inl e
here_or_later m n ns (suc k) within e = inr (k, omega (arith, within), e)

-- the effect announces nothing
abbrev IsNoAnnouncement : EffectValue → Type 0
IsNoAnnouncement e = (key : KeyValue) (view : View) (nlri : NlriValue) (route : AttrsValue) → ¬ (e ≡ announce key view nlri route)

module _ (row : RowValue) where
  -- effects that announce nothing make no row
  none_made : (es more : List EffectValue) → AllByRecursion IsNoAnnouncement more → ¬ (HasRow es row) → ¬ (HasRow (es ++ more) row)
  none_made es [] quiet none h = none (subst (λ (l : List EffectValue). HasRow l row) (append-nil es) h)
  none_made es (e ∷ more) quiet none h =
      let after : ¬ (HasRow (es ++ e ∷ []) row) = λ r. elim (row_from es e row r) [ inl a ↦ quiet.0 row.row_key.key row.row_key.view row.row_key.nlri row.route a.0 | inr o ↦ none o.0 ] in
      none_made (es ++ e ∷ []) more quiet.1 after (subst (λ (l : List EffectValue). HasRow l row) (sym (append_assoc es (e ∷ []) more)) h)

counted : (zero : Bool) (n : ℕ) → AllByRecursion IsNoAnnouncement (cond zero [] (unread n ∷ []))
counted true n = tt
counted false n = (λ key view nlri route e. cc, tt)

module _ (key : KeyValue) (view : View) (count : ℕ) where
  all_quiet : (ns : List NlriValue) → AllByRecursion IsNoAnnouncement (map (λ n. withdraw key view n) ns ++ unread_effect count)
  all_quiet [] = counted _ count
  all_quiet (n ∷ ns) = (λ k v nlri route e. cc, all_quiet ns)

  none_left : (es : List EffectValue) (ns : List NlriValue) (n : NlriValue) (route : AttrsValue) → Contains ns n
      → ¬ (HasRow (es ++ (map (λ n. withdraw key view n) ns ++ unread_effect count)) (record { row_key = record { key = key; view = view; nlri = n }; route = route }))
  none_left es [] n route c h = absurd (omega (arith, c.1))
  none_left es (m ∷ ns) n route c h =
      let row : RowValue = record { row_key = record { key = key; view = view; nlri = n }; route = route } in
      let moved = subst (λ (l : List EffectValue). HasRow l row) (sym (append_assoc es (withdraw key view m ∷ []) (map (λ n. withdraw key view n) ns ++ unread_effect count))) h in
      elim (here_or_later m n ns c.0 c.1 c.2) [
        | inl same ↦ none_made row (es ++ withdraw key view m ∷ []) (map (λ n. withdraw key view n) ns ++ unread_effect count) (all_quiet ns)
            (λ r. elim (row_from es (withdraw key view m) row r) [ inl a ↦ let e : withdraw key view m ≡ announce key view n route = a.0 in cc | inr o ↦ o.1 (refl, refl, same) ]) moved
        | inr later ↦ none_left (es ++ withdraw key view m ∷ []) ns n route later moved
      ]

-- whatever was there before
pub treated_leaves_none : (es : List EffectValue) (key : KeyValue) (view : View) (ids : IdUse) (f : FramedValue) (u : UpdateValue) (p : IsTreatedAsWithdraw ids f u) (n : NlriValue) (route : AttrsValue) → Contains p.contained n
    → ¬ (HasRow (es ++ effects_of (routes key view u)) (record { row_key = record { key = key; view = view; nlri = n }; route = route }))
treated_leaves_none es key view ids f u p n route c h =
    let row : RowValue = record { row_key = record { key = key; view = view; nlri = n }; route = route } in
    let as_withdrawal = subst (λ (v : UpdateValue). HasRow (es ++ effects_of (routes key view v)) row) p.is h in
    let count = 1 + (passed_over f.reach + passed_over f.unreach) in
    let gone = map (λ (m : NlriValue). withdraw key view m) p.contained in
    let flat : ((gone ++ []) ++ []) ++ [] ≡ gone = append-nil ((gone ++ []) ++ []) ∙ append-nil (gone ++ []) ∙ append-nil gone in
    none_left key view count es p.contained n route c (subst (λ (l : List EffectValue). HasRow (es ++ (l ++ unread_effect count)) row) flat as_withdrawal)
