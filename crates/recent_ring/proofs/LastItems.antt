-- The last items of a list, when it grows at its end.
use Rattle.std.proofs.Common.{◌≡◌, ℕ, ◌+◌, ◌-◌, min, List, [], ◌∷◌, ◌++◌, length, drop, map, sym, ap, ◌∙◌, arith, length-append, length-drop, drop-drop}
use Rattle.std.proofs.lemmas.List.{drop-append-le, drop-map, map-append, length-map}
use Rattle.recent_ring.specs.Recent.{last_items}

module _ {X : Type 0} where
  -- the last items of a list are all that the next ones need
  pub last_items-push : (all : List X) (x : X) → last_items (last_items all ++ x ∷ []) ≡ last_items (all ++ x ∷ [])
  last_items-push all x =
      let n = length all - 1024 in
      let m = length (drop n all ++ x ∷ []) - 1024 in
      let long : length (all ++ x ∷ []) ≡ length all + 1 = length-append all (x ∷ []) in
      let cut : length (drop n all ++ x ∷ []) ≡ length all - n + 1 = length-append (drop n all) (x ∷ []) ∙ ap (λ (k : ℕ). k + 1) (length-drop n all) in
      let whole : n + m ≡ length (all ++ x ∷ []) - 1024 = omega arith in
      ap (drop m) (sym (drop-append-le n all (x ∷ []) (omega arith))) ∙ drop-drop m n (all ++ x ∷ []) ∙ ap (λ (k : ℕ). drop k (all ++ x ∷ [])) whole

  pub length-last_items : (all : List X) → length (last_items all) ≡ min (length all) 1024
  length-last_items all = omega (arith, length-drop (length all - 1024) all)

-- and where the items are shown as others
pub shown_push : {T X : Type 0} (shows : T → X) (items : List T) (item : T) (all : List X) → map shows items ≡ last_items all → map shows (last_items (items ++ item ∷ [])) ≡ last_items (all ++ shows item ∷ [])
shown_push {T} {X} shows items item all is =
    let n = length (items ++ item ∷ []) - 1024 in
    let joined : map shows (items ++ item ∷ []) ≡ last_items all ++ shows item ∷ [] = map-append shows items (item ∷ []) ∙ ap (λ (l : List X). l ++ shows item ∷ []) is in
    let long : length (items ++ item ∷ []) ≡ length (map shows (items ++ item ∷ [])) = sym (length-map (items ++ item ∷ []) shows) in
    sym (drop-map shows n (items ++ item ∷ []))
    ∙ ap (λ (k : ℕ). drop (k - 1024) (map shows (items ++ item ∷ []))) long
    ∙ ap (λ (l : List X). last_items l) joined
    ∙ last_items-push all (shows item)
