-- A copy that is made item by item.
use Rattle.std.proofs.Common.{◌≡◌, ℕ, ◌+◌, ◌-◌, ◌<◌, ◌≤◌, inl, inr, List, [], ◌∷◌, ◌++◌, length, take, drop, None, Some, sym, ap, ◌∙◌, subst, arith, length-take, map, refl}
use Rattle.std.specs.List.{AllZip, slice_get}
use Rattle.std.proofs.lemmas.List.Elements.{all_zip_more, length_all_zip}
use Rattle.std.proofs.lemmas.Option.{get_or_from_slice_get, slice_get_within, slice_get_cases}
use Rattle.circular_buffer.specs.Buffer.{Buffer, buffer, keep_last}
use Rattle.recent_ring.specs.Recent.{RecentValue, IsCopy}

-- one item more
pub alike_more : {T : Type 0} (R : T → T → Type 0) (items copy : List T) (place : ℕ) (x y : T) → Some x ≡ slice_get items place → R x y → AllZip R (take place items) copy → AllZip R (take (place + 1) items) (copy ++ y ∷ [])
alike_more R items copy place x y at alike so_far = all_zip_more R items copy place x y (slice_get_within items place x (sym at)) (sym (get_or_from_slice_get items place x x (sym at))) so_far alike

-- one item more, where there is room
pub copied_more : {T : Type 0} (R : T → T → Type 0) (items copy next : Buffer T) (place : ℕ) (x y : T) → Some x ≡ slice_get items.items place → R x y → length items.items ≤ items.capacity
    → AllZip R (take place items.items) copy.items → copy.capacity ≡ items.capacity → next ≡ buffer (keep_last copy.capacity (copy.items ++ y ∷ [])) copy.capacity
    → AllZip R (take (place + 1) items.items) next.items × (next.capacity ≡ items.capacity)
copied_more {T} R items copy next place x y at alike fits so_far room is =
    let xs = items.items in
    let ys = copy.items in
    let more : AllZip R (take (place + 1) xs) (ys ++ y ∷ []) = alike_more R xs ys place x y at alike so_far in
    let long : length (take (place + 1) xs) ≡ length (ys ++ y ∷ []) = length_all_zip R (take (place + 1) xs) (ys ++ y ∷ []) more in
    let whole : length (ys ++ y ∷ []) - copy.capacity ≡ 0 = omega (arith, length-take (place + 1) xs) in (
      subst (λ (b : Buffer T). AllZip R (take (place + 1) xs) b.items) (sym is) (subst (λ (k : ℕ). AllZip R (take (place + 1) xs) (drop k (ys ++ y ∷ []))) (sym whole) more),
      ap (λ (b : Buffer T). b.capacity) is ∙ room,
    )

-- there is an item at each place
pub item_there : {T : Type 0} (xs : List T) (place : ℕ) → place < length xs → slice_get xs place ≡ None → ⊥
item_there xs place below none = elim (slice_get_cases xs place).1 [
  | inl there ↦ let some : slice_get xs place ≡ Some there.0 = there.2 in cc
  | inr past ↦ omega (arith, past.0)
]

-- a copy is shown as the same, where items that are alike are
pub shown_copy : {T X : Type 0} (R : T → T → Type 0) (shows : T → X) → ((x y : T) → R x y → shows y ≡ shows x) → (r s : RecentValue T) → IsCopy R r s → map shows s.items ≡ map shows r.items
shown_copy {T} {X} R shows same r s copy = go r.items s.items copy.items
  where
    go : (xs ys : List T) → AllZip R xs ys → map shows ys ≡ map shows xs
    go [] [] a = refl
    go [] (y ∷ ys) a = absurd a
    go (x ∷ xs) [] a = absurd a
    go (x ∷ xs) (y ∷ ys) a = rw (same x y a.0, go xs ys a.1) refl
