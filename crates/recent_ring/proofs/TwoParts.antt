-- The last items of a list in two parts: what copies share, and what was pushed since.
use Rattle.std.proofs.Common.{◌≡◌, ℕ, zero, suc, ◌+◌, ◌-◌, ◌^◌, ◌<◌, ◌≤◌, inl, inr, min, List, [], ◌∷◌, ◌++◌, length, drop, refl, sym, ap, ◌∙◌, subst, arith, append_assoc, length-append, length-drop}
use Rattle.std.proofs.Math.Seq.{drop-append_seam, drop-append-add}
use Rattle.std.proofs.lemmas.Bool.{cases_lt}
use Rattle.std.proofs.lemmas.List.Elements.{length_all_zip}
use Rattle.std.specs.List.{AllZip, slice_get}
use Rattle.circular_buffer.specs.Buffer.{Buffer, buffer, keep_last}
use Rattle.recent_ring.specs.Recent.{RecentValue, last_items, recent}
use Rattle.recent_ring.proofs.LastItems.{last_items-push}

module _ {X : Type 0} where
  -- of the second part its last items are enough
  last_of_second : (xs ys : List X) → last_items (xs ++ last_items ys) ≡ last_items (xs ++ ys)
  last_of_second xs ys = elim (cases_lt 1024 (length ys)) [
    | inl long ↦
        let n = length ys - 1024 in
        let cut : length (drop n ys) ≡ 1024 = omega (arith, length-drop n ys) in
        let front : length (xs ++ drop n ys) - 1024 ≡ length xs = omega (arith, length-append xs (drop n ys), cut) in
        let whole : length (xs ++ ys) - 1024 ≡ length xs + n = omega (arith, length-append xs ys) in
        ap (λ (k : ℕ). drop k (xs ++ drop n ys)) front ∙ drop-append_seam xs (drop n ys) ∙ sym (drop-append-add xs ys n) ∙ ap (λ (k : ℕ). drop k (xs ++ ys)) (sym whole)
    | inr short ↦
        let none : length ys - 1024 ≡ 0 = omega arith in
        ap (λ (k : ℕ). last_items (xs ++ drop k ys)) none
  ]

  push_parts : (xs ys : List X) (x : X) → last_items (xs ++ last_items (ys ++ x ∷ [])) ≡ last_items (last_items (xs ++ ys) ++ x ∷ [])
  push_parts xs ys x = last_of_second xs (ys ++ x ∷ []) ∙ ap (λ (l : List X). last_items l) (sym (append_assoc xs ys (x ∷ []))) ∙ sym (last_items-push (xs ++ ys) x)

  -- an item more in the second part
  pub pushed_items : (xs : List X) (b next : Buffer X) (now : RecentValue X) (x : X) → b.capacity ≡ 1024 → last_items (xs ++ b.items) ≡ now.items → next ≡ buffer (keep_last b.capacity (b.items ++ x ∷ [])) b.capacity
      → last_items (xs ++ next.items) ≡ last_items (now.items ++ x ∷ [])
  pushed_items xs b next now x room seen is =
      ap (λ (v : Buffer X). last_items (xs ++ v.items)) is
      ∙ ap (λ (k : ℕ). last_items (xs ++ keep_last k (b.items ++ x ∷ []))) room
      ∙ push_parts xs b.items x
      ∙ ap (λ (l : List X). last_items (l ++ x ∷ [])) seen

  abbrev pub ring_of : ℕ → List X → RecentValue X
  ring_of total items = record { total = total; items = items }

  pub same_ring : (t u : ℕ) (xs ys : List X) → t ≡ u → xs ≡ ys → ring_of t xs ≡ ring_of u ys
  same_ring t u xs ys e f = rw (e, f) refl

  -- and the ring of a list is that of the list with the item
  pub pushed_ring : (all items : List X) (now : RecentValue X) (x : X) (total : ℕ) → now ≡ recent all → total ≡ min (now.total + 1) (2 ^ 64 - 1) → items ≡ last_items (now.items ++ x ∷ []) → ring_of total items ≡ recent (all ++ x ∷ [])
  pushed_ring all items now x total is sum pushed =
      let long : length (all ++ x ∷ []) ≡ length all + 1 = length-append all (x ∷ []) in
      let before : now.total ≡ min (length all) (2 ^ 64 - 1) = ap (λ (r : RecentValue X). r.total) is in
      same_ring total (min (length (all ++ x ∷ [])) (2 ^ 64 - 1)) items (last_items (all ++ x ∷ [])) (omega (arith, sum, before, long)) (pushed ∙ ap (λ (r : RecentValue X). last_items (r.items ++ x ∷ [])) is ∙ last_items-push all x)

  -- the items past the first ones, by their places
  pub slice_get-drop : (n : ℕ) (xs : List X) (i : ℕ) → slice_get (drop n xs) i ≡ slice_get xs (n + i)
  slice_get-drop zero xs i = let same : i ≡ 0 + i = omega arith in ap (slice_get xs) same
  slice_get-drop (suc n) [] i = refl
  slice_get-drop (suc n) (x ∷ xs) i = let next : suc (n + i) ≡ suc n + i = omega arith in slice_get-drop n xs i ∙ ap (slice_get (x ∷ xs)) next

  pub in_front : (xs ys : List X) (i : ℕ) → i < length xs → slice_get (xs ++ ys) i ≡ slice_get xs i
  in_front [] ys i h = absurd (omega arith)
  in_front (x ∷ xs) ys zero h = refl
  in_front (x ∷ xs) ys (suc i) h = in_front xs ys i (omega arith)

  pub behind : (xs ys : List X) (i : ℕ) → length xs ≤ i → slice_get (xs ++ ys) i ≡ slice_get ys (i - length xs)
  behind [] ys i h = let same : i ≡ i - 0 = omega arith in ap (slice_get ys) same
  behind (x ∷ xs) ys zero h = absurd (omega arith)
  behind (x ∷ xs) ys (suc i) h = let same : i - length xs ≡ suc i - length (x ∷ xs) = omega arith in behind xs ys i (omega arith) ∙ ap (slice_get ys) same

module _ {X : Type 0} (R : X → X → Type 0) where
  pub all_zip_same : ((x : X) → R x x) → (xs : List X) → AllZip R xs xs
  all_zip_same same [] = tt
  all_zip_same same (x ∷ xs) = (same x, all_zip_same same xs)

  pub all_zip_append : (xs us ys vs : List X) → AllZip R xs us → AllZip R ys vs → AllZip R (xs ++ ys) (us ++ vs)
  all_zip_append [] [] ys vs a b = b
  all_zip_append [] (u ∷ us) ys vs a b = absurd a
  all_zip_append (x ∷ xs) [] ys vs a b = absurd a
  all_zip_append (x ∷ xs) (u ∷ us) ys vs a b = (a.0, all_zip_append xs us ys vs a.1 b)

  all_zip_drop : (n : ℕ) (xs us : List X) → AllZip R xs us → AllZip R (drop n xs) (drop n us)
  all_zip_drop zero xs us a = a
  all_zip_drop (suc n) [] [] a = tt
  all_zip_drop (suc n) [] (u ∷ us) a = absurd a
  all_zip_drop (suc n) (x ∷ xs) [] a = absurd a
  all_zip_drop (suc n) (x ∷ xs) (u ∷ us) a = all_zip_drop n xs us a.1

  -- a copy that shares the first part
  pub shared_copy : ((x : X) → R x x) → (xs ys zs items : List X) → last_items (xs ++ ys) ≡ items → AllZip R ys zs → AllZip R items (last_items (xs ++ zs))
  shared_copy same xs ys zs items seen a =
      let whole : AllZip R (xs ++ ys) (xs ++ zs) = all_zip_append xs xs ys zs (all_zip_same same xs) a in
      let long : length (xs ++ ys) ≡ length (xs ++ zs) = length_all_zip R (xs ++ ys) (xs ++ zs) whole in
      subst (λ (l : List X). AllZip R l (last_items (xs ++ zs))) seen (subst (λ (k : ℕ). AllZip R (last_items (xs ++ ys)) (drop (k - 1024) (xs ++ zs))) long (all_zip_drop (length (xs ++ ys) - 1024) (xs ++ ys) (xs ++ zs) whole))
