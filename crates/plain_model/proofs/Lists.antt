-- Lists at a place.
use Rattle.std.proofs.Common.{◌≡◌, ◌⊎◌, inl, inr, ℕ, zero, suc, ◌<◌, ◌≤◌, List, [], ◌∷◌, ◌++◌, Some, None, length, map, take, drop, get_or, refl, sym, ap, ◌∙◌, subst, arith}
use Rattle.std.specs.Prelude.{slice_get, MatchOption, ⊤}
use Rattle.std.specs.List.{AllByRecursion, Contains}
use Rattle.std.specs.List.Sorted.{IsStrictlySortedBy}
use Rattle.std.specs.declared.cmp.Ordering.{Ordering}
use Rattle.std.specs.declared.cmp.Ordering.TheVariants.{Less}
use Rattle.std.specs.Cmp.{IsTotalOrder}
use Rattle.bmp_specs.proofs.ListedOne.{contains_cases, contains_first, contains_later}

module _ {A B : Type 0} (f : A → B) where
  -- an element of a mapped list, and what stands around it
  pub map_split : (xs : List A) (i : ℕ) (d : A) → i < length xs → map f xs ≡ map f (take i xs) ++ f (get_or xs i d) ∷ map f (drop (suc i) xs)
  map_split [] i d within = absurd (omega arith)
  map_split (x ∷ xs) zero d within = refl
  map_split (x ∷ xs) (suc i) d within = ap (λ (l : List B). f x ∷ l) (map_split xs i d (omega arith))

  pub map_take_more : (xs : List A) (i : ℕ) (d : A) → i < length xs → map f (take (suc i) xs) ≡ map f (take i xs) ++ f (get_or xs i d) ∷ []
  map_take_more [] i d within = absurd (omega arith)
  map_take_more (x ∷ xs) zero d within = refl
  map_take_more (x ∷ xs) (suc i) d within = ap (λ (l : List B). f x ∷ l) (map_take_more xs i d (omega arith))

  pub all_at : (P : B → Type 0) (xs : List A) (i : ℕ) (d : A) → AllByRecursion P (map f xs) → i < length xs → P (f (get_or xs i d))
  all_at P [] i d all within = absurd (omega arith)
  all_at P (x ∷ xs) zero d all within = all.0
  all_at P (x ∷ xs) (suc i) d all within = all_at P xs i d all.1 (omega arith)

  pub map_take_length : (xs : List A) (i : ℕ) → i ≤ length xs → length (map f (take i xs)) ≡ i
  map_take_length xs zero within = refl
  map_take_length [] (suc i) within = absurd (omega arith)
  map_take_length (x ∷ xs) (suc i) within = let e = map_take_length xs i (omega arith) in omega arith

  pub map_get : (xs : List A) (i : ℕ) (d : A) → i < length xs → slice_get (map f xs) i ≡ Some (f (get_or xs i d))
  map_get [] i d within = absurd (omega arith)
  map_get (x ∷ xs) zero d within = refl
  map_get (x ∷ xs) (suc i) d within = map_get xs i d (omega arith)

  pub map_insert : (xs : List A) (i : ℕ) (x : A) → map f (take i xs ++ x ∷ drop i xs) ≡ take i (map f xs) ++ f x ∷ drop i (map f xs)
  map_insert xs zero x = refl
  map_insert [] (suc i) x = refl
  map_insert (y ∷ xs) (suc i) x = ap (λ (l : List B). f y ∷ l) (map_insert xs i x)

module _ {X : Type 0} where
  pub get_past : (xs : List X) (i : ℕ) → length xs ≤ i → slice_get xs i ≡ None
  get_past [] i past = refl
  get_past (x ∷ xs) zero past = absurd (omega arith)
  get_past (x ∷ xs) (suc i) past = get_past xs i (omega arith)

  -- an element and what stands around it are known by what stands before it
  pub split_one : (a b at_a at_b : List X) (x y : X) → length a ≡ length b → a ++ x ∷ at_a ≡ b ++ y ∷ at_b → (a ≡ b) × (x ≡ y) × (at_a ≡ at_b)
  split_one [] [] at_a at_b x y len e = (refl, cc, cc)
  split_one [] (d ∷ b) at_a at_b x y len e = absurd (omega arith)
  split_one (c ∷ a) [] at_a at_b x y len e = absurd (omega arith)
  split_one (c ∷ a) (d ∷ b) at_a at_b x y len e =
      let same : c ≡ d = cc in
      let rest : a ++ x ∷ at_a ≡ b ++ y ∷ at_b = cc in
      let h = split_one a b at_a at_b x y (omega arith) rest in
      (ap (λ (z : X). z ∷ a) same ∙ ap (λ (l : List X). d ∷ l) h.0, h.1, h.2)

  pub all_insert : (P : X → Type 0) (xs : List X) (i : ℕ) (x : X) → AllByRecursion P xs → P x → AllByRecursion P (take i xs ++ x ∷ drop i xs)
  all_insert P xs zero x all p = (p, all)
  all_insert P [] (suc i) x all p = (p, tt)
  all_insert P (y ∷ xs) (suc i) x all p = (all.0, all_insert P xs i x all.1 p)

  pub contains_insert : (xs : List X) (i : ℕ) (x y : X) → Contains xs y → Contains (take i xs ++ x ∷ drop i xs) y
  contains_insert xs zero x y c = contains_later x xs y c
  contains_insert [] (suc i) x y c = absurd (omega (arith, c.1))
  contains_insert (z ∷ xs) (suc i) x y c = elim (contains_cases z xs y c) [
    | inl e ↦ subst (λ (w : X). Contains (z ∷ (take i xs ++ x ∷ drop i xs)) w) e (contains_first z (take i xs ++ x ∷ drop i xs))
    | inr d ↦ contains_later z (take i xs ++ x ∷ drop i xs) y (contains_insert xs i x y d)
  ]

  pub contains_inserted : (xs : List X) (i : ℕ) (x : X) → Contains (take i xs ++ x ∷ drop i xs) x
  contains_inserted xs zero x = contains_first x xs
  contains_inserted [] (suc i) x = contains_first x []
  contains_inserted (z ∷ xs) (suc i) x = contains_later z (take i xs ++ x ∷ drop i xs) x (contains_inserted xs i x)

  pub insert_cases : (xs : List X) (i : ℕ) (x y : X) → Contains (take i xs ++ x ∷ drop i xs) y → Contains xs y ⊎ (y ≡ x)
  insert_cases xs zero x y c = elim (contains_cases x xs y c) [ inl e ↦ inr (sym e) | inr d ↦ inl d ]
  insert_cases [] (suc i) x y c = elim (contains_cases x [] y c) [ inl e ↦ inr (sym e) | inr d ↦ inl d ]
  insert_cases (z ∷ xs) (suc i) x y c = elim (contains_cases z (take i xs ++ x ∷ drop i xs) y c) [
    | inl e ↦ inl (subst (λ (w : X). Contains (z ∷ xs) w) e (contains_first z xs))
    | inr d ↦ elim (insert_cases xs i x y d) [ inl a ↦ inl (contains_later z xs y a) | inr e ↦ inr e ]
  ]

  module _ (cmp : X → X → Ordering) (total : IsTotalOrder cmp) where
    all_above : (x y : X) (xs : List X) → cmp x y ≡ Less → AllByRecursion (λ z. cmp y z ≡ Less) xs → AllByRecursion (λ z. cmp x z ≡ Less) xs
    all_above x y [] less all = tt
    all_above x y (z ∷ xs) less all = (total.trans x y z less all.0, all_above x y xs less all.1)

    -- put between those before it and those after it, it leaves the list in order
    pub insert_sorted : (xs : List X) (i : ℕ) (x : X) → IsStrictlySortedBy cmp xs → AllByRecursion (λ z. cmp z x ≡ Less) (take i xs) → MatchOption (slice_get xs i) ⊤ (λ z. cmp x z ≡ Less)
        → IsStrictlySortedBy cmp (take i xs ++ x ∷ drop i xs)
    unfolding IsStrictlySortedBy
    insert_sorted [] zero x sorted before next = (tt, tt)
    insert_sorted (z ∷ xs) zero x sorted before next = ((next, all_above x z xs next sorted.0), sorted)
    insert_sorted [] (suc i) x sorted before next = (tt, tt)
    insert_sorted (z ∷ xs) (suc i) x sorted before next = (all_insert (λ w. cmp z w ≡ Less) xs i x sorted.0 before.0, insert_sorted xs i x sorted.1 before.1 next)
