-- Lists in order that have all values that are so, as the rows of a table: there is one.
use Rattle.std.proofs.Common.{◌≡◌, zero, suc, List, [], ◌∷◌, ◌⊎◌, inl, inr, map, refl, sym, ◌∙◌, ap, subst, arith}
use Rattle.std.specs.List.{AllByRecursion, Contains}
use Rattle.std.specs.List.Sorted.{IsStrictlySortedBy}
use Rattle.std.specs.declared.cmp.Ordering.{Ordering}
use Rattle.std.specs.declared.cmp.Ordering.TheVariants.{Less, Equal}
use Rattle.std.specs.Cmp.{IsTotalOrder}
use Rattle.std.proofs.lemmas.Cmp.{tied_itself}
use Rattle.std.proofs.lemmas.Map.Keys.{sorted_head, sorted_tail}
use Rattle.bmp_specs.specs.Listed.{AreAll}
use Rattle.bmp_specs.specs.Values.{EffectValue}
use Rattle.bmp_specs.specs.Rows.{RowValue, HasRow}
use Rattle.bmp_specs.specs.TableRows.{row_key_cmp, AreRows}
use Rattle.bmp_specs.proofs.OrderLaws.{row_key_total}

-- a member of a list is its first element or one of the others
pub contains_cases : {X : Type 0} (y : X) (ys : List X) (x : X) → Contains (y ∷ ys) x → (y ≡ x) ⊎ Contains ys x
contains_cases y ys x (zero, within, is) = inl is
contains_cases y ys x (suc k, within, is) = inr (k, omega arith, is)

pub contains_first : {X : Type 0} (y : X) (ys : List X) → Contains (y ∷ ys) y
contains_first y ys = (0, omega arith, refl)

pub contains_later : {X : Type 0} (y : X) (ys : List X) (x : X) → Contains ys x → Contains (y ∷ ys) x
contains_later y ys x (k, within, is) = (suc k, omega arith, is)

-- lists in strict order with the same members are one list
module _ {X K : Type 0} (key : X → K) (cmp : K → K → Ordering) (total : IsTotalOrder cmp) where
  below_all : (P : K → Type 0) (xs : List X) (x : X) → AllByRecursion P (map key xs) → Contains xs x → P (key x)
  below_all P [] x all (k, within, is) = absurd (omega arith)
  below_all P (y ∷ ys) x all c = elim (contains_cases y ys x c) [ inl e ↦ subst (λ (z : X). P (key z)) e all.0 | inr d ↦ below_all P ys x all.1 d ]

  not_below_itself : (k : K) → cmp k k ≡ Less → ⊥
  not_below_itself k less = let e : cmp k k ≡ Equal = tied_itself total k in cc

  -- the first elements are one
  heads : (x y : X) (xs ys : List X) → AllByRecursion (λ k. cmp (key x) k ≡ Less) (map key xs) → AllByRecursion (λ k. cmp (key y) k ≡ Less) (map key ys)
      → (y ≡ x) ⊎ Contains ys x → (x ≡ y) ⊎ Contains xs y → x ≡ y
  heads x y xs ys s t (inl e) d = sym e
  heads x y xs ys s t (inr c) (inl e) = e
  heads x y xs ys s t (inr c) (inr d) = absurd (not_below_itself (key x) (total.trans (key x) (key y) (key x) (below_all (λ k. cmp (key x) k ≡ Less) xs y s d) (below_all (λ k. cmp (key y) k ≡ Less) ys x t c)))

  -- what is a member of the others here is one there
  tails : (x y : X) (xs ys : List X) → x ≡ y → AllByRecursion (λ k. cmp (key x) k ≡ Less) (map key xs) → (z : X) → Contains xs z → (y ≡ z) ⊎ Contains ys z → Contains ys z
  tails x y xs ys e s z c (inr d) = d
  tails x y xs ys e s z c (inl f) = absurd (not_below_itself (key x) (subst (λ (w : X). cmp (key x) (key w) ≡ Less) (sym (e ∙ f)) (below_all (λ k. cmp (key x) k ≡ Less) xs z s c)))

  pub one_sorted : (xs ys : List X) → IsStrictlySortedBy cmp (map key xs) → IsStrictlySortedBy cmp (map key ys)
      → ((x : X) → Contains xs x → Contains ys x) → ((x : X) → Contains ys x → Contains xs x) → xs ≡ ys
  one_sorted [] [] s t to back = refl
  one_sorted [] (y ∷ ys) s t to back = let h = back y (contains_first y ys) in absurd (omega (arith, h.1))
  one_sorted (x ∷ xs) [] s t to back = let h = to x (contains_first x xs) in absurd (omega (arith, h.1))
  one_sorted (x ∷ xs) (y ∷ ys) s t to back =
      let below = sorted_head cmp (key x) (map key xs) s in
      let above = sorted_head cmp (key y) (map key ys) t in
      let same : x ≡ y = heads x y xs ys below above (contains_cases y ys x (to x (contains_first x xs))) (contains_cases x xs y (back y (contains_first y ys))) in
      let others : xs ≡ ys = one_sorted xs ys (sorted_tail cmp (key x) (map key xs) s) (sorted_tail cmp (key y) (map key ys) t)
      (λ z c. tails x y xs ys same below z c (contains_cases y ys z (to z (contains_later x xs z c))))
      (λ z c. tails y x ys xs (sym same) above z c (contains_cases x xs z (back z (contains_later y ys z c)))) in
      ap (λ (z : X). z ∷ xs) same ∙ ap (λ (l : List X). y ∷ l) others

  -- all values that are so are one list
  pub all_one : (Is : X → Type 0) (xs ys : List X) → AreAll key cmp Is xs → AreAll key cmp Is ys → xs ≡ ys
  all_one Is xs ys a b = one_sorted xs ys a.ordered b.ordered (λ x c. (b.exact x).1 ((a.exact x).0 c)) (λ x c. (a.exact x).1 ((b.exact x).0 c))

-- effects leave one list of the rows that are asked for
pub rows_one : (asks : RowValue → Type 0) (effects : List EffectValue) (rows others : List RowValue) → AreRows asks effects rows → AreRows asks effects others → rows ≡ others
rows_one asks effects rows others a b = all_one (λ row. row.row_key) row_key_cmp row_key_total (λ row. HasRow effects row × asks row) rows others a b
