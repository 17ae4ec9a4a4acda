-- Lists in order that are made of others, and what tests keep of a list.
use Rattle.std.proofs.Common.{◌≡◌, Bool, true, false, cond, ◌&&◌, List, [], ◌∷◌, map, refl, sym, ap, ◌∙◌, subst}
use Rattle.std.specs.declared.cmp.Ordering.{Ordering}
use Rattle.std.specs.declared.cmp.Ordering.TheVariants.{Less}
use Rattle.std.specs.List.{AllByRecursion, Contains, filter, flat_map}
use Rattle.std.specs.List.Sorted.{IsStrictlySortedBy}
use Rattle.std.proofs.lemmas.List.{map-append}
use Rattle.bmp_specs.proofs.ListedOne.{contains_first, contains_later}
use Rattle.query_eval.proofs.Keeping.{all_join, sorted_join}

-- two tests that agree on the members of a list keep the same
pub same_kept : {X : Type 0} (p q : X → Bool) (xs : List X) → ((x : X) → Contains xs x → p x ≡ q x) → filter p xs ≡ filter q xs
same_kept p q [] same = refl
same_kept p q (x ∷ xs) same = ap (λ (b : Bool). cond b (x ∷ filter p xs) (filter p xs)) (same x (contains_first x xs)) ∙ ap (λ l. cond (q x) (x ∷ l) l) (same_kept p q xs (λ y c. same y (contains_later x xs y c)))

-- ---- order
pub all_of : {Y K : Type 0} (key : Y → K) (P : K → Type 0) (ys : List Y) → ((y : Y) → Contains ys y → P (key y)) → AllByRecursion P (map key ys)
all_of key P [] each = tt
all_of key P (y ∷ ys) each = (each y (contains_first y ys), all_of key P ys (λ z c. each z (contains_later y ys z c)))

-- Lists in order, one for each item of a list in order: where the members for an item come before those for a later one,
-- all together are in order.
module _ {X J Y K : Type 0} (item : X → J) (among : J → J → Ordering) (f : X → List Y) (key : Y → K) (cmp : K → K → Ordering) (less : (x y : X) (a b : Y) → among (item x) (item y) ≡ Less → Contains (f x) a → Contains (f y) b → cmp (key a) (key b) ≡ Less) where
  all_less : (x : X) (a : Y) → Contains (f x) a → (xs : List X) → AllByRecursion (λ (j : J). among (item x) j ≡ Less) (map item xs) → AllByRecursion (λ (q : K). cmp (key a) q ≡ Less) (map key (flat_map f xs))
  all_less x a m [] s = tt
  all_less x a m (y ∷ xs) s = subst (AllByRecursion (λ (q : K). cmp (key a) q ≡ Less)) (sym (map-append key (f y) (flat_map f xs)))
      (all_join (λ (q : K). cmp (key a) q ≡ Less) (map key (f y)) (map key (flat_map f xs)) (all_of key (λ (q : K). cmp (key a) q ≡ Less) (f y) (λ b d. less x y a b s.0 m d)) (all_less x a m xs s.1))

  pub flat_sorted : (xs : List X) → IsStrictlySortedBy among (map item xs) → ((x : X) → Contains xs x → IsStrictlySortedBy cmp (map key (f x))) → IsStrictlySortedBy cmp (map key (flat_map f xs))
  unfolding IsStrictlySortedBy
  flat_sorted [] s each = tt
  flat_sorted (x ∷ xs) s each = subst (IsStrictlySortedBy cmp) (sym (map-append key (f x) (flat_map f xs)))
      (sorted_join cmp (map key (f x)) (map key (flat_map f xs)) (each x (contains_first x xs)) (flat_sorted xs s.1 (λ y c. each y (contains_later x xs y c)))
      (all_of key (λ (p : K). AllByRecursion (λ (q : K). cmp p q ≡ Less) (map key (flat_map f xs))) (f x) (λ a m. all_less x a m xs s.0)))

pub all_members : {X : Type 0} (P : X → Type 0) (xs : List X) → ((x : X) → Contains xs x → P x) → AllByRecursion P xs
all_members P [] each = tt
all_members P (x ∷ xs) each = (each x (contains_first x xs), all_members P xs (λ y c. each y (contains_later x xs y c)))

kept_cases : {X : Type 0} (p : X → Bool) (c : Bool) (x : X) (rest all : List X) → filter p rest ≡ all → filter p (cond c (x ∷ rest) rest) ≡ cond (p x && c) (x ∷ all) all
kept_cases p true x rest all e = kept_on (p x) x (filter p rest) all e
  where
    kept_on : {X : Type 0} (b : Bool) (x : X) (kept all : List X) → kept ≡ all → cond b (x ∷ kept) kept ≡ cond (b && true) (x ∷ all) all
    kept_on true x kept all e = ap (λ l. x ∷ l) e
    kept_on false x kept all e = e
kept_cases p false x rest all e = e ∙ sym (none_on (p x) x all)
  where
    none_on : {X : Type 0} (b : Bool) (x : X) (all : List X) → cond (b && false) (x ∷ all) all ≡ all
    none_on true x all = refl
    none_on false x all = refl

-- a test of what another test keeps
pub kept_twice : {X : Type 0} (p q r : X → Bool) → ((x : X) → (p x && q x) ≡ r x) → (xs : List X) → filter p (filter q xs) ≡ filter r xs
kept_twice p q r both [] = refl
kept_twice p q r both (x ∷ xs) = kept_cases p (q x) x (filter q xs) (filter r xs) (kept_twice p q r both xs) ∙ ap (λ (b : Bool). cond b (x ∷ filter r xs) (filter r xs)) (both x)
