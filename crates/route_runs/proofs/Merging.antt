-- Two lists of pairs in the order of their keys, merged: in order, and what they have at a key.
use Rattle.std.proofs.Common.{◌≡◌, Bool, true, false, cond, List, [], ◌∷◌, Option, None, Some, refl, ap, sym, ◌∙◌, subst}
use Rattle.std.specs.declared.cmp.Ordering.{Ordering}
use Rattle.std.specs.declared.cmp.Ordering.TheVariants.{Less, Equal, Greater}
use Rattle.std.specs.Ordering.{is_eq, match_ordering, ordering_reverse}
use Rattle.std.specs.Cmp.{IsTotalOrder}
use Rattle.std.specs.BTreeMap.{is_at}
use Rattle.std.specs.List.{AllByRecursion, filter}
use Rattle.std.specs.List.Sorted.{IsStrictlySortedBy}
use Rattle.std.specs.Map.{keys_of}
use Rattle.std.proofs.lemmas.Map.Lookups.{CmpEqualImpliesEq}
use Rattle.std.proofs.lemmas.Map.Views.{tells_apart}
use Rattle.route_runs.specs.Override.{value_at, or_else}
use Rattle.route_runs.specs.Weave.{merged}

pub or_none : {X : Type 0} (a : Option X) → or_else a None ≡ a
or_none None = refl
or_none (Some x) = refl

-- ---- what holds of each row
all_cases : {R : Type 0} (P : R → Type 0) (x y : R) (l m n : List R) → P x → P y → AllByRecursion P l → AllByRecursion P m → AllByRecursion P n → (o : Ordering) → AllByRecursion P (match_ordering o (x ∷ l) (y ∷ m) (y ∷ n))
all_cases P x y l m n px py a b c Less = (px, a)
all_cases P x y l m n px py a b c Equal = (py, b)
all_cases P x y l m n px py a b c Greater = (py, c)

pub all-filter : {R : Type 0} (P : R → Type 0) (test : R → Bool) (es : List R) → AllByRecursion P es → AllByRecursion P (filter test es)
all-filter P test [] a = tt
all-filter P test (e ∷ es) a = elim (test e) as (λ b. AllByRecursion P (cond b (e ∷ filter test es) (filter test es))) [ true ↦ (a.0, all-filter P test es a.1) | false ↦ all-filter P test es a.1 ]

pub keys_all : {K X : Type 0} (P : K → Type 0) (es : List (K × X)) → AllByRecursion (λ e. P e.0) es → AllByRecursion P (keys_of es)
keys_all P [] a = tt
keys_all P (e ∷ es) a = (a.0, keys_all P es a.1)

pub all_keys : {K X : Type 0} (P : K → Type 0) (es : List (K × X)) → AllByRecursion P (keys_of es) → AllByRecursion (λ e. P e.0) es
all_keys P [] a = tt
all_keys P (e ∷ es) a = (a.0, all_keys P es a.1)

-- the keys of all rows are after this one
abbrev pub Below : {K X : Type 0} → (K → K → Ordering) → K → List (K × X) → Type 0
Below cmp x es = AllByRecursion (λ e. cmp x e.0 ≡ Less) es

abbrev pub Rising : {K X : Type 0} → (K → K → Ordering) → List (K × X) → Type 0
Rising cmp es = IsStrictlySortedBy cmp (keys_of es)

pub rising_nil : {K : Type 0} (X : Type 0) (cmp : K → K → Ordering) → Rising {X = X} cmp []
unfolding IsStrictlySortedBy
rising_nil X cmp = tt

module _ {K X : Type 0} (cmp : K → K → Ordering) where
  pub rising_head : (e : K × X) (es : List (K × X)) → Rising cmp (e ∷ es) → Below cmp e.0 es
  unfolding IsStrictlySortedBy
  rising_head e es s = all_keys (λ y. cmp e.0 y ≡ Less) es s.0

  pub rising_tail : (e : K × X) (es : List (K × X)) → Rising cmp (e ∷ es) → Rising cmp es
  unfolding IsStrictlySortedBy
  rising_tail e es s = s.1

  pub rising_cons : (e : K × X) (es : List (K × X)) → Below cmp e.0 es → Rising cmp es → Rising cmp (e ∷ es)
  unfolding IsStrictlySortedBy
  rising_cons e es b s = (keys_all (λ y. cmp e.0 y ≡ Less) es b, s)

  all_against : (P : K × X → Type 0) (x : K × X) (xs : List (K × X)) → P x → ((l : List (K × X)) → AllByRecursion P l → AllByRecursion P (merged cmp xs l)) → (ys : List (K × X)) → AllByRecursion P ys → AllByRecursion P (merged cmp (x ∷ xs) ys)
  all_against P x xs px more [] b = (px, more [] tt)
  all_against P x xs px more (y ∷ ys) b = all_cases P x y _ _ _ px b.0 (more (y ∷ ys) b) (more ys b.1) (all_against P x xs px more ys b.1) (cmp x.0 y.0)

  pub all-merged : (P : K × X → Type 0) (xs ys : List (K × X)) → AllByRecursion P xs → AllByRecursion P ys → AllByRecursion P (merged cmp xs ys)
  all-merged P [] ys a b = b
  all-merged P (x ∷ xs) ys a b = all_against P x xs a.0 (λ l c. all-merged P xs l a.1 c) ys b

  pub rising-filter : (test : K × X → Bool) (es : List (K × X)) → Rising cmp es → Rising cmp (filter test es)
  rising-filter test [] s = s
  rising-filter test (e ∷ es) s =
      elim (test e) as (λ b. Rising cmp (cond b (e ∷ filter test es) (filter test es))) [
        | true ↦ rising_cons e (filter test es) (all-filter (λ d. cmp e.0 d.0 ≡ Less) test es (rising_head e es s)) (rising-filter test es (rising_tail e es s))
        | false ↦ rising-filter test es (rising_tail e es s)
      ]

pub less_cases : {X : Type 0} (b : Bool) (v : X) (o p : Option X) → (b ≡ true → o ≡ None) → cond b (Some v) (or_else o p) ≡ or_else o (cond b (Some v) p)
less_cases false v o p h = refl
less_cases true v None p h = refl
less_cases true v (Some x) p h = let e : Some x ≡ None = h refl in absurd cc

equal_cases : {X : Type 0} (b c : Bool) (v w : X) (o p : Option X) → c ≡ b → cond b (Some v) (or_else o p) ≡ or_else (cond b (Some v) o) (cond c (Some w) p)
equal_cases true c v w o p e = refl
equal_cases false true v w o p e = absurd cc
equal_cases false false v w o p e = refl

greater_cases : {X : Type 0} (b : Bool) (v : X) (o p : Option X) → cond b (Some v) (or_else o p) ≡ or_else (cond b (Some v) o) p
greater_cases true v o p = refl
greater_cases false v o p = refl

module _ {K X : Type 0} (cmp : K → K → Ordering) (total : IsTotalOrder cmp) (exact : CmpEqualImpliesEq cmp) where
  pub below_further : (x y : K) (es : List (K × X)) → cmp x y ≡ Less → Below cmp y es → Below cmp x es
  below_further x y [] less b = tt
  below_further x y (e ∷ es) less b = (total.trans x y e.0 less b.0, below_further x y es less b.1)

  pub none_below : (q x : K) (es : List (K × X)) → is_at (cmp q) x ≡ true → Below cmp x es → value_at cmp q es ≡ None
  none_below q x [] at b = refl
  none_below q x (e ∷ es) at b =
      let same : q ≡ x = tells_apart exact q x at in
      let less : cmp q e.0 ≡ Less = subst (λ k. cmp k e.0 ≡ Less) (sym same) b.0 in
      ap (λ o. cond (is_eq o) (Some e.1) (value_at cmp q es)) less ∙ none_below q x es at b.1

  value_cases : (q : K) (x y : K × X) (xs ys : List (K × X)) (o : Ordering) → cmp x.0 y.0 ≡ o → Rising cmp (y ∷ ys)
      → value_at cmp q (merged cmp xs (y ∷ ys)) ≡ or_else (value_at cmp q (y ∷ ys)) (value_at cmp q xs)
      → value_at cmp q (merged cmp xs ys) ≡ or_else (value_at cmp q ys) (value_at cmp q xs)
      → value_at cmp q (merged cmp (x ∷ xs) ys) ≡ or_else (value_at cmp q ys) (value_at cmp q (x ∷ xs))
      → value_at cmp q (match_ordering o (x ∷ merged cmp xs (y ∷ ys)) (y ∷ merged cmp xs ys) (y ∷ merged cmp (x ∷ xs) ys)) ≡ or_else (value_at cmp q (y ∷ ys)) (value_at cmp q (x ∷ xs))
  value_cases q x y xs ys Less is t a b c =
      ap (cond (is_at (cmp q) x.0) (Some x.1)) a
      ∙ less_cases (is_at (cmp q) x.0) x.1 (value_at cmp q (y ∷ ys)) (value_at cmp q xs) (λ at. none_below q x.0 (y ∷ ys) at (is, below_further x.0 y.0 ys is (rising_head cmp y ys t)))
  value_cases q x y xs ys Equal is t a b c =
      ap (cond (is_at (cmp q) y.0) (Some y.1)) b
      ∙ equal_cases (is_at (cmp q) y.0) (is_at (cmp q) x.0) y.1 x.1 (value_at cmp q ys) (value_at cmp q xs) (ap (λ k. is_at (cmp q) k) (exact x.0 y.0 is))
  value_cases q x y xs ys Greater is t a b c =
      ap (cond (is_at (cmp q) y.0) (Some y.1)) c ∙ greater_cases (is_at (cmp q) y.0) y.1 (value_at cmp q ys) (value_at cmp q (x ∷ xs))

  value_against : (q : K) (x : K × X) (xs : List (K × X)) → ((l : List (K × X)) → Rising cmp l → value_at cmp q (merged cmp xs l) ≡ or_else (value_at cmp q l) (value_at cmp q xs))
      → (ys : List (K × X)) → Rising cmp ys → value_at cmp q (merged cmp (x ∷ xs) ys) ≡ or_else (value_at cmp q ys) (value_at cmp q (x ∷ xs))
  value_against q x xs more [] t = ap (cond (is_at (cmp q) x.0) (Some x.1)) (more [] t)
  value_against q x xs more (y ∷ ys) t =
      let s : Rising cmp ys = rising_tail cmp y ys t in
      value_cases q x y xs ys (cmp x.0 y.0) refl t (more (y ∷ ys) t) (more ys s) (value_against q x xs more ys s)

  pub value-merged : (q : K) (xs ys : List (K × X)) → Rising cmp ys → value_at cmp q (merged cmp xs ys) ≡ or_else (value_at cmp q ys) (value_at cmp q xs)
  value-merged q [] ys t = sym (or_none (value_at cmp q ys))
  value-merged q (x ∷ xs) ys t = value_against q x xs (λ l s. value-merged q xs l s) ys t

  rising_cases : (x y : K × X) (xs ys : List (K × X)) (o : Ordering) → cmp x.0 y.0 ≡ o → Rising cmp (x ∷ xs) → Rising cmp (y ∷ ys)
      → Rising cmp (merged cmp xs (y ∷ ys)) → Rising cmp (merged cmp xs ys) → Rising cmp (merged cmp (x ∷ xs) ys)
      → Rising cmp (match_ordering o (x ∷ merged cmp xs (y ∷ ys)) (y ∷ merged cmp xs ys) (y ∷ merged cmp (x ∷ xs) ys))
  rising_cases x y xs ys Less is s t a b c =
      rising_cons cmp x _ (all-merged cmp (λ e. cmp x.0 e.0 ≡ Less) xs (y ∷ ys) (rising_head cmp x xs s) (is, below_further x.0 y.0 ys is (rising_head cmp y ys t))) a
  rising_cases x y xs ys Equal is s t a b c =
      rising_cons cmp y _ (all-merged cmp (λ e. cmp y.0 e.0 ≡ Less) xs ys (subst (λ k. Below cmp k xs) (exact x.0 y.0 is) (rising_head cmp x xs s)) (rising_head cmp y ys t)) b
  rising_cases x y xs ys Greater is s t a b c =
      let less : cmp y.0 x.0 ≡ Less = total.antisymm y.0 x.0 ∙ ap ordering_reverse is in
      rising_cons cmp y _ (all-merged cmp (λ e. cmp y.0 e.0 ≡ Less) (x ∷ xs) ys (less, below_further y.0 x.0 xs less (rising_head cmp x xs s)) (rising_head cmp y ys t)) c

  rising_against : (x : K × X) (xs : List (K × X)) → Rising cmp (x ∷ xs) → ((l : List (K × X)) → Rising cmp l → Rising cmp (merged cmp xs l)) → (ys : List (K × X)) → Rising cmp ys → Rising cmp (merged cmp (x ∷ xs) ys)
  rising_against x xs s more [] t = rising_cons cmp x _ (all-merged cmp (λ e. cmp x.0 e.0 ≡ Less) xs [] (rising_head cmp x xs s) tt) (more [] t)
  rising_against x xs s more (y ∷ ys) t =
      let u : Rising cmp ys = rising_tail cmp y ys t in
      rising_cases x y xs ys (cmp x.0 y.0) refl s t (more (y ∷ ys) t) (more ys u) (rising_against x xs s more ys u)

  pub rising-merged : (xs ys : List (K × X)) → Rising cmp xs → Rising cmp ys → Rising cmp (merged cmp xs ys)
  rising-merged [] ys s t = t
  rising-merged (x ∷ xs) ys s t = rising_against x xs s (λ l u. rising-merged xs l (rising_tail cmp x xs s) u) ys t
