-- Changes as one list: rows as they came, of each key the last one.
use Rattle.std.proofs.Common.{◌≡◌, ℕ, zero, suc, ◌+◌, ◌<◌, ◌⊎◌, inl, inr, Bool, true, false, cond, not, ◌&&◌, List, [], ◌∷◌, ◌++◌, length, get_or, map, reverse, Option, None, Some, refl, ap, sym, ◌∙◌, subst, arith}
use Rattle.std.specs.declared.cmp.Ordering.{Ordering}
use Rattle.std.specs.declared.cmp.Ordering.TheVariants.{Less, Equal, Greater}
use Rattle.std.specs.Ordering.{is_lt, is_eq, ordering_reverse}
use Rattle.std.specs.Cmp.{IsTotalOrder}
use Rattle.std.specs.BTreeMap.{is_at}
use Rattle.std.specs.List.{AllByRecursion, Contains, dedup, dedup_from, filter}
use Rattle.std.specs.List.Sorted.{IsStrictlySortedBy, IsSorted, IsSortedByKey, IsStableByKey, ties}
use Rattle.std.specs.Map.{keys_of}
use Rattle.std.specs.Option.{is_some, option_map}
use Rattle.std.proofs.lemmas.List.{length-map, map-append, reverse-append}
use Rattle.std.proofs.lemmas.Map.Lookups.{CmpEqualImpliesEq}
use Rattle.std.proofs.lemmas.Map.Views.{tells_apart}
use Rattle.route_runs.specs.Gathering.{Keeps, Adds}
use Rattle.route_runs.specs.Layers.{last_rows, all_to, handles_of, IsLayered}
use Rattle.route_runs.specs.Message.{IsAllSet}
use Rattle.route_runs.specs.Override.{value_at, or_else}
use Rattle.route_runs.specs.Rows.{set_at, paired, named, rows, IsHandle, IsRun}
use Rattle.route_runs.proofs.Contents.{value-append, value-in_order, rising-in_order, at_mapped}
use Rattle.route_runs.proofs.Merging.{Rising, rising_head, rising_tail, none_below, or_none, less_cases}
use Rattle.route_runs.proofs.OneSet.{strict_dedup}
use Rattle.route_runs.proofs.Overriding.{value-named}
use Rattle.route_runs.proofs.Searching.{itself}

-- ---- lists
map_reverse : {X Y : Type 0} (f : X → Y) (xs : List X) → map f (reverse xs) ≡ reverse (map f xs)
map_reverse f [] = refl
map_reverse f (x ∷ xs) = ap (map f) (reverse-append (x ∷ []) xs) ∙ map-append f (reverse xs) (x ∷ []) ∙ ap (λ l. l ++ f x ∷ []) (map_reverse f xs) ∙ sym (reverse-append (f x ∷ []) (map f xs))

all_append : {X : Type 0} (Q : X → Type 0) (xs ys : List X) → AllByRecursion Q xs → AllByRecursion Q ys → AllByRecursion Q (xs ++ ys)
all_append Q [] ys a b = b
all_append Q (x ∷ xs) ys a b = (a.0, all_append Q xs ys a.1 b)

all_reverse : {X : Type 0} (Q : X → Type 0) (xs : List X) → AllByRecursion Q xs → AllByRecursion Q (reverse xs)
all_reverse Q [] a = tt
all_reverse Q (x ∷ xs) a = subst (AllByRecursion Q) (sym (reverse-append (x ∷ []) xs)) (all_append Q (reverse xs) (x ∷ []) (all_reverse Q xs a.1) (a.0, tt))

all_weaker : {X : Type 0} (Q R : X → Type 0) (xs : List X) → ((x : X) → Q x → R x) → AllByRecursion Q xs → AllByRecursion R xs
all_weaker Q R [] f a = tt
all_weaker Q R (x ∷ xs) f a = (f x a.0, all_weaker Q R xs f a.1)

-- ---- the first row of each key
module _ {K X : Type 0} (cmp : K → K → Ordering) (E : K → K → Bool) (same : (x y : K) → E x y ≡ true → x ≡ y) where
  keys_cases : (b : Bool) (e : K × X) (es fs : List (K × X)) (ks ls : List K) → keys_of es ≡ ks → keys_of fs ≡ ls → keys_of (cond b es (e ∷ fs)) ≡ cond b ks (e.0 ∷ ls)
  keys_cases true e es fs ks ls p q = p
  keys_cases false e es fs ks ls p q = ap (λ l. e.0 ∷ l) q

  keys_from : (e : K × X) (es : List (K × X)) → keys_of (dedup_from (λ p q. E p.0 q.0) e es) ≡ dedup_from E e.0 (keys_of es)
  keys_from e [] = refl
  keys_from e (f ∷ es) = keys_cases (E f.0 e.0) e _ _ _ _ (keys_from e es) (keys_from f es)

  keys_dedup : (es : List (K × X)) → keys_of (dedup (λ p q. E p.0 q.0) es) ≡ dedup E (keys_of es)
  keys_dedup [] = refl
  keys_dedup (e ∷ es) = keys_from e es

  at_twice : (a b : Bool) (x y : X) (o : Option X) → b ≡ a → cond a (Some x) o ≡ cond a (Some x) (cond b (Some y) o)
  at_twice true b x y o e = refl
  at_twice false b x y o e = sym (ap (λ b. cond b (Some y) o) e)

  from_cases : (q : K) (b : Bool) (e f : K × X) (es us vs : List (K × X)) → E f.0 e.0 ≡ b → value_at cmp q us ≡ value_at cmp q (e ∷ es) → value_at cmp q vs ≡ value_at cmp q (f ∷ es)
      → value_at cmp q (cond b us (e ∷ vs)) ≡ value_at cmp q (e ∷ f ∷ es)
  from_cases q true e f es us vs is u v = u ∙ at_twice (is_at (cmp q) e.0) (is_at (cmp q) f.0) e.1 f.1 (value_at cmp q es) (ap (is_at (cmp q)) (same f.0 e.0 is))
  from_cases q false e f es us vs is u v = ap (λ o. cond (is_at (cmp q) e.0) (Some e.1) o) v

  value_from : (q : K) (e : K × X) (es : List (K × X)) → value_at cmp q (dedup_from (λ p q. E p.0 q.0) e es) ≡ value_at cmp q (e ∷ es)
  value_from q e [] = refl
  value_from q e (f ∷ es) = from_cases q (E f.0 e.0) e f es _ _ refl (value_from q e es) (value_from q f es)

  value_dedup : (q : K) (es : List (K × X)) → value_at cmp q (dedup (λ p q. E p.0 q.0) es) ≡ value_at cmp q es
  value_dedup q [] = refl
  value_dedup q (e ∷ es) = value_from q e es

-- ---- rows that are sorted, each key's in the order that they had
module _ {K : Type 0} (cmp : K → K → Ordering) (total : IsTotalOrder cmp) where
  ties_at : (o p : Ordering) → p ≡ ordering_reverse o → (not (is_lt o) && not (is_lt p)) ≡ is_eq o
  ties_at Less p e = refl
  ties_at Equal p e = ap (λ o. not (is_lt o)) e
  ties_at Greater p e = ap (λ o. not (is_lt o)) e

  filter_cases : (q : K) (b : Bool) (e : K × ℕ) (es fs : List (K × ℕ)) → is_at (cmp q) e.0 ≡ b → value_at cmp q es ≡ value_at cmp q fs → value_at cmp q (e ∷ es) ≡ value_at cmp q (cond b (e ∷ fs) fs)
  filter_cases q true e es fs is rest = ap (λ o. cond (is_at (cmp q) e.0) (Some e.1) o) rest
  filter_cases q false e es fs is rest = ap (λ b. cond b (Some e.1) (value_at cmp q es)) is ∙ rest

  value_filter : (q : K) (p : K × ℕ → Bool) (es : List (K × ℕ)) → ((e : K × ℕ) → p e ≡ is_at (cmp q) e.0) → value_at cmp q es ≡ value_at cmp q (filter p es)
  value_filter q p [] agrees = refl
  value_filter q p (e ∷ es) agrees = filter_cases q (p e) e es (filter p es) (sym (agrees e)) (value_filter q p es agrees)

  pub value_stable : (xs ys : List (K × ℕ)) → IsStableByKey (λ (e : K × ℕ). e.0) cmp xs ys → (q : K) → value_at cmp q ys ≡ value_at cmp q xs
  value_stable xs ys s q =
      let lt : K × ℕ → K × ℕ → Bool = λ x y. is_lt (cmp x.0 y.0) in
      let agrees : (e : K × ℕ) → ties lt (q, 0) e ≡ is_at (cmp q) e.0 = λ e. ties_at (cmp q e.0) (cmp e.0 q) (total.antisymm e.0 q) in
      value_filter q (ties lt (q, 0)) ys agrees ∙ ap (value_at cmp q) (s (q, 0)) ∙ sym (value_filter q (ties lt (q, 0)) xs agrees)

  pub sorted_keys : (ys : List (K × ℕ)) → IsSortedByKey (λ (e : K × ℕ). e.0) cmp ys → IsSorted cmp (keys_of ys)
  sorted_keys ys s k d le lt =
      (λ i. is_lt (cmp (at_mapped (λ (e : K × ℕ). e.0) ys (k + 1) (d, 0) i) (at_mapped (λ (e : K × ℕ). e.0) ys k (d, 0) i)))
      ∙ s k (d, 0) le (omega (arith, lt, length-map ys (λ (e : K × ℕ). e.0)))

module _ {K : Type 0} (cmp : K → K → Ordering) (total : IsTotalOrder cmp) (exact : CmpEqualImpliesEq cmp) (E : K → K → Bool) (same : (x y : K) → E x y ≡ true → x ≡ y) (self : (x : K) → E x x ≡ true) (xs ys zs : List (K × ℕ)) (is : zs ≡ dedup (λ p q. E p.0 q.0) ys) where
  pub last_ordered : IsSortedByKey (λ (e : K × ℕ). e.0) cmp ys → IsStrictlySortedBy cmp (keys_of zs)
  last_ordered s = subst (IsStrictlySortedBy cmp) (sym (ap keys_of is ∙ keys_dedup cmp E same ys)) (strict_dedup cmp total exact E same self (keys_of ys) (sorted_keys cmp total ys s))

  pub last_values : IsStableByKey (λ (e : K × ℕ). e.0) cmp xs ys → (q : K) → value_at cmp q zs ≡ value_at cmp q xs
  last_values s q = ap (value_at cmp q) is ∙ value_dedup cmp E same q ys ∙ value_stable cmp total xs ys s q

-- ---- rows that stand in the order of their keys
module _ {K : Type 0} (cmp : K → K → Ordering) (total : IsTotalOrder cmp) (exact : CmpEqualImpliesEq cmp) where
  pub value_reverse : (q : K) (es : List (K × ℕ)) → Rising cmp es → value_at cmp q (reverse es) ≡ value_at cmp q es
  value_reverse q [] s = refl
  value_reverse q (e ∷ es) s =
      ap (value_at cmp q) (reverse-append (e ∷ []) es) ∙ value-append cmp q (reverse es) (e ∷ [])
      ∙ ap (λ o. or_else o (value_at cmp q (e ∷ []))) (value_reverse q es (rising_tail cmp e es s))
      ∙ sym (less_cases (is_at (cmp q) e.0) e.1 (value_at cmp q es) None (λ at. none_below cmp total exact q e.0 es at (rising_head cmp e es s)))
      ∙ ap (cond (is_at (cmp q) e.0) (Some e.1)) (or_none (value_at cmp q es))

-- ---- the changes of one message
module _ {A : Type 0} (P P' : List (List A)) (keeps : Keeps P P') {K : Type 0} where
  pub named_kept : (es : List (K × ℕ)) → AllByRecursion (λ e. IsHandle P e.1) es → map (named P') es ≡ map (named P) es
  named_kept [] a = refl
  named_kept (e ∷ es) a = ap (λ s. (e.0, s) ∷ map (named P') es) (keeps.sets e.1 a.0) ∙ ap (λ l. (e.0, set_at P e.1) ∷ l) (named_kept es a.1)

  all_kept : (es : List (K × ℕ)) → AllByRecursion (λ e. IsHandle P e.1) es → AllByRecursion (λ e. IsHandle P' e.1) es
  all_kept es a = all_weaker (λ e. IsHandle P e.1) (λ e. IsHandle P' e.1) es (λ e h. keeps.handles e.1 h) a

named_keys : {K A : Type 0} (P : List (List A)) (set : Option A) (h : ℕ) (ks : List K) → set_at P h ≡ set → map (named P) (map (λ (k : K). (k, h)) ks) ≡ map (λ (k : K). (k, set)) ks
named_keys P set h [] e = refl
named_keys P set h (k ∷ ks) e = ap (λ s. (k, s) ∷ map (named P) (map (λ k. (k, h)) ks)) e ∙ ap (λ l. (k, set) ∷ l) (named_keys P set h ks e)

all_keys_at : {K A : Type 0} (P : List (List A)) (h : ℕ) (ks : List K) → IsHandle P h → AllByRecursion (λ (e : K × ℕ). IsHandle P e.1) (map (λ (k : K). (k, h)) ks)
all_keys_at P h [] i = tt
all_keys_at P h (k ∷ ks) i = (i, all_keys_at P h ks i)

module _ {K A : Type 0} (P P' : List (List A)) (set : Option A) (h : ℕ) (adds : Adds P P' set h) (es new : List (K × ℕ)) (ks : List K) (is : new ≡ es ++ map (λ (k : K). (k, h)) ks) (a : AllByRecursion (λ (e : K × ℕ). IsHandle P e.1) es) where
  pub listed_handles : AllByRecursion (λ (e : K × ℕ). IsHandle P' e.1) new
  listed_handles = subst (AllByRecursion (λ (e : K × ℕ). IsHandle P' e.1)) (sym is) (all_append (λ (e : K × ℕ). IsHandle P' e.1) es (map (λ (k : K). (k, h)) ks) (all_kept P P' adds.keeps es a) (all_keys_at P' h ks adds.handle))

  both_named : map (named P') new ≡ map (named P) es ++ map (λ (k : K). (k, set)) ks
  both_named = ap (map (named P')) is ∙ map-append (named P') es (map (λ (k : K). (k, h)) ks)
      ∙ ap (λ l. l ++ map (named P') (map (λ (k : K). (k, h)) ks)) (named_kept P P' adds.keeps es a) ∙ ap (λ l. map (named P) es ++ l) (named_keys P' set h ks adds.names)

  pub listed_more : (cmp : K → K → Ordering) → IsTotalOrder cmp → IsLayered cmp (last_rows cmp P es) (all_to ks set) (last_rows cmp P' new)
  listed_more cmp total = record {
    ordered = rising-in_order cmp total (reverse (map (named P') new));
    values = λ q. value-in_order cmp total q (reverse (map (named P') new))
        ∙ ap (λ l. value_at cmp q (reverse l)) both_named
        ∙ ap (value_at cmp q) (reverse-append (map (named P) es) (map (λ (k : K). (k, set)) ks))
        ∙ value-append cmp q (all_to ks set) (reverse (map (named P) es))
        ∙ ap (or_else (value_at cmp q (all_to ks set))) (sym (value-in_order cmp total q (reverse (map (named P) es))));
  }

-- all keys of a message, each with the one set
module _ {K A : Type 0} (cmp : K → K → Ordering) (total : IsTotalOrder cmp) (exact : CmpEqualImpliesEq cmp) (set : Option A) (q : K) where
  has : List K → Bool
  has [] = false
  has (k ∷ ks) = cond (has ks) true (is_at (cmp q) k)

  either_set : (a b : Bool) → or_else (cond a (Some set) None) (cond b (Some set) None) ≡ cond (cond a true b) (Some set) None
  either_set true b = refl
  either_set false b = refl

  value_has : (ks : List K) → value_at cmp q (all_to ks set) ≡ cond (has ks) (Some set) None
  unfolding has
  value_has [] = refl
  value_has (k ∷ ks) = ap (value_at cmp q) (reverse-append ((k, set) ∷ []) (map (λ (k : K). (k, set)) ks)) ∙ value-append cmp q (all_to ks set) ((k, set) ∷ [])
      ∙ ap (λ o. or_else o (cond (is_at (cmp q) k) (Some set) None)) (value_has ks) ∙ either_set (has ks) (is_at (cmp q) k)

  or_left : (a b : Bool) → a ≡ true → cond a true b ≡ true
  or_left true b e = refl
  or_left false b e = absurd cc

  or_right : (a b : Bool) → b ≡ true → cond a true b ≡ true
  or_right true b e = refl
  or_right false b e = e

  or_either : (a b : Bool) → cond a true b ≡ true → (a ≡ true) ⊎ (b ≡ true)
  or_either true b e = inl refl
  or_either false b e = inr e

  has_there : (ks : List K) (k : ℕ) → k < length ks → get_or ks k q ≡ q → has ks ≡ true
  unfolding has
  has_there [] k lt is = absurd (omega (arith, lt))
  has_there (x ∷ ks) zero lt is = or_right (has ks) (is_at (cmp q) x) (ap (λ y. is_at (cmp q) y) is ∙ ap is_eq (itself cmp total exact q))
  has_there (x ∷ ks) (suc k) lt is = or_left (has ks) (is_at (cmp q) x) (has_there ks k (omega (arith, lt)) is)

  has_listed : (ks : List K) → has ks ≡ true → Contains ks q
  unfolding has
  has_listed [] e = absurd cc
  has_listed (x ∷ ks) e = elim (or_either (has ks) (is_at (cmp q) x) e) [
    | inl more ↦ let c = has_listed ks more in (suc c.0, omega (arith, c.1), c.2)
    | inr at ↦ (0, omega arith, sym (tells_apart exact q x at))
  ]

  some_has : (b : Bool) → is_some (cond b (Some set) None) ≡ true → b ≡ true
  some_has true e = refl
  some_has false e = absurd cc

  none_has : (b : Bool) → (b ≡ true → ⊥) → cond b (Some set) None ≡ None
  none_has true f = absurd (f refl)
  none_has false f = refl

module _ {K A : Type 0} (cmp : K → K → Ordering) (total : IsTotalOrder cmp) (exact : CmpEqualImpliesEq cmp) (set : Option A) (ks : List K) where
  pub all_to_set : IsAllSet cmp ks set (all_to ks set)
  all_to_set = record {
    set_there = λ q c. value_has cmp total exact set q ks ∙ ap (λ b. cond b (Some set) None) (has_there cmp total exact set q ks c.0 c.1 c.2);
    listed = λ q e. has_listed cmp total exact set q ks (some_has cmp total exact set q (has cmp total exact set q ks) (sym (ap is_some (value_has cmp total exact set q ks)) ∙ e));
    no_other = λ q lacks. value_has cmp total exact set q ks ∙ none_has cmp total exact set q (has cmp total exact set q ks) (λ t. lacks (has_listed cmp total exact set q ks t));
  }

-- ---- one run
paired_parts : {K : Type 0} (es : List (K × ℕ)) → paired (keys_of es) (handles_of es) ≡ es
paired_parts [] = refl
paired_parts (e ∷ es) = ap (λ l. e ∷ l) (paired_parts es)

all_handles : {K : Type 0} (Q : ℕ → Type 0) (es : List (K × ℕ)) → AllByRecursion (λ (e : K × ℕ). Q e.1) es → AllByRecursion Q (handles_of es)
all_handles Q [] a = tt
all_handles Q (e ∷ es) a = (a.0, all_handles Q es a.1)

some_same : {X : Type 0} (x y : X) → Some x ≡ Some y → x ≡ y
some_same x y e = ap (λ o. unwrap x o) e
  where
    unwrap : {X : Type 0} → X → Option X → X
    unwrap d None = d
    unwrap d (Some x) = x

module _ {K : Type 0} (cmp : K → K → Ordering) (total : IsTotalOrder cmp) (exact : CmpEqualImpliesEq cmp) (Q : ℕ → Type 0) where
  value_cases : (b : Bool) (x v : ℕ) (o : Option ℕ) → Q x → (o ≡ Some v → Q v) → cond b (Some x) o ≡ Some v → Q v
  value_cases true x v o here rest e = subst Q (some_same x v e) here
  value_cases false x v o here rest e = rest e

  value_all : (q : K) (es : List (K × ℕ)) (v : ℕ) → AllByRecursion (λ (e : K × ℕ). Q e.1) es → value_at cmp q es ≡ Some v → Q v
  value_all q [] v a e = absurd cc
  value_all q (f ∷ es) v a e = value_cases (is_at (cmp q) f.0) f.1 v (value_at cmp q es) a.0 (value_all q es v a.1) e

  next_value : (q : K) (b : Bool) (x v : ℕ) (o : Option ℕ) → (b ≡ true → o ≡ None) → o ≡ Some v → cond b (Some x) o ≡ Some v
  next_value q true x v o none e = let clash : None ≡ Some v = sym (none refl) ∙ e in absurd cc
  next_value q false x v o none e = e

  all_values : (es : List (K × ℕ)) → Rising cmp es → ((q : K) (v : ℕ) → value_at cmp q es ≡ Some v → Q v) → AllByRecursion (λ (e : K × ℕ). Q e.1) es
  all_values [] s f = tt
  all_values (e ∷ es) s f = (
    f e.0 e.1 (ap (λ o. cond (is_eq o) (Some e.1) (value_at cmp e.0 es)) (itself cmp total exact e.0)),
    all_values es (rising_tail cmp e es s) (λ q v is. f q v (next_value q (is_at (cmp q) e.0) e.1 v (value_at cmp q es) (λ at. none_below cmp total exact q e.0 es at (rising_head cmp e es s)) is)),
  )

module _ {K A : Type 0} (cmp : K → K → Ordering) (total : IsTotalOrder cmp) (exact : CmpEqualImpliesEq cmp) (P : List (List A)) (es zs : List (K × ℕ)) (a : AllByRecursion (λ (e : K × ℕ). IsHandle P e.1) es)
    (ordered : IsStrictlySortedBy cmp (keys_of zs)) (values : (q : K) → value_at cmp q zs ≡ value_at cmp q (reverse es)) where
  pub run_of_list : length P < 1048576 → IsRun cmp P (keys_of zs) (handles_of zs)
  run_of_list few = record {
    even = length-map zs (λ (e : K × ℕ). e.1) ∙ sym (length-map zs (λ (e : K × ℕ). e.0));
    ordered = ordered;
    handles = all_handles (IsHandle P) zs (all_values cmp total exact (IsHandle P) zs ordered (λ q v is. value_all cmp total exact (IsHandle P) q (reverse es) v (all_reverse (λ (e : K × ℕ). IsHandle P e.1) es a) (sym (values q) ∙ is)));
    few = few;
  }

  pub run_says : (q : K) → value_at cmp q (rows P (keys_of zs) (handles_of zs)) ≡ value_at cmp q (last_rows cmp P es)
  run_says q = ap (λ l. value_at cmp q (map (named P) l)) (paired_parts zs) ∙ value-named cmp q P zs ∙ ap (option_map (set_at P)) (values q)
      ∙ sym (value-named cmp q P (reverse es)) ∙ ap (value_at cmp q) (map_reverse (named P) es) ∙ sym (value-in_order cmp total q (reverse (map (named P) es)))
