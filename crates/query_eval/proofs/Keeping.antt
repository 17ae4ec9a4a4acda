-- What a test keeps of a list and what a list is mapped to: the members, and their order.
use Rattle.std.proofs.Common.{◌≡◌, inl, inr, ℕ, Bool, true, List, [], ◌∷◌, ◌++◌, map, arith, Option, None, Some, refl, sym, ap, ◌∙◌, subst, Decides}
use Rattle.std.specs.Prelude.{flat_map}
use Rattle.std.specs.declared.cmp.Ordering.{Ordering}
use Rattle.std.specs.declared.cmp.Ordering.TheVariants.{Less, Equal}
use Rattle.std.specs.Ordering.{is_eq, nat_cmp}
use Rattle.std.specs.Cmp.{IsTotalOrder, Equal-is}
use Rattle.std.specs.List.{AllByRecursion, Contains, filter}
use Rattle.std.specs.List.Sorted.{IsStrictlySortedBy}
use Rattle.std.proofs.lemmas.Bool.{false≢true, cond_both}
use Rattle.std.proofs.lemmas.Bool.Decides.{Decides-like, Decides-and}
use Rattle.std.proofs.lemmas.Cmp.{tied_itself, nat_cmp_total}
use Rattle.std.proofs.lemmas.List.Elements.{Contains-append_cases, Contains-append_left, Contains-append_right}
use Rattle.std.proofs.lemmas.Map.Lookups.{CmpEqualImpliesEq, exact_unsigned}
use Rattle.bmp_specs.specs.declared.peers.View.{View}
use Rattle.bmp_specs.specs.declared.wire.Family.{Family}
use Rattle.bmp_specs.specs.Orders.{family_cmp, key_cmp, view_cmp}
use Rattle.bmp_specs.specs.Selection.{SelectValue, IsAskedFor, IsPeerSelected, IsSelected}
use Rattle.bmp_specs.specs.Values.{KeyValue}
use Rattle.bmp_specs.proofs.OrderLaws.{family_total, family_exact, view_total, view_exact, key_total, key_exact}
use Rattle.bmp_specs.proofs.ListedOne.{contains_cases, contains_first, contains_later}
use Rattle.query_eval.specs.Selecting.{is_named, keeps_peer, keeps}

-- a test by an order says whether the value is the one that is named
module _ {A : Type 0} (cmp : A → A → Ordering) (total : IsTotalOrder cmp) (exact : CmpEqualImpliesEq cmp) where
  pub named_decides : (named : Option A) (value : A) → Decides (is_named cmp named value) (IsAskedFor named value)
  named_decides None value = (λ _. tt, λ _. refl)
  named_decides (Some named) value = Decides-like (is_eq (cmp named value)) (exact named value) (λ same. subst (λ (v : A). cmp named v ≡ Equal) same (tied_itself total named)) (Equal-is (cmp named value))

pub peer_decides : (router : Option ℕ) (peer : Option KeyValue) (lane : ℕ) (key : KeyValue) → Decides (keeps_peer router peer lane key) (IsPeerSelected router peer lane key)
peer_decides router peer lane key =
    Decides-like (keeps_peer router peer lane key) (λ h. record { router_is = h.0; peer_is = h.1 }) (λ s. (s.router_is, s.peer_is))
    (Decides-and _ _ (named_decides nat_cmp nat_cmp_total exact_unsigned router lane) (named_decides key_cmp key_total key_exact peer key))

pub keeps_decides : (select : SelectValue) (lane : ℕ) (key : KeyValue) (view : View) (family : Family) → Decides (keeps select lane key view family) (IsSelected select lane key view family)
keeps_decides select lane key view family =
    let within = Decides-and _ _ (named_decides view_cmp view_total view_exact select.view view) (named_decides family_cmp family_total family_exact select.family family) in
    Decides-like (keeps select lane key view family) (λ h. record { of_peer = h.0; view_is = h.1.0; family_is = h.1.1 }) (λ s. (s.of_peer, (s.view_is, s.family_is))) (Decides-and _ _ (peer_decides select.router select.peer lane key) within)

-- what a filter keeps, and in which order
module _ {X : Type 0} (test : X → Bool) where
  pub from_filter : (xs : List X) (x : X) → Contains (filter test xs) x → Contains xs x × (test x ≡ true)
  from_filter [] x c = absurd (omega (arith, c.1))
  from_filter (y ∷ ys) x c = cond_both (test y) (y ∷ filter test ys) (filter test ys) (λ (l : List X). Contains l x → Contains (y ∷ ys) x × (test x ≡ true))
      (λ kept d. elim (contains_cases y (filter test ys) x d) [
        | inl is ↦ (subst (Contains (y ∷ ys)) is (contains_first y ys), subst (λ (z : X). test z ≡ true) is kept)
        | inr e ↦ let h = from_filter ys x e in (contains_later y ys x h.0, h.1)
      ])
      (λ passed d. let h = from_filter ys x d in (contains_later y ys x h.0, h.1))
      c

  pub to_filter : (xs : List X) (x : X) → Contains xs x → test x ≡ true → Contains (filter test xs) x
  to_filter [] x c t = absurd (omega (arith, c.1))
  to_filter (y ∷ ys) x c t = cond_both (test y) (y ∷ filter test ys) (filter test ys) (λ (l : List X). Contains l x)
      (λ kept. elim (contains_cases y ys x c) [
        | inl is ↦ subst (Contains (y ∷ filter test ys)) is (contains_first y (filter test ys))
        | inr d ↦ contains_later y (filter test ys) x (to_filter ys x d t)
      ])
      (λ passed. elim (contains_cases y ys x c) [
        | inl is ↦ absurd (false≢true (sym passed ∙ ap test is ∙ t))
        | inr d ↦ to_filter ys x d t
      ])

  pub all_kept : {K : Type 0} (key : X → K) (P : K → Type 0) (xs : List X) → AllByRecursion P (map key xs) → AllByRecursion P (map key (filter test xs))
  all_kept key P [] a = tt
  all_kept key P (x ∷ xs) a = cond_both (test x) (x ∷ filter test xs) (filter test xs) (λ (l : List X). AllByRecursion P (map key l)) (λ kept. (a.0, all_kept key P xs a.1)) (λ passed. all_kept key P xs a.1)

  pub sorted_kept : {K : Type 0} (key : X → K) (cmp : K → K → Ordering) (xs : List X) → IsStrictlySortedBy cmp (map key xs) → IsStrictlySortedBy cmp (map key (filter test xs))
  unfolding IsStrictlySortedBy
  sorted_kept key cmp [] s = tt
  sorted_kept key cmp (x ∷ xs) s = cond_both (test x) (x ∷ filter test xs) (filter test xs) (λ (l : List X). IsStrictlySortedBy cmp (map key l))
      (λ kept. (all_kept key (λ k. cmp (key x) k ≡ Less) xs s.0, sorted_kept key cmp xs s.1))
      (λ passed. sorted_kept key cmp xs s.1)

-- members of what a list is mapped to
module _ {X Y : Type 0} where
  pub from_map : (f : X → Y) (xs : List X) (y : Y) → Contains (map f xs) y → (x : X) × Contains xs x × (f x ≡ y)
  from_map f [] y c = absurd (omega (arith, c.1))
  from_map f (x ∷ xs) y c = elim (contains_cases (f x) (map f xs) y c) [
    | inl is ↦ (x, contains_first x xs, is)
    | inr d ↦ let h = from_map f xs y d in (h.0, contains_later x xs h.0 h.1, h.2)
  ]

  pub to_map : (f : X → Y) (xs : List X) (x : X) → Contains xs x → Contains (map f xs) (f x)
  to_map f [] x c = absurd (omega (arith, c.1))
  to_map f (z ∷ xs) x c = elim (contains_cases z xs x c) [
    | inl is ↦ subst (λ (w : X). Contains (map f (z ∷ xs)) (f w)) is (contains_first (f z) (map f xs))
    | inr d ↦ contains_later (f z) (map f xs) (f x) (to_map f xs x d)
  ]

  pub from_flat : (f : X → List Y) (xs : List X) (y : Y) → Contains (flat_map f xs) y → (x : X) × Contains xs x × Contains (f x) y
  from_flat f [] y c = absurd (omega (arith, c.1))
  from_flat f (x ∷ xs) y c = elim (Contains-append_cases (f x) (flat_map f xs) y c) [
    | inl here ↦ (x, contains_first x xs, here)
    | inr d ↦ let h = from_flat f xs y d in (h.0, contains_later x xs h.0 h.1, h.2)
  ]

  pub to_flat : (f : X → List Y) (xs : List X) (x : X) (y : Y) → Contains xs x → Contains (f x) y → Contains (flat_map f xs) y
  to_flat f [] x y c d = absurd (omega (arith, c.1))
  to_flat f (z ∷ xs) x y c d = elim (contains_cases z xs x c) [
    | inl is ↦ Contains-append_left (f z) (flat_map f xs) y (subst (λ (w : X). Contains (f w) y) (sym is) d)
    | inr e ↦ Contains-append_right (f z) (flat_map f xs) y (to_flat f xs x y e d)
  ]

-- lists in order, one after the other
pub all_join : {X : Type 0} (P : X → Type 0) (xs ys : List X) → AllByRecursion P xs → AllByRecursion P ys → AllByRecursion P (xs ++ ys)
all_join P [] ys a b = b
all_join P (x ∷ xs) ys a b = (a.0, all_join P xs ys a.1 b)

pub sorted_join : {K : Type 0} (cmp : K → K → Ordering) (xs ys : List K) → IsStrictlySortedBy cmp xs → IsStrictlySortedBy cmp ys → AllByRecursion (λ x. AllByRecursion (λ y. cmp x y ≡ Less) ys) xs → IsStrictlySortedBy cmp (xs ++ ys)
unfolding IsStrictlySortedBy
sorted_join cmp [] ys s t a = t
sorted_join cmp (x ∷ xs) ys s t a = (all_join (λ y. cmp x y ≡ Less) xs ys s.0 a.0, sorted_join cmp xs ys s.1 t a.1)
