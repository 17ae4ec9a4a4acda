-- Places that are kept as hints.
use Rattle.std.proofs.Common.{◌≡◌, ℕ, ◌-◌, ◌<◌, ◌≤◌, inl, inr, Bool, true, false, not, List, length, get_or, Option, None, Some, refl, ap, sym, ◌∙◌, subst, arith}
use Rattle.std.specs.declared.cmp.Ordering.{Ordering}
use Rattle.std.specs.declared.cmp.Ordering.TheVariants.{Less, Equal, Greater}
use Rattle.std.specs.Ordering.{is_lt, is_eq}
use Rattle.std.specs.Cmp.{IsTotalOrder}
use Rattle.std.specs.List.{HoldsAt}
use Rattle.std.specs.List.Sorted.{IsStrictlySortedBy}
use Rattle.std.specs.Option.{is_some}
use Rattle.std.proofs.lemmas.Bool.{cases_lt, cases_eq}
use Rattle.std.proofs.lemmas.List.{get_or_default}
use Rattle.std.proofs.lemmas.Map.Lookups.{CmpEqualImpliesEq}
use Rattle.route_runs.specs.Override.{value_at}
use Rattle.route_runs.specs.Rows.{rows, IsRun}
use Rattle.route_runs.specs.Places.{is_after, IsAfterPoint, IsFirst}
use Rattle.route_runs.specs.Runs.{contents, latest, seen}
use Rattle.route_runs.specs.Cursor.{Walking, AreBefore, AreBehind}
use Rattle.route_runs.proofs.Contents.{value-contents}
use Rattle.route_runs.proofs.Searching.{pair_less, less_is, bools, not_both, itself, has_row, has_rows, first_ext}

pub equal_is : (o : Ordering) → is_eq o ≡ true → o ≡ Equal
equal_is Less e = absurd cc
equal_is Equal e = refl
equal_is Greater e = absurd cc

pub not_true : (b : Bool) → not b ≡ true → b ≡ false
not_true true e = absurd cc
not_true false e = refl

none_of : {X : Type 0} (o : Option X) → (is_some o ≡ true → ⊥) → o ≡ None
none_of None h = refl
none_of (Some x) h = absurd (h refl)

module _ {K : Type 0} (cmp : K → K → Ordering) (total : IsTotalOrder cmp) (ks : List K) (s : IsStrictlySortedBy cmp ks) (place : K) where
  pub before_here : (n : ℕ) (x : K) → 0 < n → n ≤ length ks → x ≡ get_or ks (n - 1) x → is_lt (cmp place x) ≡ false → AreBefore cmp place ks n
  before_here n x some le is h k d less =
      let lt : n - 1 < length ks = omega (arith, some, le) in
      let last : get_or ks (n - 1) d ≡ x = get_or_default ks (n - 1) d x lt ∙ sym is in
      elim (cases_eq k (n - 1)) [
        | inl same ↦ ap (λ i. is_lt (cmp place (get_or ks i d))) same ∙ ap (λ y. is_lt (cmp place y)) last ∙ h
        | inr other ↦
            let m : cmp (get_or ks k d) x ≡ Less = subst (λ y. cmp (get_or ks k d) y ≡ Less) last (pair_less cmp ks s k (n - 1) d (omega (arith, less, other)) lt) in
            elim (bools (is_lt (cmp place (get_or ks k d)))) [
              | inl l ↦ absurd (not_both (is_lt (cmp place x)) (ap is_lt (total.trans place (get_or ks k d) x (less_is _ l) m)) h)
              | inr more ↦ more
            ]
      ]

  pub behind_here : (n : ℕ) (x : K) → n < length ks → x ≡ get_or ks n x → is_lt (cmp place x) ≡ true → AreBehind cmp place ks n
  behind_here n x lt is h k d le within =
      let first : get_or ks n d ≡ x = get_or_default ks n d x lt ∙ sym is in
      elim (cases_eq k n) [
        | inl same ↦ ap (λ i. is_lt (cmp place (get_or ks i d))) same ∙ ap (λ y. is_lt (cmp place y)) first ∙ h
        | inr other ↦
            let m : cmp x (get_or ks k d) ≡ Less = subst (λ y. cmp y (get_or ks k d) ≡ Less) first (pair_less cmp ks s n k d (omega (arith, le, other)) within) in
            ap is_lt (total.trans place x (get_or ks k d) (less_is _ h) m)
      ]

pub holds_here : {K : Type 0} (cmp : K → K → Ordering) (ks : List K) (q : K) (n : ℕ) (x : K) → n < length ks → x ≡ get_or ks n x → is_eq (cmp x q) ≡ true → HoldsAt (λ y. cmp y q ≡ Equal) ks n
holds_here cmp ks q n x lt is e d = ap (λ y. cmp y q) (get_or_default ks n d x lt ∙ sym is) ∙ equal_is (cmp x q) e

module _ {K A : Type 0} (cmp : K → K → Ordering) (total : IsTotalOrder cmp) (exact : CmpEqualImpliesEq cmp) (packs : List (List A)) (ks : List K) (vs : List ℕ) (run : IsRun cmp packs ks vs) where
  not_here : (q : K) (n : ℕ) → IsAfterPoint cmp (Some q) ks n → ((d : K) → 0 < n → is_eq (cmp (get_or ks (n - 1) d) q) ≡ false) → is_some (value_at cmp q (rows packs ks vs)) ≡ true → ⊥
  not_here q n p other has =
      let r = has_row cmp total exact ks vs q (sym (has_rows cmp total exact packs ks vs run q) ∙ has) in
      elim (cases_lt r.0 n) [
        | inr more ↦ not_both (is_lt (cmp q q)) (ap (λ y. is_lt (cmp q y)) (sym r.2) ∙ p.behind r.0 q more r.1) (ap is_lt (itself cmp total exact q))
        | inl before ↦ elim (cases_eq r.0 (n - 1)) [
          | inl same ↦ not_both (is_eq (cmp q q)) (ap is_eq (itself cmp total exact q)) (ap (λ y. is_eq (cmp y q)) (sym r.2 ∙ ap (λ i. get_or ks i q) same) ∙ other q (omega (arith, before)))
          | inr apart ↦
              let lt : n - 1 < length ks = (let w = p.within in omega (arith, w, before)) in
              let l : cmp q (get_or ks (n - 1) q) ≡ Less = subst (λ y. cmp y (get_or ks (n - 1) q) ≡ Less) r.2 (pair_less cmp ks run.ordered r.0 (n - 1) q (omega (arith, before, apart)) lt) in
              not_both (is_lt (cmp q (get_or ks (n - 1) q))) (ap is_lt l) (p.before (n - 1) q (omega (arith, before)))
        ]
      ]

  pub none_here : (q : K) (n : ℕ) → IsAfterPoint cmp (Some q) ks n → ((d : K) → 0 < n → is_eq (cmp (get_or ks (n - 1) d) q) ≡ false) → value_at cmp q (rows packs ks vs) ≡ None
  none_here q n p other = none_of (value_at cmp q (rows packs ks vs)) (not_here q n p other)

-- what is first in the runs is first in the walk
pub walk_first : {K A : Type 0} (cmp : K → K → Ordering) (total : IsTotalOrder cmp) (exact : CmpEqualImpliesEq cmp) (runs : List (List (K × Option A))) (w : Walking K A) (place : Option K) (pairs : List (K × A))
    → place ≡ w.place → pairs ≡ w.pairs → contents cmp runs ≡ pairs → (r : Option (K × A)) → IsFirst cmp (is_after cmp place) (λ q. seen (latest cmp q runs)) r → IsFirst cmp (is_after cmp w.place) (λ q. value_at cmp q w.pairs) r
walk_first {K} {A} cmp total exact runs w place pairs at same is r f =
    first_ext cmp (is_after cmp w.place) (λ q. seen (latest cmp q runs)) (λ q. value_at cmp q w.pairs) r
    (λ q. ap (value_at cmp q) (sym same ∙ sym is) ∙ value-contents cmp total exact q runs)
    (subst (λ p. IsFirst cmp (is_after cmp p) (λ q. seen (latest cmp q runs)) r) at f)
