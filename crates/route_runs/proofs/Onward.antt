-- The first row after a place, in one run and over runs.
use Rattle.std.proofs.Common.{◌≡◌, ℕ, ◌<◌, ◌≤◌, inl, inr, true, false, List, length, get_or, Option, None, Some, refl, ap, sym, ◌∙◌, subst}
use Rattle.std.specs.declared.cmp.Ordering.{Ordering}
use Rattle.std.specs.Cmp.{IsTotalOrder}
use Rattle.std.specs.Option.{is_some}
use Rattle.std.proofs.lemmas.List.{get_or_default}
use Rattle.std.proofs.lemmas.Map.Lookups.{CmpEqualImpliesEq}
use Rattle.route_runs.specs.Override.{value_at}
use Rattle.route_runs.specs.Rows.{set_at, rows, IsRun}
use Rattle.route_runs.specs.Places.{is_after, IsAfterPoint, IsFirst, IsFirstPair, IsNext, IsNextKey}
use Rattle.route_runs.proofs.Searching.{bools, found_row, itself, next_at, next_none, not_both}

none_of : {X : Type 0} (o : Option X) → (is_some o ≡ true → ⊥) → o ≡ None
none_of None h = refl
none_of (Some x) h = absurd (h refl)

-- ---- in one run
module _ {K A : Type 0} (cmp : K → K → Ordering) (total : IsTotalOrder cmp) (exact : CmpEqualImpliesEq cmp) (packs : List (List A)) (ks : List K) (vs : List ℕ) (run : IsRun cmp packs ks vs) (place : Option K) (n : ℕ) (p : IsAfterPoint cmp place ks n)
    (es : List (K × Option A)) (same : rows packs ks vs ≡ es) where
  pub onward_none : length ks ≤ n → (q : K) → is_after cmp place q ≡ true → value_at cmp q es ≡ None
  onward_none past q after =
      subst (λ l. value_at cmp q l ≡ None) same
      (none_of (value_at cmp q (rows packs ks vs)) (λ has. not_both (is_after cmp place q) after (next_none cmp total exact packs ks vs run place n p past q has)))

  pub onward_some : (k : K) (v : ℕ) → n < length ks → k ≡ get_or ks n k → v ≡ get_or vs n v → IsFirstPair cmp (is_after cmp place) (λ q. value_at cmp q es) (k, set_at packs v)
  onward_some k v lt is says =
      let next : IsNextKey cmp place (λ q. is_some (value_at cmp q (rows packs ks vs))) k = next_at cmp total exact packs ks vs run place n k p lt is in
      subst (λ l. IsFirstPair cmp (is_after cmp place) (λ q. value_at cmp q l) (k, set_at packs v)) same
      (record {
        there = found_row cmp total exact packs ks vs run n k v lt (λ d. ap (λ y. cmp y k) (get_or_default ks n d k lt ∙ sym is) ∙ itself cmp total exact k) says;
        beyond = next.beyond;
        first = λ q test has. next.least q has test;
      })

-- ---- over runs
module _ {K X : Type 0} (cmp : K → K → Ordering) (value : K → Option X) (place : Option K) where
  -- the first row, as the next key
  pub next_of : (e : K × X) → IsFirstPair cmp (is_after cmp place) value e → IsNextKey cmp place (λ q. is_some (value q)) e.0
  next_of e f = record { listed = ap is_some f.there; beyond = f.beyond; least = λ q has after. f.first q after has }

  pub none_next : IsFirst cmp (is_after cmp place) value None → IsNext cmp place (λ q. is_some (value q)) None
  none_next none q has = elim (bools (is_after cmp place q)) [
    | inr before ↦ before
    | inl after ↦ absurd (not_both (is_some (value q)) has (ap is_some (none q after)))
  ]
