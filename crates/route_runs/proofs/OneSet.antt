-- Keys of one message: in order, each once, with one handle.
use Rattle.std.proofs.Common.{◌≡◌, ℕ, zero, suc, ◌+◌, ◌<◌, inl, inr, Bool, true, false, cond, List, [], ◌∷◌, length, get_or, replicate, Option, Some, refl, ap, sym, ◌∙◌, subst, arith}
use Rattle.std.specs.declared.cmp.Ordering.{Ordering}
use Rattle.std.specs.declared.cmp.Ordering.TheVariants.{Less}
use Rattle.std.specs.Ordering.{is_lt, is_eq}
use Rattle.std.specs.Cmp.{IsTotalOrder}
use Rattle.std.specs.BTreeMap.{is_at}
use Rattle.std.specs.List.{AllByRecursion, dedup, dedup_from}
use Rattle.std.specs.List.Sorted.{IsStrictlySortedBy, IsSorted}
use Rattle.std.specs.Option.{option_map}
use Rattle.std.proofs.lemmas.List.{get_or-replicate, get_or_default, length-replicate}
use Rattle.std.proofs.lemmas.Map.Lookups.{CmpEqualImpliesEq}
use Rattle.std.proofs.lemmas.Map.Views.{tells_apart}
use Rattle.route_runs.specs.Rows.{set_at, paired, rows, IsHandle, IsRun}
use Rattle.route_runs.specs.Message.{IsAllSet, HasSame}
use Rattle.route_runs.proofs.Overriding.{value-named}
use Rattle.route_runs.proofs.Searching.{value_found, value_missing, has_row, has_rows, tie, less_is, bools}

-- no element is less than the one before it, from k on
abbrev Chain : {K : Type 0} → (K → K → Ordering) → K → List K → Type 0
Chain cmp k [] = Unit {0}
Chain cmp k (x ∷ xs) = (is_lt (cmp x k) ≡ false) × Chain cmp x xs

chain : {K : Type 0} (cmp : K → K → Ordering) (k : K) (xs : List K) → IsSorted cmp (k ∷ xs) → Chain cmp k xs
chain cmp k [] s = tt
chain cmp k (x ∷ xs) s = (s 0 k (omega arith) (omega arith), chain cmp x xs (λ i d le lt. subst (λ n. is_lt (cmp (get_or (k ∷ x ∷ xs) n d) (get_or (x ∷ xs) i d)) ≡ false) {x = suc i + 1} {y = suc (i + 1)} (omega arith) (s (suc i) d (omega arith) (omega (arith, lt)))))

module _ {K : Type 0} (cmp : K → K → Ordering) (total : IsTotalOrder cmp) (exact : CmpEqualImpliesEq cmp) (E : K → K → Bool) (same : (x y : K) → E x y ≡ true → x ≡ y) (self : (x : K) → E x x ≡ true) where
  above_now : (k x : K) → is_lt (cmp x k) ≡ false → E x k ≡ false → cmp k x ≡ Less
  above_now k x more apart = elim (bools (is_lt (cmp k x))) [
    | inl less ↦ less_is (cmp k x) less
    | inr even ↦ let e : x ≡ k = tie cmp total exact x k more even in let clash : true ≡ false = sym (self k) ∙ ap (λ y. E y k) (sym e) ∙ apart in absurd cc
  ]

  above : (j k : K) (xs : List K) → cmp j k ≡ Less → Chain cmp k xs → AllByRecursion (λ y. cmp j y ≡ Less) (dedup_from E k xs)
  above j k [] less c = (less, tt)
  above j k (x ∷ xs) less c = above_cases j k x xs less c (E x k) refl (above j k xs less) (λ l. above j x xs l c.1)
    where
      above_cases : (j k x : K) (xs : List K) → cmp j k ≡ Less → Chain cmp k (x ∷ xs) → (b : Bool) → E x k ≡ b → (Chain cmp k xs → AllByRecursion (λ y. cmp j y ≡ Less) (dedup_from E k xs))
          → (cmp j x ≡ Less → AllByRecursion (λ y. cmp j y ≡ Less) (dedup_from E x xs)) → AllByRecursion (λ y. cmp j y ≡ Less) (cond b (dedup_from E k xs) (k ∷ dedup_from E x xs))
      above_cases j k x xs less c true is more next = more (subst (λ y. Chain cmp y xs) (same x k is) c.1)
      above_cases j k x xs less c false is more next = (less, next (total.trans j k x less (above_now k x c.0 is)))

  strict_from : (k : K) (xs : List K) → Chain cmp k xs → IsStrictlySortedBy cmp (dedup_from E k xs)
  unfolding IsStrictlySortedBy
  strict_from k [] c = (tt, tt)
  strict_from k (x ∷ xs) c = strict_cases (E x k) refl (strict_from k xs) (strict_from x xs c.1)
    where
      strict_cases : (b : Bool) → E x k ≡ b → (Chain cmp k xs → IsStrictlySortedBy cmp (dedup_from E k xs)) → IsStrictlySortedBy cmp (dedup_from E x xs) → IsStrictlySortedBy cmp (cond b (dedup_from E k xs) (k ∷ dedup_from E x xs))
      strict_cases true is more next = more (subst (λ y. Chain cmp y xs) (same x k is) c.1)
      strict_cases false is more next = (above k x xs (above_now k x c.0 is) c.1, next)

  pub strict_dedup : (xs : List K) → IsSorted cmp xs → IsStrictlySortedBy cmp (dedup E xs)
  unfolding IsStrictlySortedBy
  strict_dedup [] s = tt
  strict_dedup (x ∷ xs) s = strict_from x xs (chain cmp x xs s)

all_replicate : (P : ℕ → Type 0) (n v : ℕ) → P v → AllByRecursion P (replicate n v)
all_replicate P zero v p = tt
all_replicate P (suc n) v p = (p, all_replicate P n v p)

module _ {K A : Type 0} (cmp : K → K → Ordering) (total : IsTotalOrder cmp) (exact : CmpEqualImpliesEq cmp) (packs : List (List A)) (given ks : List K) (v : ℕ) (set : Option A)
    (ordered : IsStrictlySortedBy cmp ks) (members : HasSame given ks) (h : IsHandle packs v) (names : set_at packs v ≡ set) (few : length packs < 1048576) where
  pub run_of_many : IsRun cmp packs ks (replicate (length ks) v)
  run_of_many = record { even = length-replicate (length ks) v; ordered = ordered; handles = all_replicate (IsHandle packs) (length ks) v h; few = few }

  pub all_set : IsAllSet cmp given set (rows packs ks (replicate (length ks) v))
  all_set = record {
    set_there = λ q has.
        let c = members.to q has in
        value-named cmp q packs (paired ks (replicate (length ks) v))
        ∙ ap (option_map (set_at packs)) (value_found cmp total exact ks (replicate (length ks) v) (length-replicate (length ks) v) ordered c.0 q c.1 c.2 ∙ ap Some (get_or-replicate (length ks) c.0 v 0 c.1))
        ∙ ap Some names;
    listed = λ q has. members.from q (has_row cmp total exact ks (replicate (length ks) v) q (sym (has_rows cmp total exact packs ks (replicate (length ks) v) run_of_many q) ∙ has));
    no_other = λ q lacks.
        value-named cmp q packs (paired ks (replicate (length ks) v))
        ∙ ap (option_map (set_at packs)) (value_missing cmp total exact ks (replicate (length ks) v) q (λ k d lt. elim (bools (is_at (cmp q) (get_or ks k d))) [
          | inl at ↦ absurd (lacks (members.from q (k, lt, get_or_default ks k q d lt ∙ sym (tells_apart exact q (get_or ks k d) at))))
          | inr apart ↦ apart
        ]));
  }

pub exact_eq : {K : Type 0} (cmp : K → K → Ordering) → CmpEqualImpliesEq cmp → (E : K → K → Bool) → ((x y : K) → E x y ≡ is_eq (cmp x y)) → (x y : K) → E x y ≡ true → x ≡ y
exact_eq cmp exact E ties x y e = tells_apart exact x y (sym (ties x y) ∙ e)
