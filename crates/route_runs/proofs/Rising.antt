-- Keys that rise, found by comparing each with the one before it.
use Rattle.std.proofs.Common.{◌≡◌, ℕ, suc, ◌+◌, ◌-◌, ◌<◌, ◌≤◌, inl, inr, List, [], ◌∷◌, length, get_or, ap, sym, ◌∙◌, subst, arith}
use Rattle.std.specs.declared.cmp.Ordering.{Ordering}
use Rattle.std.specs.declared.cmp.Ordering.TheVariants.{Less}
use Rattle.std.specs.Cmp.{IsTotalOrder}
use Rattle.std.specs.List.{AllByRecursion}
use Rattle.std.specs.List.Sorted.{IsStrictlySortedBy}
use Rattle.std.specs.Map.{keys_of}
use Rattle.std.proofs.lemmas.Bool.{cases_lt}
use Rattle.std.proofs.lemmas.List.{get_or_read, length-map}
use Rattle.route_runs.proofs.Contents.{at_mapped}

-- the first n of them rise
abbrev pub RisesTo : {K : Type 0} → (K → K → Ordering) → List K → ℕ → Type 0
RisesTo {K} cmp ks n = (i : ℕ) (d : K) → i + 1 < n → cmp (get_or ks i d) (get_or ks (i + 1) d) ≡ Less

module _ {K : Type 0} (cmp : K → K → Ordering) where
  pub rises_one : (ks : List K) → RisesTo cmp ks 1
  rises_one ks i d lt = absurd (omega (arith, lt))

  pub rises_more : (ks : List K) (n : ℕ) (x y : K) → 1 ≤ n → n < length ks → x ≡ get_or ks (n - 1) x → y ≡ get_or ks n y → cmp x y ≡ Less → RisesTo cmp ks n → RisesTo cmp ks (n + 1)
  rises_more ks n x y from lt a b less r i d within = elim (cases_lt (i + 1) n) [
    | inl before ↦ r i d before
    | inr last ↦
        ap (λ m. cmp (get_or ks m d) (get_or ks (i + 1) d)) {x = i} {y = n - 1} (omega (arith, last, within))
        ∙ ap (λ m. cmp (get_or ks (n - 1) d) (get_or ks m d)) {x = i + 1} {y = n} (omega (arith, last, within))
        ∙ ap (λ z. cmp z (get_or ks n d)) (sym (get_or_read ks (n - 1) x (omega (arith, from, lt)) a d)) ∙ ap (cmp x) (sym (get_or_read ks n y lt b d)) ∙ less
  ]

  pub rows_more : (es : List (K × ℕ)) (n : ℕ) (x y : K × ℕ) → 1 ≤ n → n < length es → x ≡ get_or es (n - 1) x → y ≡ get_or es n y → cmp x.0 y.0 ≡ Less → RisesTo cmp (keys_of es) n → RisesTo cmp (keys_of es) (n + 1)
  rows_more es n x y from lt a b less r =
      rises_more (keys_of es) n x.0 y.0 from (omega (arith, lt, length-map es (λ (e : K × ℕ). e.0)))
      (ap (λ (e : K × ℕ). e.0) a ∙ sym (at_mapped (λ (e : K × ℕ). e.0) es (n - 1) x)) (ap (λ (e : K × ℕ). e.0) b ∙ sym (at_mapped (λ (e : K × ℕ). e.0) es n y)) less r

  module _ (total : IsTotalOrder cmp) where
    all_above : (k l : K) (ks : List K) → cmp k l ≡ Less → AllByRecursion (λ y. cmp l y ≡ Less) ks → AllByRecursion (λ y. cmp k y ≡ Less) ks
    all_above k l [] less a = tt
    all_above k l (x ∷ ks) less a = (total.trans k l x less a.0, all_above k l ks less a.1)

    pub rises_all : (ks : List K) → RisesTo cmp ks (length ks) → IsStrictlySortedBy cmp ks
    unfolding IsStrictlySortedBy
    rises_all [] r = tt
    rises_all (k ∷ []) r = (tt, tt)
    rises_all (k ∷ l ∷ ks) r =
        let rest = rises_all (l ∷ ks) (λ i d lt. subst (λ n. cmp (get_or (l ∷ ks) i d) (get_or (k ∷ l ∷ ks) n d) ≡ Less) {x = suc i + 1} {y = suc (i + 1)} (omega arith) (r (suc i) d (omega (arith, lt)))) in
        let less : cmp k l ≡ Less = r 0 k (omega arith) in
        ((less, all_above k l ks less rest.0), rest)

    pub rises_to_end : (ks : List K) (n : ℕ) → length ks ≤ n → RisesTo cmp ks n → IsStrictlySortedBy cmp ks
    rises_to_end ks n past r = rises_all ks (λ i d lt. r i d (omega (arith, lt, past)))

    pub rows_to_end : (es : List (K × ℕ)) (n : ℕ) → length es ≤ n → RisesTo cmp (keys_of es) n → IsStrictlySortedBy cmp (keys_of es)
    rows_to_end es n past r = rises_to_end (keys_of es) n (omega (arith, past, length-map es (λ (e : K × ℕ). e.0))) r
