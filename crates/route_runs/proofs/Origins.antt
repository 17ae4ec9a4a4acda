-- The index of origins.
use Rattle.std.proofs.Common.{◌≡◌, ℕ, ◌<◌, inl, inr, Bool, true, false, not, cond, if◌then◌else◌, option_and_then, List, length, Option, None, Some, refl, ap, sym, subst, ◌∙◌}
use Rattle.std.specs.declared.cmp.Ordering.{Ordering}
use Rattle.std.specs.declared.cmp.Ordering.TheVariants.{Less, Equal, Greater}
use Rattle.std.specs.Ordering.{is_lt, nat_cmp, ordering_then, ordering_reverse}
use Rattle.std.specs.Cmp.{IsTotalOrder}
use Rattle.std.specs.List.{filter}
use Rattle.std.specs.Option.{is_some}
use Rattle.std.proofs.lemmas.Map.Lookups.{CmpEqualImpliesEq, exact_unsigned}
use Rattle.route_runs.specs.Keys.{pair_cmp}
use Rattle.route_runs.specs.Override.{value_at}
use Rattle.route_runs.specs.Origins.{has_spot, is_number, may_have, of_origin, AreKeysBy, Covers, IsFirstSpot, IsIndexed, IsKnown, IsLeastSpot, IsReached, IsSkip}
use Rattle.route_runs.specs.Places.{is_after, is_from, IsFirst, IsFirstPair, IsPassed}
use Rattle.route_runs.specs.Runs.{seen, changed, IsChanged}
use Rattle.route_runs.proofs.Searching.{bools, not_both, itself, less_is, tie, turned_is, fewer, after_trans}
use Rattle.std.proofs.lemmas.Cmp.{nat_cmp_total}

some_of : {A : Type 0} (origin : A → Option ℕ) (asn : ℕ) (o : Option A) → is_some (of_origin origin asn o) ≡ true → is_some o ≡ true
some_of origin asn None h = h
some_of origin asn (Some x) h = refl

is_none : {A : Type 0} (o : Option A) → is_some o ≡ false → o ≡ None
is_none None h = refl
is_none (Some x) h = absurd cc

module _ {S : Type 0} (by : S → S → Ordering) where
  pub pair_same : (n : ℕ) (x y : S) → pair_cmp by (n, x) (n, y) ≡ by x y
  pair_same n x y = ap (λ o. ordering_then o (by x y)) (itself nat_cmp nat_cmp_total (λ x y e. exact_unsigned x y e) n)

  module _ {U : Type 0} (index : List ((ℕ × S) × U)) (asn : ℕ) (spot : S) where
    from_pair : (s : S) → is_from by spot s ≡ true → is_from (pair_cmp by) (asn, spot) (asn, s) ≡ true
    from_pair s from = ap (λ o. not (is_lt o)) (pair_same asn s spot) ∙ from

    pub spot_none : ((p : ℕ × S) → is_from (pair_cmp by) (asn, spot) p ≡ true → value_at (pair_cmp by) p index ≡ None) → IsFirstSpot by spot (has_spot by asn index) None
    spot_none f s has = elim (bools (is_from by spot s)) [
      | inl from ↦ absurd (not_both (has_spot by asn index s) has (ap is_some (f (asn, s) (from_pair s from))))
      | inr before ↦ before
    ]

    module _ (e : (ℕ × S) × U) (f : IsFirstPair (pair_cmp by) (is_from (pair_cmp by) (asn, spot)) (λ p. value_at (pair_cmp by) p index) e) where
      pub spot_found : e.0.0 ≡ asn → IsFirstSpot by spot (has_spot by asn index) (Some e.0.1)
      spot_found s =
          let is : e.0 ≡ (asn, e.0.1) = (λ i. (s i, e.0.1)) in
          record {
            listed = ap (λ p. is_some (value_at (pair_cmp by) p index)) (sym is) ∙ ap is_some f.there;
            beyond = sym (ap (λ o. not (is_lt o)) (pair_same asn e.0.1 spot)) ∙ ap (λ p. not (is_lt (pair_cmp by p (asn, spot)))) (sym is) ∙ f.beyond;
            least = λ t has from. sym (ap is_lt (pair_same asn t e.0.1)) ∙ ap (λ p. is_lt (pair_cmp by (asn, t) p)) (sym is) ∙ f.first (asn, t) (from_pair t from) has;
          }

      pub spot_other : (e.0.0 ≡ asn → ⊥) → IsFirstSpot by spot (has_spot by asn index) None
      spot_other other t has = elim (bools (is_from by spot t)) [
        | inl from ↦ absurd (not_both (is_lt (pair_cmp by (asn, t) e.0)) (below other t) (f.first (asn, t) (from_pair t from) has))
        | inr before ↦ before
      ]
        where
          -- a pair of another AS that isn't before this one has a greater AS
          greater : (o a : Ordering) → (o ≡ Equal → ⊥) → not (is_lt (ordering_then (ordering_reverse o) a)) ≡ true → o ≡ Less
          greater Less a apart h = refl
          greater Equal a apart h = absurd (apart refl)
          greater Greater a apart h = absurd cc

          below : (e.0.0 ≡ asn → ⊥) → (t : S) → is_lt (pair_cmp by (asn, t) e.0) ≡ true
          below other t =
              let first : nat_cmp asn e.0.0 ≡ Less = greater (nat_cmp asn e.0.0) (by e.0.1 spot) (λ h. other (sym (exact_unsigned asn e.0.0 h)))
              (ap (λ o. not (is_lt (ordering_then o (by e.0.1 spot)))) (sym (nat_cmp_total.antisymm e.0.0 asn)) ∙ f.beyond) in
              ap (λ o. is_lt (ordering_then o (by t e.0.1))) first

-- ---- from one key to another
module _ {K S : Type 0} (cmp : K → K → Ordering) (total : IsTotalOrder cmp) (exact : CmpEqualImpliesEq cmp) (by : S → S → Ordering) (spot : K → S) (P : K → Type 0) (rise : (x y : K) → P x → P y → by (spot x) (spot y) ≡ Less → cmp x y ≡ Less) where
  no_less : (x y : K) → P x → P y → is_lt (cmp y x) ≡ false → is_lt (by (spot y) (spot x)) ≡ false
  no_less x y p q e = elim (bools (is_lt (by (spot y) (spot x)))) [
    | inl less ↦ absurd (not_both (is_lt (cmp y x)) (ap is_lt (rise y x q p (less_is _ less))) e)
    | inr more ↦ more
  ]

  later : (x y : K) → is_after cmp (Some x) y ≡ true → is_lt (cmp y x) ≡ false
  later x y less = ap is_lt (turned_is cmp total exact x y Less (less_is _ less))

  module _ (has : S → Bool) (key : K) (is : P key) where
    pub skip_to : (s : S) (to : K) → IsLeastSpot by (spot key) has s → IsReached cmp by spot P key s to → IsSkip cmp spot P key has (Some to)
    skip_to s to f r = record {
      further = r.further;
      skipped = λ q p after before. elim (bools (has (spot q))) [
        | inl listed ↦ absurd (not_both (is_lt (by (spot q) s)) (ap is_lt (r.between q p after before)) (f.least (spot q) listed (ap not (no_less key q is p (later key q after)))))
        | inr lacks ↦ lacks
      ];
    }

  -- ---- the search
  module _ {A U : Type 0} (origin : A → Option ℕ) (asn : ℕ) (pairs : List (K × A)) (index : Option (List ((ℕ × S) × U))) (indexed : IsKnown cmp by spot origin pairs index) (keys : AreKeysBy cmp P pairs) (place at : K) where
    module _ (s : IsPassed cmp (λ q. Some (of_origin origin asn (value_at cmp q pairs))) (Some place) (Some at)) (e : K × A) (f : IsFirstPair cmp (is_after cmp (Some at)) (λ q. value_at cmp q pairs) e) (other : is_number asn (origin e.1) ≡ false) where
      none_here : of_origin origin asn (value_at cmp e.0 pairs) ≡ None
      none_here = ap (of_origin origin asn) f.there ∙ ap (λ (b : Bool). if b then Some e.1 else None) other

      -- what has the origin after the place is after the row that was read, and the index has its spot
      past : (q : K) → is_after cmp (Some at) q ≡ true → (is_after cmp (Some e.0) q ≡ true → P q → may_have by asn index (spot q) ≡ false) → of_origin origin asn (value_at cmp q pairs) ≡ None
      past q after lacks = elim (bools (is_some (of_origin origin asn (value_at cmp q pairs)))) [
        | inl has ↦ elim (bools (is_after cmp (Some e.0) q)) [
          | inl more ↦ absurd (not_both (may_have by asn index (spot q)) (indexed q asn has) (lacks more (keys q (some_of origin asn (value_at cmp q pairs) has))))
          | inr same ↦ ap (λ (k : K). of_origin origin asn (value_at cmp k pairs)) (tie cmp total exact q e.0 (f.first q after (some_of origin asn (value_at cmp q pairs) has)) same) ∙ none_here
        ]
        | inr none ↦ is_none (of_origin origin asn (value_at cmp q pairs)) none
      ]

      pub search_ended : IsSkip cmp spot P e.0 (may_have by asn index) None → IsFirst cmp (is_after cmp (Some place)) (λ q. of_origin origin asn (value_at cmp q pairs)) None
      search_ended skip q beyond = elim (bools (is_after cmp (Some at) q)) [
        | inl after ↦ past q after (λ more p. skip q p more)
        | inr before ↦ s.passed q beyond before
      ]

      module _ (to : K) (skip : IsSkip cmp spot P e.0 (may_have by asn index) (Some to)) where
        onward : (q : K) → is_after cmp (Some to) q ≡ true → is_after cmp (Some e.0) q ≡ true
        onward q after = elim (bools (is_lt (cmp to e.0))) [
          | inl less ↦ absurd (not_both (is_lt (cmp to e.0)) less skip.further)
          | inr more ↦ elim (bools (is_lt (cmp e.0 to))) [
            | inl past ↦ after_trans cmp total (Some e.0) to q past after
            | inr same ↦ subst (λ (k : K). is_after cmp (Some k) q ≡ true) (tie cmp total exact to e.0 more same) after
          ]
        ]

        pub search_on : IsPassed cmp (λ q. Some (of_origin origin asn (value_at cmp q pairs))) (Some place) (Some to)
        search_on = record {
          passed = λ q beyond before. elim (bools (is_after cmp (Some at) q)) [
            | inl after ↦ past q after (λ more p. skip.skipped q p more before)
            | inr early ↦ s.passed q beyond early
          ];
          further = λ q after. s.further q (after_trans cmp total (Some at) e.0 q f.beyond (onward q after));
        }

        pub search_fewer : length (filter (λ (e : K × A). is_after cmp (Some to) e.0) pairs) < length (filter (λ (e : K × A). is_after cmp (Some at) e.0) pairs)
        search_fewer = fewer cmp exact (is_after cmp (Some at)) (is_after cmp (Some to)) e.0 (λ q after. after_trans cmp total (Some at) e.0 q f.beyond (onward q after)) f.beyond skip.further pairs (ap is_some f.there)

-- ---- a list of the pairs of an origin
pub number_of : {A : Type 0} (origin : A → Option ℕ) (asn : ℕ) (o : Option A) → is_some (of_origin origin asn o) ≡ true → is_number asn (option_and_then origin o) ≡ true
number_of origin asn None h = absurd cc
number_of origin asn (Some x) h = by_test (is_number asn (origin x)) h
  where
    by_test : (b : Bool) → is_some (if b then Some x else None) ≡ true → b ≡ true
    by_test true h = refl
    by_test false h = absurd cc

pub with_cases : {A : Type 0} (at test : Bool) (x : A) (u v : Option A) → v ≡ (if test then Some x else None) → (at ≡ true → u ≡ None) → cond test (cond at (Some x) u) u ≡ cond at v u
with_cases true true x u v is none = sym is
with_cases true false x u v is none = none refl ∙ sym is
with_cases false true x u v is none = refl
with_cases false false x u v is none = refl

grows : {U : Type 0} (a : Option (Option U)) (b : Option U) → (is_some a ≡ true → is_some (seen a) ≡ true) → is_some b ≡ true → is_some (changed a b) ≡ true
grows None b h e = e
grows (Some x) b h e = h refl

covered : {U : Type 0} (a : Option (Option U)) (b : Option U) → (is_some a ≡ true → is_some (seen a) ≡ true) → is_some a ≡ true → is_some (changed a b) ≡ true
covered None b h e = absurd cc
covered (Some x) b h e = h refl

by_row : {A : Type 0} (origin : A → Option ℕ) (asn : ℕ) (a : Option (Option A)) (b : Option A) (R : Type 0) → (is_some (of_origin origin asn (seen a)) ≡ true → R) → (is_some (of_origin origin asn b) ≡ true → R) → is_some (of_origin origin asn (changed a b)) ≡ true → R
by_row origin asn None b R f h e = h e
by_row origin asn (Some x) b R f h e = f e

module _ {K S A U : Type 0} (cmp : K → K → Ordering) (by : S → S → Ordering) (spot : K → S) (origin : A → Option ℕ) (old : List (K × A)) (run : List (K × Option A)) (index index' : List ((ℕ × S) × U)) (added : List ((ℕ × S) × Option U))
    (has : IsIndexed cmp by spot origin old index) (covers : Covers cmp by spot origin run added) (more : IsChanged (pair_cmp by) index added index') where
  pub index_grown : IsIndexed cmp by spot origin old index'
  index_grown q asn e = ap is_some (more.values (asn, spot q)) ∙ grows (value_at (pair_cmp by) (asn, spot q) added) (value_at (pair_cmp by) (asn, spot q) index) (covers.none_gone (asn, spot q)) (has q asn e)

  pub both_grown : (new : List (K × A)) → IsChanged cmp old run new → IsIndexed cmp by spot origin new index'
  both_grown new set q asn e = by_row origin asn (value_at cmp q run) (value_at cmp q old) (has_spot by asn index' (spot q) ≡ true)
      (λ f. ap is_some (more.values (asn, spot q)) ∙ covered (value_at (pair_cmp by) (asn, spot q) added) (value_at (pair_cmp by) (asn, spot q) index) (covers.none_gone (asn, spot q)) (covers.there q asn f))
      (index_grown q asn)
      (sym (ap (λ o. is_some (of_origin origin asn o)) (set.values q)) ∙ e)
