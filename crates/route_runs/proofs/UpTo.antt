-- The last row at a place or before it, in one run and over runs.
use Rattle.std.proofs.Common.{◌≡◌, ℕ, ◌-◌, ◌<◌, inl, inr, Bool, true, false, not, List, length, get_or, Option, None, Some, refl, ap, sym, ◌∙◌, subst, arith}
use Rattle.std.specs.declared.cmp.Ordering.{Ordering}
use Rattle.std.specs.declared.cmp.Ordering.TheVariants.{Less}
use Rattle.std.specs.Ordering.{is_lt}
use Rattle.std.specs.Cmp.{IsTotalOrder}
use Rattle.std.specs.Option.{is_some}
use Rattle.std.proofs.lemmas.Bool.{cases_lt, cases_eq}
use Rattle.std.proofs.lemmas.List.{get_or_default}
use Rattle.std.proofs.lemmas.Map.Lookups.{CmpEqualImpliesEq}
use Rattle.route_runs.specs.Override.{value_at, or_else}
use Rattle.route_runs.specs.Rows.{set_at, rows, IsRun}
use Rattle.route_runs.specs.Runs.{seen}
use Rattle.route_runs.specs.Places.{turned, is_after, is_from, is_no_less, IsAfterPoint, IsFirst, IsFirstPair}
use Rattle.route_runs.proofs.Searching.{not_both, bools, less_is, itself, turned_is, tie, pair_less, has_row, has_rows, found_row}

none_of : {X : Type 0} (o : Option X) → (is_some o ≡ true → ⊥) → o ≡ None
none_of None h = refl
none_of (Some x) h = absurd (h refl)

some_not_none : {X : Type 0} (o : Option X) → is_some o ≡ true → o ≡ None → ⊥
some_not_none o h e = not_both (is_some o) h (ap is_some e)

from_is : (b : Bool) → not b ≡ true → b ≡ false
from_is true e = absurd cc
from_is false e = refl

from_not : (b : Bool) → not b ≡ false → b ≡ true
from_not true e = refl
from_not false e = absurd cc

-- ---- in one run
module _ {K A : Type 0} (cmp : K → K → Ordering) (total : IsTotalOrder cmp) (exact : CmpEqualImpliesEq cmp) (packs : List (List A)) (ks : List K) (vs : List ℕ) (run : IsRun cmp packs ks vs) (place : K) (n : ℕ) (p : IsAfterPoint cmp (Some place) ks n) where
  pub up_to_none : n ≡ 0 → (q : K) → is_from (turned cmp) place q ≡ true → value_at cmp q (rows packs ks vs) ≡ None
  up_to_none none q test = none_of (value_at cmp q (rows packs ks vs)) (λ has.
      let r = has_row cmp total exact ks vs q (sym (has_rows cmp total exact packs ks vs run q) ∙ has) in
      not_both (is_lt (cmp place q)) (ap (λ y. is_lt (cmp place y)) (sym r.2) ∙ p.behind r.0 q (omega (arith, none)) r.1) (from_is (is_lt (cmp place q)) test))

  pub up_to_some : (k : K) (v : ℕ) → 0 < n → k ≡ get_or ks (n - 1) k → v ≡ get_or vs (n - 1) v → IsFirstPair (turned cmp) (is_from (turned cmp) place) (λ q. value_at cmp q (rows packs ks vs)) (k, set_at packs v)
  up_to_some k v some is says =
      let lt : n - 1 < length ks = (let w = p.within in omega (arith, w, some)) in
      record {
        there = found_row cmp total exact packs ks vs run (n - 1) k v lt (λ d. ap (λ y. cmp y k) (get_or_default ks (n - 1) d k lt ∙ sym is) ∙ itself cmp total exact k) says;
        beyond = ap not (ap (λ y. is_lt (cmp place y)) is ∙ p.before (n - 1) k (omega (arith, some)));
        first = λ q test has.
            let r = has_row cmp total exact ks vs q (sym (has_rows cmp total exact packs ks vs run q) ∙ has) in
            elim (cases_lt r.0 n) [
              | inr more ↦ absurd (not_both (is_lt (cmp place q)) (ap (λ y. is_lt (cmp place y)) (sym r.2) ∙ p.behind r.0 q more r.1) (from_is (is_lt (cmp place q)) test))
              | inl before ↦ elim (cases_eq r.0 (n - 1)) [
                | inl same ↦ let e : q ≡ k = sym r.2 ∙ ap (λ i. get_or ks i q) same ∙ get_or_default ks (n - 1) q k lt ∙ sym is in ap (λ y. is_lt (cmp k y)) e ∙ ap is_lt (itself cmp total exact k)
                | inr other ↦
                    let l : cmp (get_or ks r.0 q) (get_or ks (n - 1) q) ≡ Less = pair_less cmp ks run.ordered r.0 (n - 1) q (omega (arith, before, other)) lt in
                    let m : cmp q k ≡ Less = subst (λ y. cmp y k ≡ Less) r.2 (subst (λ y. cmp (get_or ks r.0 q) y ≡ Less) (get_or_default ks (n - 1) q k lt ∙ sym is) l) in
                    ap is_lt (turned_is cmp total exact q k Less m)
              ]
            ];
      }

  -- the same of the rows as a contract sees them
  pub row_there : (es : List (K × Option A)) → rows packs ks vs ≡ es → (k : K) → 0 < n → k ≡ get_or ks (n - 1) k → IsFirstPair (turned cmp) (is_from (turned cmp) place) (λ q. value_at cmp q es) (k, set_at packs (get_or vs (n - 1) 0))
  row_there es same k some is =
      let lt : n - 1 < length vs = (let w = p.within in let e = run.even in omega (arith, w, e, some)) in
      subst (λ l. IsFirstPair (turned cmp) (is_from (turned cmp) place) (λ q. value_at cmp q l) (k, set_at packs (get_or vs (n - 1) 0))) same
      (up_to_some k (get_or vs (n - 1) 0) some is (get_or_default vs (n - 1) 0 (get_or vs (n - 1) 0) lt))

-- ---- with earlier runs
module _ {K X : Type 0} (ord : K → K → Ordering) (test : K → Bool) (later earlier : K → Option X) where
  either : (q : K) → later q ≡ None → is_some (or_else (later q) (earlier q)) ≡ true → is_some (earlier q) ≡ true
  either q none has = ap (λ o. is_some (or_else o (earlier q))) (sym none) ∙ has

  lacks : (q : K) → is_some (later q) ≡ false → later q ≡ None
  lacks q none = none_of (later q) (λ has. not_both (is_some (later q)) has none)

  pub over_none : (old : Option (K × X)) → ((q : K) → test q ≡ true → later q ≡ None) → IsFirst ord test earlier old → IsFirst ord test (λ q. or_else (later q) (earlier q)) old
  over_none None none f = λ q t. ap (λ o. or_else o (earlier q)) (none q t) ∙ f q t
  over_none (Some o) none f = record {
    there = ap (λ v. or_else v (earlier o.0)) (none o.0 f.beyond) ∙ f.there;
    beyond = f.beyond;
    first = λ q t has. f.first q t (either q (none q t) has);
  }

  module _ (total : IsTotalOrder ord) (exact : CmpEqualImpliesEq ord) (e : K × X) (n : IsFirstPair ord test later e) where
    -- the later pair is the first
    over_both : (old : K × X) → IsFirstPair ord test earlier old → is_lt (ord old.0 e.0) ≡ false → (q : K) → test q ≡ true → is_some (earlier q) ≡ true → is_lt (ord q e.0) ≡ false
    over_both old f up q t has = elim (bools (is_lt (ord q e.0))) [
      | inr more ↦ more
      | inl less ↦ elim (bools (is_lt (ord e.0 old.0))) [
        | inl below ↦ absurd (not_both (is_lt (ord q old.0)) (ap is_lt (total.trans q e.0 old.0 (less_is _ less) (less_is _ below))) (f.first q t has))
        | inr same ↦ absurd (not_both (is_lt (ord q old.0)) (subst (λ y. is_lt (ord q y) ≡ true) (tie ord total exact e.0 old.0 same up) less) (f.first q t has))
      ]
    ]

    over_old : (old : Option (K × X)) → IsFirst ord test earlier old → is_no_less (turned ord) old e.0 ≡ true → (q : K) → test q ≡ true → is_some (earlier q) ≡ true → is_lt (ord q e.0) ≡ false
    over_old None f up q t has = absurd (some_not_none (earlier q) has (f q t))
    over_old (Some o) f up q t has = over_both o f (from_is (is_lt (ord o.0 e.0)) up) q t has

    pub over_some : (old : Option (K × X)) → IsFirst ord test earlier old → is_no_less (turned ord) old e.0 ≡ true → IsFirstPair ord test (λ q. or_else (later q) (earlier q)) e
    over_some old f up = record {
      there = ap (λ v. or_else v (earlier e.0)) n.there;
      beyond = n.beyond;
      first = λ q t has. elim (bools (is_some (later q))) [
        | inl here ↦ n.first q t here
        | inr none ↦ over_old old f up q t (either q (lacks q none) has)
      ];
    }

    -- the earlier pair stays the first
    pub over_kept : (old : Option (K × X)) → IsFirst ord test earlier old → is_no_less (turned ord) old e.0 ≡ false → IsFirst ord test (λ q. or_else (later q) (earlier q)) old
    over_kept None f up = absurd cc
    over_kept (Some o) f up =
        let l : is_lt (ord o.0 e.0) ≡ true = from_not (is_lt (ord o.0 e.0)) up in
        let none : later o.0 ≡ None = none_of (later o.0) (λ has. not_both (is_lt (ord o.0 e.0)) l (n.first o.0 f.beyond has)) in
        record {
          there = ap (λ v. or_else v (earlier o.0)) none ∙ f.there;
          beyond = f.beyond;
          first = λ q t has. elim (bools (is_some (later q))) [
            | inr none ↦ f.first q t (either q (lacks q none) has)
            | inl here ↦ elim (bools (is_lt (ord q o.0))) [
              | inr more ↦ more
              | inl less ↦ absurd (not_both (is_lt (ord q e.0)) (ap is_lt (total.trans q o.0 e.0 (less_is _ less) (less_is _ l))) (n.first q t here))
            ]
          ];
        }

-- ---- what a reader sees
module _ {K A : Type 0} (ord : K → K → Ordering) (total : IsTotalOrder ord) (exact : CmpEqualImpliesEq ord) (value : K → Option (Option A)) (place : K) where
  seen_some : (o : Option (Option A)) → is_some (seen o) ≡ true → is_some o ≡ true
  seen_some None e = absurd cc
  seen_some (Some x) e = refl

  module _ (k : K) (f : IsFirstPair ord (is_from ord place) value (k, None)) where
    -- what is seen from the place on is after the key that is gone
    seen_after : (q : K) → is_from ord place q ≡ true → is_some (seen (value q)) ≡ true → is_lt (ord k q) ≡ true
    seen_after q t has = elim (bools (is_lt (ord k q))) [
      | inl after ↦ after
      | inr not_after ↦
          let same : q ≡ k = tie ord total exact q k (f.first q t (seen_some (value q) has)) not_after in
          absurd (some_not_none (seen (value q)) has (ap (λ q. seen (value q)) same ∙ ap seen f.there))
    ]

    after_is_from : (q : K) → is_lt (ord k q) ≡ true → is_from ord place q ≡ true
    after_is_from q after = elim (bools (is_lt (ord q place))) [
      | inr more ↦ ap not more
      | inl less ↦ absurd (not_both (is_lt (ord k place)) (ap is_lt (total.trans k q place (less_is _ after) (less_is _ less))) (from_is (is_lt (ord k place)) f.beyond))
    ]

    pub seen_beyond : (r : Option (K × A)) → IsFirst ord (is_after ord (Some k)) (λ q. seen (value q)) r → IsFirst ord (is_from ord place) (λ q. seen (value q)) r
    seen_beyond None g = λ q t. none_of (seen (value q)) (λ has. some_not_none (seen (value q)) has (g q (seen_after q t has)))
    seen_beyond (Some e) g = record {
      there = g.there;
      beyond = after_is_from e.0 g.beyond;
      first = λ q t has. g.first q (seen_after q t has) has;
    }
