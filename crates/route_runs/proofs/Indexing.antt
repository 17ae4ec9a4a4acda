-- The pairs of an origin AS and a key of the rows of runs.
use Rattle.std.proofs.Common.{◌≡◌, Result, Ok, Err, IfOk, ℕ, ◌+◌, ◌/◌, ◌%◌, ◌<◌, ◌≤◌, nat_eq, if◌then◌else◌, inl, inr, true, false, List, [], length, map, take, get_or, Option, None, Some, option_and_then, refl, ap, sym, ◌∙◌, subst, arith}
use Rattle.std.specs.declared.cmp.Ordering.{Ordering}
use Rattle.std.specs.Cmp.{IsTotalOrder}
use Rattle.std.specs.List.{slice_get, Contains}
use Rattle.std.specs.Option.{is_some, option_map}
use Rattle.std.proofs.lemmas.Bool.{cases_Bool, cases_lt}
use Rattle.std.proofs.lemmas.Bool.Decides.{nat_tests}
use Rattle.std.proofs.lemmas.List.{get_or_default, length-map, take_all}
use Rattle.std.proofs.lemmas.Option.{slice_get-map}
use Rattle.std.proofs.Math.ListN.{get_or-eq_default, get_or-map}
use Rattle.std.proofs.lemmas.Map.Lookups.{CmpEqualImpliesEq}
use Rattle.route_runs.specs.Keys.{pair_cmp}
use Rattle.route_runs.specs.Message.{IsAllSet}
use Rattle.route_runs.specs.Origins.{is_number, of_origin, told_origin, AreAdded, AreAll, AreNamed, Covers, HasPairs, IsIndexed, IsKnown}
use Rattle.route_runs.specs.Override.{value_at, or_else}
use Rattle.route_runs.specs.Rows.{gone, set_at, paired, rows, IsRun}
use Rattle.route_runs.specs.Runs.{latest, seen, changed, contents, IsChanged}
use Rattle.route_runs.proofs.Contents.{value-contents}
use Rattle.route_runs.proofs.Handles.{set_gone}
use Rattle.route_runs.proofs.Origins.{number_of}
use Rattle.route_runs.proofs.Overriding.{value-named}
use Rattle.route_runs.proofs.Searching.{has_row, has_rows, value_found, latest_step}

-- ---- the origins of all sets
module _ {A : Type 0} (origin : A → Option ℕ) where
  flat : (o : Option A) → option_and_then (λ (p : Option ℕ). p) (option_map origin o) ≡ option_and_then origin o
  flat None = refl
  flat (Some x) = refl

  -- of one that is gone none is told
  told_gone : (packs : List (List A)) (h : ℕ) → length packs < 1048576 → h ≡ gone → told_origin (map (map origin) packs) h ≡ None
  told_gone packs h few e =
      let far : length (map (map origin) packs) ≤ h / 4096 = rw (length-map packs (map origin), e) (omega (arith, few)) in
      ap (λ l. option_and_then (λ (p : Option ℕ). p) (slice_get l (h % 4096))) (get_or-eq_default (map (map origin) packs) [] far)

  told_live : (packs : List (List A)) (h : ℕ) → nat_eq h gone ≡ false → told_origin (map (map origin) packs) h ≡ option_and_then origin (set_at packs h)
  told_live packs h live =
      ap (λ l. option_and_then (λ (p : Option ℕ). p) (slice_get l (h % 4096))) (get_or-map (map origin) packs (h / 4096) [])
      ∙ ap (option_and_then (λ (p : Option ℕ). p)) (slice_get-map origin (get_or packs (h / 4096) []) (h % 4096))
      ∙ flat (slice_get (get_or packs (h / 4096) []) (h % 4096))
      ∙ ap (λ b. option_and_then origin (if b then None else slice_get (get_or packs (h / 4096) []) (h % 4096))) (sym live)

  pub told_named : (packs : List (List A)) → length packs < 1048576 → (h : ℕ) → told_origin (map (map origin) packs) h ≡ option_and_then origin (set_at packs h)
  told_named packs few h = elim (cases_Bool (nat_eq h gone)) [
    | inl is ↦ let e : h ≡ gone = grind (arith, nat_tests, is) in told_gone packs h few e ∙ ap (option_and_then origin) (sym (set_gone packs h e))
    | inr live ↦ told_live packs h live
  ]

module _ {K S : Type 0} (spot : K → S) (origin : ℕ → Option ℕ) (ks : List K) (vs : List ℕ) where
  pub named_none : (pairs : List (ℕ × S)) → AreNamed spot origin ks vs 0 pairs
  named_none pairs k d asn lt h = absurd (omega (arith, lt))

  pub named_more : (n : ℕ) (pairs pairs' : List (ℕ × S)) (key : K) (s : S) (o : Option ℕ) → n < length ks → key ≡ get_or ks n key → s ≡ spot key → o ≡ origin (get_or vs n 0)
      → ((p : ℕ × S) → Contains pairs p → Contains pairs' p) → ((asn : ℕ) → is_number asn o ≡ true → Contains pairs' (asn, s)) → AreNamed spot origin ks vs n pairs → AreNamed spot origin ks vs (n + 1) pairs'
  named_more n pairs pairs' key s o within is stands names kept added so_far k d asn lt h = elim (cases_lt k n) [
    | inl less ↦ kept _ (so_far k d asn less h)
    | inr more ↦
        let same : k ≡ n = omega (arith, lt, more) in
        let at : key ≡ get_or ks k d = is ∙ get_or_default ks n key d within ∙ ap (λ k. get_or ks k d) (sym same) in
        subst (λ q. Contains pairs' (asn, q)) (stands ∙ ap spot at) (added asn (ap (is_number asn) (names ∙ ap (λ k. origin (get_or vs k 0)) (sym same)) ∙ h))
  ]

  pub named_all : (n : ℕ) (pairs : List (ℕ × S)) → length ks ≤ n → AreNamed spot origin ks vs n pairs → AreNamed spot origin ks vs (length ks) pairs
  named_all n pairs le so_far k d asn lt h = so_far k d asn (omega (arith, lt, le)) h

  -- the same by another way to an origin
  pub named_as : (other : ℕ → Option ℕ) → ((h : ℕ) → origin h ≡ other h) → (n : ℕ) (pairs : List (ℕ × S)) → AreNamed spot origin ks vs n pairs → AreNamed spot other ks vs n pairs
  named_as other same n pairs named k d asn lt h = named k d asn lt (ap (is_number asn) (same (get_or vs k 0)) ∙ h)

module _ {K S A : Type 0} (cmp : K → K → Ordering) (total : IsTotalOrder cmp) (exact : CmpEqualImpliesEq cmp) (spot : K → S) (origin : A → Option ℕ) (packs : List (List A)) (ks : List K) (vs : List ℕ) (run : IsRun cmp packs ks vs) where
  seen_has : (o : Option (Option A)) (asn : ℕ) → is_some (of_origin origin asn (seen o)) ≡ true → is_some o ≡ true
  seen_has None asn h = absurd cc
  seen_has (Some x) asn h = refl

  pub named_rows : (pairs : List (ℕ × S)) → AreNamed spot (λ h. option_and_then origin (set_at packs h)) ks vs (length ks) pairs → AreAdded cmp spot origin (rows packs ks vs) pairs
  named_rows pairs named q asn h =
      let r = has_row cmp total exact ks vs q (sym (has_rows cmp total exact packs ks vs run q) ∙ seen_has (value_at cmp q (rows packs ks vs)) asn h) in
      let value : value_at cmp q (rows packs ks vs) ≡ Some (set_at packs (get_or vs r.0 0)) =
      value-named cmp q packs (paired ks vs) ∙ ap (option_map (set_at packs)) (value_found cmp total exact ks vs run.even run.ordered r.0 q r.1 r.2) in
      let number = number_of origin asn (set_at packs (get_or vs r.0 0)) (sym (ap (λ o. is_some (of_origin origin asn (seen o))) value) ∙ h) in
      subst (λ (k : K). Contains pairs (asn, spot k)) r.2 (named r.0 q asn r.1 number)

module _ {K S A : Type 0} (cmp : K → K → Ordering) (spot : K → S) (origin : A → Option ℕ) (runs : List (List (K × Option A))) where
  pub all_none : (pairs : List (ℕ × S)) → AreAll cmp spot origin (take 0 runs) pairs
  all_none pairs q asn h = absurd cc

  of_both : (asn : ℕ) (a b : Option (Option A)) (R : Type 0) → (is_some (of_origin origin asn (seen a)) ≡ true → R) → (is_some (of_origin origin asn (seen b)) ≡ true → R) → is_some (of_origin origin asn (seen (or_else a b))) ≡ true → R
  of_both asn None b R f g h = g h
  of_both asn (Some x) b R f g h = f h

  pub all_more : (run : List (K × Option A)) (n : ℕ) (pairs pairs' : List (ℕ × S)) → n < length runs → run ≡ get_or runs n run → ((p : ℕ × S) → Contains pairs p → Contains pairs' p) → AreAdded cmp spot origin run pairs'
      → AreAll cmp spot origin (take n runs) pairs → AreAll cmp spot origin (take (n + 1) runs) pairs'
  all_more run n pairs pairs' lt at kept added so_far q asn h =
      of_both asn (value_at cmp q run) (latest cmp q (take n runs)) (Contains pairs' (asn, spot q)) (added q asn) (λ e. kept _ (so_far q asn e))
      (sym (ap (λ o. is_some (of_origin origin asn (seen o))) (latest_step cmp q runs run n lt at)) ∙ h)

  pub all_runs : (n : ℕ) (pairs : List (ℕ × S)) → length runs ≤ n → AreAll cmp spot origin (take n runs) pairs → AreAll cmp spot origin runs pairs
  all_runs n pairs le all = subst (λ l. AreAll cmp spot origin l pairs) (take_all n runs le) all

-- ---- the run of these pairs
module _ {K U : Type 0} (cmp : K → K → Ordering) (pairs : List (ℕ × K)) (unit : U) (added : List ((ℕ × K) × Option U)) where
  pub has_pairs : IsAllSet (pair_cmp cmp) pairs (Some unit) added → HasPairs cmp pairs added
  has_pairs all = record {
    there = λ p h. ap is_some (all.set_there p h);
    none_gone = λ p h. ap (λ o. is_some (seen o)) (all.set_there p (all.listed p h));
  }

module _ {K S A U : Type 0} (cmp : K → K → Ordering) (by : S → S → Ordering) (spot : K → S) (origin : A → Option ℕ) (pairs : List (ℕ × S)) (added : List ((ℕ × S) × Option U)) (has : HasPairs by pairs added) where
  pub covered_by : (run : List (K × Option A)) → AreAdded cmp spot origin run pairs → Covers cmp by spot origin run added
  covered_by run all = record { there = λ q asn h. has.there (asn, spot q) (all q asn h); none_gone = has.none_gone }

  set_there : (a : Option (Option U)) (b : Option U) → is_some (seen a) ≡ true → is_some (changed a b) ≡ true
  set_there None b h = absurd cc
  set_there (Some x) b h = h

  pub made_anew : IsTotalOrder cmp → CmpEqualImpliesEq cmp → (runs : List (List (K × Option A))) → AreAll cmp spot origin runs pairs → (old index : List ((ℕ × S) × U)) → IsChanged (pair_cmp by) old added index → IsIndexed cmp by spot origin (contents cmp runs) index
  made_anew total exact runs all old index set q asn h =
      let listed = all q asn (sym (ap (λ o. is_some (of_origin origin asn o)) (value-contents cmp total exact q runs)) ∙ h) in
      ap is_some (set.values (asn, spot q)) ∙ set_there (value_at (pair_cmp by) (asn, spot q) added) (value_at (pair_cmp by) (asn, spot q) old) (has.none_gone (asn, spot q) (has.there (asn, spot q) listed))

-- a table and an index that are shared
pub same_known : {K S A U T E : Type 0} (cmp : K → K → Ordering) (by : S → S → Ordering) (spot : K → S) (origin : A → Option ℕ) (pairs : List (K × A)) (index : Option (List ((ℕ × S) × U))) (r : Result T E) (first : T → List (K × A)) (second : T → Option (List ((ℕ × S) × U)))
    → IfOk r (λ t. first t ≡ pairs) → IfOk r (λ t. second t ≡ index) → IsKnown cmp by spot origin pairs index → IfOk r (λ t. IsKnown cmp by spot origin (first t) (second t))
same_known cmp by spot origin pairs index (Ok t) first second a b has = subst (λ l. IsKnown cmp by spot origin l (second t)) (sym a) (subst (IsKnown cmp by spot origin pairs) (sym b) has)
same_known cmp by spot origin pairs index (Err e) first second a b has = tt
