-- Searches in the keys of a run, and over runs.
use Rattle.std.proofs.Common.{◌≡◌, ℕ, zero, suc, ◌+◌, ◌-◌, ◌<◌, ◌≤◌, ◌⊎◌, inl, inr, Bool, true, false, cond, if◌then◌else◌, List, [], ◌∷◌, ◌++◌, length, get_or, take, ◌||◌, Option, None, Some, refl, ap, sym, ◌∙◌, subst, arith}
use Rattle.std.specs.declared.cmp.Ordering.{Ordering}
use Rattle.std.specs.declared.cmp.Ordering.TheVariants.{Less, Equal, Greater}
use Rattle.std.specs.Ordering.{is_lt, is_eq, ordering_index, ordering_reverse}
use Rattle.std.specs.Cmp.{IsTotalOrder}
use Rattle.std.specs.BTreeMap.{is_at}
use Rattle.std.specs.List.{AllByRecursion, HoldsAt, filter}
use Rattle.std.specs.List.Sorted.{IsStrictlySortedBy, IsNonDecreasingBy, IsPartitionPoint}
use Rattle.std.specs.Option.{is_some, option_map}
use Rattle.std.proofs.lemmas.Bool.{cases_lt, cases_eq}
use Rattle.std.proofs.lemmas.List.{get_or_default, take_more}
use Rattle.std.proofs.lemmas.Map.Lookups.{CmpEqualImpliesEq}
use Rattle.std.proofs.lemmas.Map.Views.{tells_apart}
use Rattle.route_runs.specs.Override.{value_at, or_else}
use Rattle.route_runs.specs.Rows.{set_at, paired, rows, IsRun}
use Rattle.route_runs.specs.Runs.{joined, latest, seen}
use Rattle.route_runs.specs.Places.{is_after, IsAfterPoint, IsNextKey, IsNext, has_key, has_latest, lesser_of, IsPassed, IsFirst, IsFirstPair, IsBeforePoint, turned}
use Rattle.route_runs.proofs.Overriding.{value-named}
use Rattle.route_runs.proofs.Contents.{value-joined, latest-more}

pub all_at : {X : Type 0} (P : X → Type 0) (xs : List X) → AllByRecursion P xs → (j : ℕ) (d : X) → j < length xs → P (get_or xs j d)
all_at P [] a j d lt = absurd (omega (arith, lt))
all_at P (x ∷ xs) a zero d lt = a.0
all_at P (x ∷ xs) a (suc j) d lt = all_at P xs a.1 j d (omega (arith, lt))

top : (o : Ordering) → ordering_index o ≤ 2
top Less = omega arith
top Equal = omega arith
top Greater = omega arith

pub not_both : (b : Bool) → b ≡ true → b ≡ false → ⊥
not_both true a c = absurd cc
not_both false a c = absurd cc

pub bools : (b : Bool) → (b ≡ true) ⊎ (b ≡ false)
bools true = inl refl
bools false = inr refl

module _ {K : Type 0} (cmp : K → K → Ordering) where
  pub pair_less : (ks : List K) → IsStrictlySortedBy cmp ks → (i j : ℕ) (d : K) → i < j → j < length ks → cmp (get_or ks i d) (get_or ks j d) ≡ Less
  unfolding IsStrictlySortedBy
  pair_less [] s i j d less lt = absurd (omega (arith, lt))
  pair_less (k ∷ ks) s i zero d less lt = absurd (omega (arith, less))
  pair_less (k ∷ ks) s zero (suc j) d less lt = all_at (λ y. cmp k y ≡ Less) ks s.0 j d (omega (arith, lt))
  pair_less (k ∷ ks) s (suc i) (suc j) d less lt = pair_less ks s.1 i j d (omega (arith, less)) (omega (arith, lt))

pub less_is : (o : Ordering) → is_lt o ≡ true → o ≡ Less
less_is Less e = refl
less_is Equal e = absurd cc
less_is Greater e = absurd cc

module _ {K : Type 0} (cmp : K → K → Ordering) (total : IsTotalOrder cmp) (exact : CmpEqualImpliesEq cmp) where
  pub itself : (x : K) → cmp x x ≡ Equal
  itself x = by_order (cmp x x) (total.antisymm x x)
    where
      by_order : (o : Ordering) → o ≡ ordering_reverse o → o ≡ Equal
      by_order Less e = absurd cc
      by_order Equal e = refl
      by_order Greater e = absurd cc

  pub turned_is : (x y : K) (o : Ordering) → cmp x y ≡ o → cmp y x ≡ ordering_reverse o
  turned_is x y o e = total.antisymm y x ∙ ap ordering_reverse e

  pub tie : (p q : K) → is_lt (cmp p q) ≡ false → is_lt (cmp q p) ≡ false → p ≡ q
  tie p q a b = exact p q (by_order (cmp p q) a (ap is_lt (sym (total.antisymm q p)) ∙ b))
    where
      by_order : (o : Ordering) → is_lt o ≡ false → is_lt (ordering_reverse o) ≡ false → o ≡ Equal
      by_order Less a b = absurd cc
      by_order Equal a b = refl
      by_order Greater a b = absurd cc

  rises : (a b x : K) → cmp a b ≡ Less → ordering_index (cmp a x) ≤ ordering_index (cmp b x)
  rises a b x less = by_order (cmp b x) refl
    where
      by_order : (o : Ordering) → cmp b x ≡ o → ordering_index (cmp a x) ≤ ordering_index o
      by_order Less e = let n : ordering_index (cmp a x) ≡ 0 = ap ordering_index (total.trans a b x less e) in omega (arith, n)
      by_order Equal e = let l : cmp a x ≡ Less = subst (λ y. cmp a y ≡ Less) (exact b x e) less in let n : ordering_index (cmp a x) ≡ 0 = ap ordering_index l in omega (arith, n)
      by_order Greater e = top (cmp a x)

  pub searchable : (ks : List K) → IsStrictlySortedBy cmp ks → (x : K) → IsNonDecreasingBy (λ y. ordering_index (cmp y x)) ks
  searchable ks s x i j d le lt = elim (cases_lt i j) [
    | inl less ↦ rises (get_or ks i d) (get_or ks j d) x (pair_less cmp ks s i j d less lt)
    | inr more ↦ let same : i ≡ j = omega (arith, le, more) in let e : ordering_index (cmp (get_or ks i d) x) ≡ ordering_index (cmp (get_or ks j d) x) = ap (λ i. ordering_index (cmp (get_or ks i d) x)) same in omega (arith, e)
  ]

  -- ---- where the keys after a place begin
  pub point_found : (ks : List K) → IsStrictlySortedBy cmp ks → (x : K) (at : ℕ) → at < length ks → HoldsAt (λ y. cmp y x ≡ Equal) ks at → IsAfterPoint cmp (Some x) ks (at + 1)
  point_found ks s x at lt holds = record {
    within = omega (arith, lt);
    before = λ k d less. elim (cases_lt k at) [
      | inl before ↦ let e : cmp (get_or ks k d) x ≡ Less = subst (λ y. cmp (get_or ks k d) y ≡ Less) (exact _ x (holds d)) (pair_less cmp ks s k at d before lt) in ap is_lt (turned_is (get_or ks k d) x Less e)
      | inr more ↦ let same : k ≡ at = omega (arith, less, more) in ap (λ k. is_lt (cmp x (get_or ks k d))) same ∙ ap is_lt (turned_is (get_or ks at d) x Equal (holds d))
    ];
    behind = λ k d le less. let e : cmp x (get_or ks k d) ≡ Less = subst (λ y. cmp y (get_or ks k d) ≡ Less) (exact _ x (holds d)) (pair_less cmp ks s at k d (omega (arith, le)) less) in ap is_lt e;
  }

  pub point_missing : (ks : List K) → IsStrictlySortedBy cmp ks → (x : K) (at : ℕ) → at ≤ length ks → (IsNonDecreasingBy (λ y. ordering_index (cmp y x)) ks → IsPartitionPoint (λ y. cmp y x ≡ Less) (λ y. cmp y x ≡ Greater) ks at) → IsAfterPoint cmp (Some x) ks at
  point_missing ks s x at le point =
      let p = point (searchable ks s x) in
      record {
        within = le;
        before = λ k d less. ap is_lt (turned_is (get_or ks k d) x Less (p.0 k d (omega arith) less));
        behind = λ k d more less. ap is_lt (turned_is (get_or ks k d) x Greater (p.1 k d more less));
      }

  -- ---- what a list of rows has at a key
  pub value_found : (ks : List K) (vs : List ℕ) → length vs ≡ length ks → IsStrictlySortedBy cmp ks → (at : ℕ) (q : K) → at < length ks → get_or ks at q ≡ q → value_at cmp q (paired ks vs) ≡ Some (get_or vs at 0)
  unfolding IsStrictlySortedBy
  value_found [] vs e s at q lt is = absurd (omega (arith, lt))
  value_found (k ∷ ks) [] e s at q lt is = absurd (omega (arith, e))
  value_found (k ∷ ks) (v ∷ vs) e s zero q lt is = ap (λ o. cond (is_eq o) (Some v) (value_at cmp q (paired ks vs))) (ap (cmp q) is ∙ itself q)
  value_found (k ∷ ks) (v ∷ vs) e s (suc at) q lt is =
      let less : cmp k q ≡ Less = subst (λ y. cmp k y ≡ Less) is (all_at (λ y. cmp k y ≡ Less) ks s.0 at q (omega (arith, lt))) in
      ap (λ o. cond (is_eq o) (Some v) (value_at cmp q (paired ks vs))) (turned_is k q Less less) ∙ value_found ks vs (omega (arith, e)) s.1 at q (omega (arith, lt)) is

  pub value_missing : (ks : List K) (vs : List ℕ) (q : K) → ((k : ℕ) (d : K) → k < length ks → is_at (cmp q) (get_or ks k d) ≡ false) → value_at cmp q (paired ks vs) ≡ None
  value_missing [] vs q other = refl
  value_missing (k ∷ ks) [] q other = refl
  value_missing (k ∷ ks) (v ∷ vs) q other =
      ap (λ b. cond b (Some v) (value_at cmp q (paired ks vs))) (other 0 q (omega arith)) ∙ value_missing ks vs q (λ i d lt. other (suc i) d (omega (arith, lt)))

  pub missing_at : (ks : List K) → IsStrictlySortedBy cmp ks → (x : K) (at : ℕ) → (IsNonDecreasingBy (λ y. ordering_index (cmp y x)) ks → IsPartitionPoint (λ y. cmp y x ≡ Less) (λ y. cmp y x ≡ Greater) ks at) → (k : ℕ) (d : K) → k < length ks → is_at (cmp x) (get_or ks k d) ≡ false
  missing_at ks s x at point k d lt =
      let p = point (searchable ks s x) in
      elim (cases_lt k at) [
        | inl less ↦ ap is_eq (turned_is (get_or ks k d) x Less (p.0 k d (omega arith) less))
        | inr more ↦ ap is_eq (turned_is (get_or ks k d) x Greater (p.1 k d more lt))
      ]

  row_cases : (k : K) (v : ℕ) (ks : List K) (vs : List ℕ) (q : K) → (is_some (value_at cmp q (paired ks vs)) ≡ true → (i : ℕ) × (i < length ks) × (get_or ks i q ≡ q))
      → (b : Bool) → is_at (cmp q) k ≡ b → is_some (cond b (Some v) (value_at cmp q (paired ks vs))) ≡ true → (i : ℕ) × (i < suc (length ks)) × (get_or (k ∷ ks) i q ≡ q)
  row_cases k v ks vs q more true is h = (zero, omega arith, sym (tells_apart exact q k is))
  row_cases k v ks vs q more false is h = let r = more h in (suc r.0, (let l = r.1 in omega (arith, l)), r.2)

  pub has_row : (ks : List K) (vs : List ℕ) (q : K) → is_some (value_at cmp q (paired ks vs)) ≡ true → (i : ℕ) × (i < length ks) × (get_or ks i q ≡ q)
  has_row [] vs q h = absurd cc
  has_row (k ∷ ks) [] q h = absurd cc
  has_row (k ∷ ks) (v ∷ vs) q h = row_cases k v ks vs q (λ h. has_row ks vs q h) (is_at (cmp q) k) refl h

is_some_map : {X Y : Type 0} (f : X → Y) (o : Option X) → is_some (option_map f o) ≡ is_some o
is_some_map f None = refl
is_some_map f (Some x) = refl

module _ {K A : Type 0} (cmp : K → K → Ordering) (total : IsTotalOrder cmp) (exact : CmpEqualImpliesEq cmp) (packs : List (List A)) (ks : List K) (vs : List ℕ) (run : IsRun cmp packs ks vs) where
  pub has_rows : (q : K) → has_key cmp (rows packs ks vs) q ≡ is_some (value_at cmp q (paired ks vs))
  has_rows q = ap is_some (value-named cmp q packs (paired ks vs)) ∙ is_some_map (set_at packs) (value_at cmp q (paired ks vs))

  pub next_at : (place : Option K) (n : ℕ) (k : K) → IsAfterPoint cmp place ks n → n < length ks → k ≡ get_or ks n k → IsNext cmp place (has_key cmp (rows packs ks vs)) (Some k)
  next_at place n k p lt is = record {
    listed = has_rows k ∙ ap is_some (value_found cmp total exact ks vs run.even run.ordered n k lt (sym is));
    beyond = ap (is_after cmp place) is ∙ p.behind n k (omega arith) lt;
    least = λ q has beyond.
        let r = has_row cmp total exact ks vs q (sym (has_rows q) ∙ has) in
        elim (cases_lt r.0 n) [
          | inl before ↦ absurd (not_both (is_after cmp place q) beyond (ap (is_after cmp place) (sym r.2) ∙ p.before r.0 q before))
          | inr more ↦ elim (cases_eq r.0 n) [
            | inl same ↦ let e : q ≡ k = sym r.2 ∙ ap (λ i. get_or ks i q) same ∙ get_or_default ks n q k lt ∙ sym is in ap (λ y. is_lt (cmp y k)) e ∙ ap is_lt (itself cmp total exact k)
            | inr other ↦
                let l : cmp (get_or ks n q) (get_or ks r.0 q) ≡ Less = pair_less cmp ks run.ordered n r.0 q (omega (arith, more, other)) r.1 in
                let m : cmp k q ≡ Less = subst (λ y. cmp k y ≡ Less) r.2 (subst (λ y. cmp y (get_or ks r.0 q) ≡ Less) (get_or_default ks n q k lt ∙ sym is) l) in
                ap is_lt (turned_is cmp total exact k q Less m)
          ]
        ];
  }

  pub next_none : (place : Option K) (n : ℕ) → IsAfterPoint cmp place ks n → length ks ≤ n → IsNext cmp place (has_key cmp (rows packs ks vs)) None
  next_none place n p le q has =
      let r = has_row cmp total exact ks vs q (sym (has_rows q) ∙ has) in
      ap (is_after cmp place) (sym r.2) ∙ p.before r.0 q (let l = r.1 in omega (arith, l, le))

  pub found_row : (at : ℕ) (q : K) (v : ℕ) → at < length ks → HoldsAt (λ y. cmp y q ≡ Equal) ks at → v ≡ get_or vs at v → value_at cmp q (rows packs ks vs) ≡ Some (set_at packs v)
  found_row at q v lt holds is =
      value-named cmp q packs (paired ks vs) ∙ ap (option_map (set_at packs)) (value_found cmp total exact ks vs run.even run.ordered at q lt (exact (get_or ks at q) q (holds q)))
      ∙ ap (λ n. Some (set_at packs n)) (get_or_default vs at 0 v (let e = run.even in omega (arith, lt, e)) ∙ sym is)

  pub missing_row : (q : K) (at : ℕ) → (IsNonDecreasingBy (λ y. ordering_index (cmp y q)) ks → IsPartitionPoint (λ y. cmp y q ≡ Less) (λ y. cmp y q ≡ Greater) ks at) → value_at cmp q (rows packs ks vs) ≡ None
  missing_row q at point = value-named cmp q packs (paired ks vs) ∙ ap (option_map (set_at packs)) (value_missing cmp total exact ks vs q (missing_at cmp total exact ks run.ordered q at point))

-- ---- over runs
pub latest_step : {K A : Type 0} (cmp : K → K → Ordering) (q : K) (runs : List (List (K × Option A))) (last : List (K × Option A)) (n : ℕ) → n < length runs → last ≡ get_or runs n last → latest cmp q (take (n + 1) runs) ≡ or_else (value_at cmp q last) (latest cmp q (take n runs))
latest_step cmp q runs last n lt at = ap (latest cmp q) (take_more runs n last lt ∙ ap (λ x. take n runs ++ x ∷ []) (sym at)) ∙ latest-more cmp q (take n runs) last

pub latest_here : {K A : Type 0} (cmp : K → K → Ordering) (q : K) (runs : List (List (K × Option A))) (last : List (K × Option A)) (n : ℕ) (o : Option A) → 0 < n → n ≤ length runs → last ≡ get_or runs (n - 1) last
    → latest cmp q (take n runs) ≡ latest cmp q runs → Some o ≡ value_at cmp q last → Some o ≡ latest cmp q runs
latest_here cmp q runs last n o some le at rest is =
    let m : (n - 1) + 1 ≡ n = omega (arith, some) in
    ap (λ v. or_else v (latest cmp q (take (n - 1) runs))) is ∙ sym (latest_step cmp q runs last (n - 1) (omega (arith, some, le)) at) ∙ ap (λ n. latest cmp q (take n runs)) m ∙ rest

pub latest_on : {K A : Type 0} (cmp : K → K → Ordering) (q : K) (runs : List (List (K × Option A))) (last : List (K × Option A)) (n : ℕ) → 0 < n → n ≤ length runs → last ≡ get_or runs (n - 1) last
    → latest cmp q (take n runs) ≡ latest cmp q runs → None ≡ value_at cmp q last → latest cmp q (take (n - 1) runs) ≡ latest cmp q runs
latest_on cmp q runs last n some le at rest is =
    let m : (n - 1) + 1 ≡ n = omega (arith, some) in
    ap (λ v. or_else v (latest cmp q (take (n - 1) runs))) is ∙ sym (latest_step cmp q runs last (n - 1) (omega (arith, some, le)) at) ∙ ap (λ n. latest cmp q (take n runs)) m ∙ rest

pub some_or : {X : Type 0} (a b : Option X) → is_some (or_else a b) ≡ (is_some a || is_some b)
some_or None b = refl
some_or (Some x) b = refl

pub next_ext : {K : Type 0} (cmp : K → K → Ordering) (place : Option K) (P Q : K → Bool) (r : Option K) → ((q : K) → Q q ≡ P q) → IsNext cmp place P r → IsNext cmp place Q r
next_ext cmp place P Q None e n = λ q has. n q (sym (e q) ∙ has)
next_ext cmp place P Q (Some k) e n = record { listed = e k ∙ n.listed; beyond = n.beyond; least = λ q has. n.least q (sym (e q) ∙ has) }

either : (a b : Bool) → (a || b) ≡ true → (a ≡ true) ⊎ (b ≡ true)
either true b e = inl refl
either false b e = inr e

or_left : (a b : Bool) → a ≡ true → (a || b) ≡ true
or_left true b e = refl
or_left false b e = absurd cc

or_right : (a b : Bool) → b ≡ true → (a || b) ≡ true
or_right true b e = refl
or_right false b e = e

module _ {K : Type 0} (cmp : K → K → Ordering) (total : IsTotalOrder cmp) (exact : CmpEqualImpliesEq cmp) where
  -- not before the first and the first not before the second
  not_before : (q b a : K) → is_lt (cmp q b) ≡ false → is_lt (cmp a b) ≡ true → is_lt (cmp q a) ≡ false
  not_before q b a h l = elim (bools (is_lt (cmp q a))) [
    | inl less ↦ absurd (not_both (is_lt (cmp q b)) (ap is_lt (total.trans q a b (less_is _ less) (less_is _ l))) h)
    | inr more ↦ more
  ]

  pub next_both : (place : Option K) (P Q : K → Bool) (a b : Option K) → IsNext cmp place P a → IsNext cmp place Q b → IsNext cmp place (λ q. Q q || P q) (lesser_of cmp a b)
  next_both place P Q None None n m = λ q has. elim (either (Q q) (P q) has) [ inl h ↦ m q h | inr h ↦ n q h ]
  next_both place P Q None (Some b) n m = record {
    listed = or_left (Q b) (P b) m.listed;
    beyond = m.beyond;
    least = λ q has beyond. elim (either (Q q) (P q) has) [ inl h ↦ m.least q h beyond | inr h ↦ absurd (not_both (is_after cmp place q) beyond (n q h)) ];
  }
  next_both place P Q (Some a) None n m = record {
    listed = or_right (Q a) (P a) n.listed;
    beyond = n.beyond;
    least = λ q has beyond. elim (either (Q q) (P q) has) [ inl h ↦ absurd (not_both (is_after cmp place q) beyond (m q h)) | inr h ↦ n.least q h beyond ];
  }
  next_both place P Q (Some a) (Some b) n m = by_test (is_lt (cmp b a)) refl
    where
      by_test : (t : Bool) → is_lt (cmp b a) ≡ t → IsNext cmp place (λ q. Q q || P q) (if t then Some b else Some a)
      by_test true is = record {
        listed = or_left (Q b) (P b) m.listed;
        beyond = m.beyond;
        least = λ q has beyond. elim (either (Q q) (P q) has) [
          | inl h ↦ m.least q h beyond
          | inr h ↦ elim (bools (is_lt (cmp q b))) [
            | inl less ↦ absurd (not_both (is_lt (cmp q a)) (ap is_lt (total.trans q b a (less_is _ less) (less_is _ is))) (n.least q h beyond))
            | inr more ↦ more
          ]
        ];
      }
      by_test false is = record {
        listed = or_right (Q a) (P a) n.listed;
        beyond = n.beyond;
        least = λ q has beyond. elim (either (Q q) (P q) has) [
          | inl h ↦ elim (bools (is_lt (cmp q a))) [
            | inl less ↦ elim (bools (is_lt (cmp a b))) [
              | inl below ↦ absurd (not_both (is_lt (cmp q b)) (ap is_lt (total.trans q a b (less_is _ less) (less_is _ below))) (m.least q h beyond))
              | inr same ↦ absurd (not_both (is_lt (cmp q b)) (subst (λ y. is_lt (cmp q y) ≡ true) (tie cmp total exact a b same is) less) (m.least q h beyond))
            ]
            | inr more ↦ more
          ]
          | inr h ↦ n.least q h beyond
        ];
      }

seen_none : {A : Type 0} (o : Option (Option A)) → is_some o ≡ false → seen o ≡ None
seen_none None e = refl
seen_none (Some x) e = absurd cc

seen_has : {A : Type 0} (o : Option (Option A)) → is_some (seen o) ≡ true → is_some o ≡ true
seen_has None e = absurd cc
seen_has (Some x) e = refl

none_has : {A : Type 0} (o : Option A) → o ≡ None → is_some o ≡ true → ⊥
none_has o e h = not_both (is_some o) h (ap is_some e)

fewer_cases : {R : Type 0} (p r : R → Bool) (e : R) (es : List R) → (r e ≡ true → p e ≡ true) → length (filter r es) ≤ length (filter p es) → length (filter r (e ∷ es)) ≤ length (filter p (e ∷ es))
fewer_cases p r e es h rest = by_tests (p e) (r e) h
  where
    by_tests : (b c : Bool) → (c ≡ true → b ≡ true) → length (cond c (e ∷ filter r es) (filter r es)) ≤ length (cond b (e ∷ filter p es) (filter p es))
    by_tests true true h = omega (arith, rest)
    by_tests true false h = omega (arith, rest)
    by_tests false true h = absurd (false_true (h refl))
      where
        false_true : false ≡ true → ⊥
        false_true e = cc
    by_tests false false h = rest

no_more : {R : Type 0} (p r : R → Bool) (es : List R) → ((e : R) → r e ≡ true → p e ≡ true) → length (filter r es) ≤ length (filter p es)
no_more p r [] h = omega arith
no_more p r (e ∷ es) h = fewer_cases p r e es (h e) (no_more p r es h)

module _ {K X : Type 0} (cmp : K → K → Ordering) (exact : CmpEqualImpliesEq cmp) (p r : K → Bool) (key : K) (h : (q : K) → r q ≡ true → p q ≡ true) (pass : p key ≡ true) (fail : r key ≡ false) where
  here : (e : K × X) (es : List (K × X)) → key ≡ e.0 → length (filter (λ (e : K × X). r e.0) (e ∷ es)) < length (filter (λ (e : K × X). p e.0) (e ∷ es))
  here e es is =
      let a : p e.0 ≡ true = ap p (sym is) ∙ pass in
      let b : r e.0 ≡ false = ap r (sym is) ∙ fail in
      let n = no_more (λ (e : K × X). p e.0) (λ (e : K × X). r e.0) es (λ e. h e.0) in
      let s : length (cond (p e.0) (e ∷ filter (λ (e : K × X). p e.0) es) (filter (λ (e : K × X). p e.0) es)) ≡ suc (length (filter (λ (e : K × X). p e.0) es)) = ap (λ b. length (cond b (e ∷ filter (λ (e : K × X). p e.0) es) (filter (λ (e : K × X). p e.0) es))) a in
      let t : length (cond (r e.0) (e ∷ filter (λ (e : K × X). r e.0) es) (filter (λ (e : K × X). r e.0) es)) ≡ length (filter (λ (e : K × X). r e.0) es) = ap (λ b. length (cond b (e ∷ filter (λ (e : K × X). r e.0) es) (filter (λ (e : K × X). r e.0) es))) b in
      omega (arith, n, s, t)

  there : (b c : Bool) → (c ≡ true → b ≡ true) → (e : K × X) (xs ys : List (K × X)) → length xs < length ys → length (cond c (e ∷ xs) xs) < length (cond b (e ∷ ys) ys)
  there true true i e xs ys l = omega (arith, l)
  there true false i e xs ys l = omega (arith, l)
  there false true i e xs ys l = let f : false ≡ true = i refl in absurd cc
  there false false i e xs ys l = l

  fewer_at : (t : Bool) (e : K × X) (es : List (K × X)) → is_at (cmp key) e.0 ≡ t → is_some (cond t (Some e.1) (value_at cmp key es)) ≡ true → (is_some (value_at cmp key es) ≡ true → length (filter (λ (e : K × X). r e.0) es) < length (filter (λ (e : K × X). p e.0) es))
      → length (filter (λ (e : K × X). r e.0) (e ∷ es)) < length (filter (λ (e : K × X). p e.0) (e ∷ es))
  fewer_at true e es is has more = here e es (tells_apart exact key e.0 is)
  fewer_at false e es is has more = there (p e.0) (r e.0) (h e.0) e _ _ (more has)

  pub fewer : (es : List (K × X)) → is_some (value_at cmp key es) ≡ true → length (filter (λ (e : K × X). r e.0) es) < length (filter (λ (e : K × X). p e.0) es)
  fewer [] has = absurd cc
  fewer (e ∷ es) has = fewer_at (is_at (cmp key) e.0) e es refl has (λ has. fewer es has)

pub after_trans : {K : Type 0} (cmp : K → K → Ordering) (total : IsTotalOrder cmp) (at : Option K) (k q : K) → is_after cmp at k ≡ true → is_lt (cmp k q) ≡ true → is_after cmp at q ≡ true
after_trans cmp total None k q a l = refl
after_trans cmp total (Some p) k q a l = ap is_lt (total.trans p k q (less_is _ a) (less_is _ l))

module _ {K A : Type 0} (cmp : K → K → Ordering) (total : IsTotalOrder cmp) (exact : CmpEqualImpliesEq cmp) (value : K → Option (Option A)) (place : Option K) where
  pub passed_none : IsPassed cmp value place place
  passed_none = record { passed = λ q a b. absurd (not_both (is_after cmp place q) a b); further = λ q a. a }

  module _ (at : Option K) (s : IsPassed cmp value place at) where
    pub none_first : IsNext cmp at (λ q. is_some (value q)) None → (q : K) → is_after cmp place q ≡ true → seen (value q) ≡ None
    none_first n q beyond = elim (bools (is_after cmp at q)) [
      | inl after ↦ elim (bools (is_some (value q))) [
        | inl has ↦ absurd (not_both (is_after cmp at q) after (n q has))
        | inr lacks ↦ seen_none (value q) lacks
      ]
      | inr before ↦ s.passed q beyond before
    ]

    pub first_at : (k : K) (x : A) → IsNextKey cmp at (λ q. is_some (value q)) k → seen (value k) ≡ Some x → IsFirstPair cmp (is_after cmp place) (λ q. seen (value q)) (k, x)
    first_at k x n there = record {
      there = there;
      beyond = s.further k n.beyond;
      first = λ q beyond has. elim (bools (is_after cmp at q)) [
        | inl after ↦ n.least q (seen_has (value q) has) after
        | inr before ↦ absurd (none_has (seen (value q)) (s.passed q beyond before) has)
      ];
    }

    pub passed_more : (k : K) → IsNextKey cmp at (λ q. is_some (value q)) k → seen (value k) ≡ None → IsPassed cmp value place (Some k)
    passed_more k n gone = record {
      passed = λ q beyond before. elim (bools (is_after cmp at q)) [
        | inl after ↦ elim (bools (is_some (value q))) [
          | inl has ↦ let same : q ≡ k = tie cmp total exact q k (n.least q has after) before in ap (λ q. seen (value q)) same ∙ gone
          | inr lacks ↦ seen_none (value q) lacks
        ]
        | inr early ↦ s.passed q beyond early
      ];
      further = λ q after. s.further q (after_trans cmp total at k q n.beyond after);
    }

-- fewer keys are left, in this order or in another one
pub fewer_left : {K A : Type 0} (cmp : K → K → Ordering) (exact : CmpEqualImpliesEq cmp) (ord : K → K → Ordering) (total : IsTotalOrder ord) (one : CmpEqualImpliesEq ord) (runs : List (List (K × Option A))) (at : Option K) (k : K)
    → IsNextKey ord at (has_latest cmp runs) k → length (filter (λ (e : K × Option A). is_after ord (Some k) e.0) (joined runs)) < length (filter (λ (e : K × Option A). is_after ord at e.0) (joined runs))
fewer_left cmp exact ord total one runs at k n = fewer cmp exact (is_after ord at) (is_after ord (Some k)) k (λ q after. after_trans ord total at k q n.beyond after) n.beyond (ap is_lt (itself ord total one k)) (joined runs)
    (ap is_some (value-joined cmp k runs) ∙ n.listed)

pub first_ext : {K A : Type 0} (cmp : K → K → Ordering) (test : K → Bool) (v w : K → Option A) (r : Option (K × A)) → ((q : K) → w q ≡ v q) → IsFirst cmp test v r → IsFirst cmp test w r
first_ext cmp test v w None e f = λ q beyond. e q ∙ f q beyond
first_ext cmp test v w (Some x) e f = record { there = e x.0 ∙ f.there; beyond = f.beyond; first = λ q beyond has. f.first q beyond (ap is_some (sym (e q)) ∙ has) }

-- ---- the order turned round
pub turned_total : {K : Type 0} (cmp : K → K → Ordering) → IsTotalOrder cmp → CmpEqualImpliesEq cmp → IsTotalOrder (turned cmp)
turned_total cmp total exact = record {
  antisymm = λ x y. total.antisymm y x;
  trans = λ x y z a b. total.trans z y x b a;
  congr = λ x y z e. ap (cmp z) (sym (exact y x e));
}

pub turned_exact : {K : Type 0} (cmp : K → K → Ordering) → CmpEqualImpliesEq cmp → CmpEqualImpliesEq (turned cmp)
turned_exact cmp exact x y e = sym (exact y x e)

-- ---- where the keys before a place end
module _ {K : Type 0} (cmp : K → K → Ordering) (total : IsTotalOrder cmp) (exact : CmpEqualImpliesEq cmp) where
  pub before_none : (ks : List K) → IsBeforePoint cmp None ks (length ks)
  before_none ks = record { within = omega arith; before = λ k d lt. refl; behind = λ k d le lt. absurd (omega (arith, le, lt)) }

  pub before_found : (ks : List K) → IsStrictlySortedBy cmp ks → (x : K) (at : ℕ) → at < length ks → HoldsAt (λ y. cmp y x ≡ Equal) ks at → IsBeforePoint cmp (Some x) ks at
  before_found ks s x at lt holds = record {
    within = omega (arith, lt);
    before = λ k d less. let e : cmp (get_or ks k d) x ≡ Less = subst (λ y. cmp (get_or ks k d) y ≡ Less) (exact _ x (holds d)) (pair_less cmp ks s k at d less lt) in ap is_lt e;
    behind = λ k d more less. elim (cases_eq k at) [
      | inl same ↦ ap (λ k. is_lt (cmp (get_or ks k d) x)) same ∙ ap is_lt (holds d)
      | inr other ↦ let e : cmp x (get_or ks k d) ≡ Less = subst (λ y. cmp y (get_or ks k d) ≡ Less) (exact _ x (holds d)) (pair_less cmp ks s at k d (omega (arith, more, other)) less) in ap is_lt (turned_is cmp total exact x (get_or ks k d) Less e)
    ];
  }

  pub before_missing : (ks : List K) → IsStrictlySortedBy cmp ks → (x : K) (at : ℕ) → at ≤ length ks → (IsNonDecreasingBy (λ y. ordering_index (cmp y x)) ks → IsPartitionPoint (λ y. cmp y x ≡ Less) (λ y. cmp y x ≡ Greater) ks at) → IsBeforePoint cmp (Some x) ks at
  before_missing ks s x at le point =
      let p = point (searchable cmp total exact ks s x) in
      record {
        within = le;
        before = λ k d less. ap is_lt (p.0 k d (omega arith) less);
        behind = λ k d more less. ap is_lt (p.1 k d more less);
      }

module _ {K A : Type 0} (cmp : K → K → Ordering) (total : IsTotalOrder cmp) (exact : CmpEqualImpliesEq cmp) (packs : List (List A)) (ks : List K) (vs : List ℕ) (run : IsRun cmp packs ks vs) where
  pub last_at : (place : Option K) (n : ℕ) (k : K) → IsBeforePoint cmp place ks n → 0 < n → k ≡ get_or ks (n - 1) k → IsNext (turned cmp) place (has_key cmp (rows packs ks vs)) (Some k)
  last_at place n k p some is =
      let lt : n - 1 < length ks = (let w = p.within in omega (arith, w, some)) in
      record {
        listed = has_rows cmp total exact packs ks vs run k ∙ ap is_some (value_found cmp total exact ks vs run.even run.ordered (n - 1) k lt (sym is));
        beyond = ap (is_after (turned cmp) place) is ∙ p.before (n - 1) k (omega (arith, some));
        least = λ q has beyond.
            let r = has_row cmp total exact ks vs q (sym (has_rows cmp total exact packs ks vs run q) ∙ has) in
            elim (cases_lt r.0 n) [
              | inr more ↦ absurd (not_both (is_after (turned cmp) place q) beyond (ap (is_after (turned cmp) place) (sym r.2) ∙ p.behind r.0 q more r.1))
              | inl before ↦ elim (cases_eq r.0 (n - 1)) [
                | inl same ↦ let e : q ≡ k = sym r.2 ∙ ap (λ i. get_or ks i q) same ∙ get_or_default ks (n - 1) q k lt ∙ sym is in ap (λ y. is_lt (cmp k y)) e ∙ ap is_lt (itself cmp total exact k)
                | inr other ↦
                    let l : cmp (get_or ks r.0 q) (get_or ks (n - 1) q) ≡ Less = pair_less cmp ks run.ordered r.0 (n - 1) q (omega (arith, before, other)) lt in
                    let m : cmp q k ≡ Less = subst (λ y. cmp y k ≡ Less) r.2 (subst (λ y. cmp (get_or ks r.0 q) y ≡ Less) (get_or_default ks (n - 1) q k lt ∙ sym is) l) in
                    ap is_lt (turned_is cmp total exact q k Less m)
              ]
            ];
      }

  pub last_none : (place : Option K) (n : ℕ) → IsBeforePoint cmp place ks n → n ≡ 0 → IsNext (turned cmp) place (has_key cmp (rows packs ks vs)) None
  last_none place n p none q has =
      let r = has_row cmp total exact ks vs q (sym (has_rows cmp total exact packs ks vs run q) ∙ has) in
      ap (is_after (turned cmp) place) (sym r.2) ∙ p.behind r.0 q (omega (arith, none)) r.1
