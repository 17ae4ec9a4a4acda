-- What the live pairs of a list of runs have at a key.
use Rattle.std.proofs.Common.{◌≡◌, ℕ, ◌+◌, ◌<◌, Bool, true, false, cond, List, [], ◌∷◌, ◌++◌, length, map, Option, None, Some, refl, ap, sym, ◌∙◌, get_or, take, nat_eq, ◌-◌, zero, suc, set, arith}
use Rattle.std.proofs.lemmas.List.{take_more}
use Rattle.std.proofs.lemmas.Bool.Decides.{nat_tests}
use Rattle.std.specs.declared.cmp.Ordering.{Ordering}
use Rattle.std.specs.declared.cmp.Ordering.TheVariants.{Less}
use Rattle.std.specs.Ordering.{eq_by_cmp}
use Rattle.std.specs.Cmp.{IsTotalOrder}
use Rattle.std.specs.BTreeMap.{is_at}
use Rattle.std.proofs.lemmas.Map.Lookups.{CmpEqualImpliesEq}
use Rattle.bmp_specs.proofs.SortedPairs.{sorted-insert, lookup-insert}
use Rattle.route_runs.specs.Override.{value_at, or_else, settled, IsOverride}
use Rattle.route_runs.specs.Runs.{joined, in_order, add_live, live, contents, changed, IsChanged, latest, seen, IsSettled}
use Rattle.route_runs.specs.Layers.{AreChangedTo, IsLayered}
use Rattle.route_runs.specs.Message.{IsAllSet}
use Rattle.std.specs.List.Sorted.{IsStrictlySortedBy}
use Rattle.std.specs.Map.{keys_of}
use Rattle.route_runs.proofs.Merging.{Below, Rising, rising_head, rising_tail, rising_cons, rising_nil, none_below}

pub or_assoc : {X : Type 0} (a b c : Option X) → or_else (or_else a b) c ≡ or_else a (or_else b c)
or_assoc None b c = refl
or_assoc (Some x) b c = refl

or_cases : {X : Type 0} (b : Bool) (v : X) (r s t : Option X) → s ≡ or_else r t → cond b (Some v) s ≡ or_else (cond b (Some v) r) t
or_cases true v r s t e = refl
or_cases false v r s t e = e

pub value-append : {K X : Type 0} (cmp : K → K → Ordering) (q : K) (es fs : List (K × X)) → value_at cmp q (es ++ fs) ≡ or_else (value_at cmp q es) (value_at cmp q fs)
value-append cmp q [] fs = refl
value-append cmp q (e ∷ es) fs = or_cases (is_at (cmp q) e.0) e.1 (value_at cmp q es) (value_at cmp q (es ++ fs)) (value_at cmp q fs) (value-append cmp q es fs)

pub value-joined : {K A : Type 0} (cmp : K → K → Ordering) (q : K) (runs : List (List (K × Option A))) → value_at cmp q (joined runs) ≡ latest cmp q runs
value-joined cmp q [] = refl
value-joined cmp q (run ∷ runs) = value-append cmp q (joined runs) run ∙ ap (λ o. or_else o (value_at cmp q run)) (value-joined cmp q runs)

-- a run after others
pub latest-more : {K A : Type 0} (cmp : K → K → Ordering) (q : K) (runs : List (List (K × Option A))) (run : List (K × Option A)) → latest cmp q (runs ++ run ∷ []) ≡ or_else (value_at cmp q run) (latest cmp q runs)
latest-more {A = A} cmp q [] run = sym (or_nothing (value_at cmp q run))
  where
    or_nothing : (a : Option (Option A)) → or_else a None ≡ a
    or_nothing None = refl
    or_nothing (Some x) = refl
latest-more cmp q (first ∷ runs) run = ap (λ o. or_else o (value_at cmp q first)) (latest-more cmp q runs run) ∙ or_assoc (value_at cmp q run) (latest cmp q runs) (value_at cmp q first)

module _ {K X : Type 0} (cmp : K → K → Ordering) (total : IsTotalOrder cmp) where
  pub rising-in_order : (es : List (K × X)) → Rising cmp (in_order cmp es)
  rising-in_order [] = rising_nil X cmp
  rising-in_order (e ∷ es) = sorted-insert cmp total (in_order cmp es) e.0 e.1 (rising-in_order es)

  pub value-in_order : (q : K) (es : List (K × X)) → value_at cmp q (in_order cmp es) ≡ value_at cmp q es
  value-in_order q [] = refl
  value-in_order q (e ∷ es) = lookup-insert cmp total q e.0 e.1 (in_order cmp es) ∙ ap (cond (eq_by_cmp cmp q e.0) (Some e.1)) (value-in_order q es)

below_add : {K A : Type 0} (cmp : K → K → Ordering) (x k : K) (o : Option A) (es : List (K × A)) → cmp x k ≡ Less → Below cmp x es → Below cmp x (add_live k o es)
below_add cmp x k None es less b = b
below_add cmp x k (Some v) es less b = (less, b)

below-live : {K A : Type 0} (cmp : K → K → Ordering) (x : K) (es : List (K × Option A)) → Below cmp x es → Below cmp x (live es)
below-live cmp x [] b = tt
below-live cmp x (e ∷ es) b = below_add cmp x e.0 e.1 (live es) b.0 (below-live cmp x es b.1)

rising_add : {K A : Type 0} (cmp : K → K → Ordering) (k : K) (o : Option A) (es : List (K × A)) → Below cmp k es → Rising cmp es → Rising cmp (add_live k o es)
rising_add cmp k None es b s = s
rising_add cmp k (Some v) es b s = rising_cons cmp (k, v) es b s

pub rising-live : {K A : Type 0} (cmp : K → K → Ordering) (es : List (K × Option A)) → Rising cmp es → Rising cmp (live es)
rising-live {A = A} cmp [] s = rising_nil A cmp
rising-live cmp (e ∷ es) s = rising_add cmp e.0 e.1 (live es) (below-live cmp e.0 es (rising_head cmp e es s)) (rising-live cmp es (rising_tail cmp e es s))

module _ {K A : Type 0} (cmp : K → K → Ordering) (total : IsTotalOrder cmp) (exact : CmpEqualImpliesEq cmp) where
  add_cases : (q k : K) (at : Bool) (o : Option A) (es : List (K × A)) (s : Option (Option A)) → is_at (cmp q) k ≡ at → value_at cmp q es ≡ seen s → (at ≡ true → s ≡ None) → value_at cmp q (add_live k o es) ≡ seen (cond at (Some o) s)
  add_cases q k true None es s is rest none = rest ∙ ap seen (none refl)
  add_cases q k false None es s is rest none = rest
  add_cases q k true (Some x) es s is rest none = ap (λ b. cond b (Some x) (value_at cmp q es)) is
  add_cases q k false (Some x) es s is rest none = ap (λ b. cond b (Some x) (value_at cmp q es)) is ∙ rest

  pub value-live : (q : K) (es : List (K × Option A)) → Rising cmp es → value_at cmp q (live es) ≡ seen (value_at cmp q es)
  value-live q [] s = refl
  value-live q (e ∷ es) s = add_cases q e.0 (is_at (cmp q) e.0) e.1 (live es) (value_at cmp q es) refl (value-live q es (rising_tail cmp e es s)) (λ at. none_below cmp total exact q e.0 es at (rising_head cmp e es s))

  pub value-contents : (q : K) (runs : List (List (K × Option A))) → value_at cmp q (contents cmp runs) ≡ seen (latest cmp q runs)
  value-contents q runs = value-live q (in_order cmp (joined runs)) (rising-in_order cmp total (joined runs)) ∙ ap seen (value-in_order cmp total q (joined runs) ∙ value-joined cmp q runs)

  pub rising-contents : (runs : List (List (K × Option A))) → Rising cmp (contents cmp runs)
  rising-contents runs = rising-live cmp (in_order cmp (joined runs)) (rising-in_order cmp total (joined runs))

-- one more merge
pub merge_cases : {A : Type 0} (bottom : Bool) (r l t : Option (Option A)) → (bottom ≡ true → t ≡ None) → seen (or_else (settled bottom (or_else r l)) t) ≡ seen (or_else r (or_else l t))
merge_cases {A = A} true r l t none = at_bottom r l ∙ ap (λ t. seen (or_else r (or_else l t))) (sym (none refl)) ∙ refl
  where
    at_bottom : (r l : Option (Option A)) → seen (or_else (settled true (or_else r l)) t) ≡ seen (or_else r (or_else l None))
    at_bottom None None = ap seen (none refl)
    at_bottom None (Some None) = ap seen (none refl)
    at_bottom None (Some (Some x)) = refl
    at_bottom (Some None) l = ap seen (none refl)
    at_bottom (Some (Some x)) l = refl
merge_cases false None None t none = refl
merge_cases false None (Some None) t none = refl
merge_cases false None (Some (Some x)) t none = refl
merge_cases false (Some None) l t none = refl
merge_cases false (Some (Some x)) l t none = refl

seen_or : {A : Type 0} (o p : Option (Option A)) → seen (or_else o p) ≡ changed o (seen p)
seen_or None p = refl
seen_or (Some x) p = refl

module _ {K A : Type 0} (cmp : K → K → Ordering) (total : IsTotalOrder cmp) (exact : CmpEqualImpliesEq cmp) where
  -- runs that a reader can't tell from a run after others
  pub is_changed : (runs new : List (List (K × Option A))) (run : List (K × Option A)) → ((q : K) → seen (latest cmp q new) ≡ seen (or_else (value_at cmp q run) (latest cmp q runs))) → IsChanged cmp (contents cmp runs) run (contents cmp new)
  is_changed runs new run same = record {
    ordered = rising-contents cmp total exact new;
    values = λ q. value-contents cmp total exact q new ∙ same q ∙ seen_or (value_at cmp q run) (latest cmp q runs) ∙ ap (changed (value_at cmp q run)) (sym (value-contents cmp total exact q runs));
  }

  -- one more run merged
  pub settle_more : (runs : List (List (K × Option A))) (run own own' last : List (K × Option A)) (kept : ℕ) (bottom : Bool) → IsSettled cmp runs run own kept → 0 < kept → last ≡ get_or runs (kept - 1) last
      → IsOverride cmp bottom last own own' → bottom ≡ nat_eq kept 1 → IsSettled cmp runs run own' (kept - 1)
  settle_more runs run own own' last kept bottom s some at o b =
      let n : (kept - 1) + 1 ≡ kept = omega (arith, some) in
      let front : take kept runs ≡ take (kept - 1) runs ++ last ∷ [] = ap (λ n. take n runs) (sym n) ∙ take_more runs (kept - 1) last (omega (arith, s.within, some)) ∙ ap (λ x. take (kept - 1) runs ++ x ∷ []) (sym at) in
      record {
        within = omega (arith, s.within);
        same = λ q.
            ap (λ v. seen (or_else v (latest cmp q (take (kept - 1) runs)))) (o.values q)
            ∙ merge_cases bottom (value_at cmp q own) (value_at cmp q last) (latest cmp q (take (kept - 1) runs)) (λ t. let one : kept ≡ 1 = grind (arith, nat_tests, t, b) in ap (λ n. latest cmp q (take (n - 1) runs)) one)
            ∙ ap (λ v. seen (or_else (value_at cmp q own) v)) (sym (latest-more cmp q (take (kept - 1) runs) last) ∙ ap (latest cmp q) (sym front))
            ∙ s.same q;
      }

  pub pushed : (runs new : List (List (K × Option A))) (run own : List (K × Option A)) (kept : ℕ) → IsSettled cmp runs run own kept → new ≡ take kept runs ++ own ∷ [] → IsChanged cmp (contents cmp runs) run (contents cmp new)
  pushed runs new run own kept s e = is_changed runs new run (λ q. ap (λ l. seen (latest cmp q l)) e ∙ ap seen (latest-more cmp q (take kept runs) own) ∙ s.same q)

pub at_mapped : {X Y : Type 0} (f : X → Y) (xs : List X) (i : ℕ) (x : X) → get_or (map f xs) i (f x) ≡ f (get_or xs i x)
at_mapped f [] i x = refl
at_mapped f (y ∷ xs) zero x = refl
at_mapped f (y ∷ xs) (suc i) x = at_mapped f xs i x

pub map_replaced : {X Y : Type 0} (f : X → Y) (xs : List X) (k : ℕ) (y : X) → k < length xs → map f (take (suc k) (set xs k y)) ≡ take k (map f xs) ++ f y ∷ []
map_replaced f [] k y lt = absurd (omega (arith, lt))
map_replaced f (x ∷ xs) zero y lt = refl
map_replaced f (x ∷ xs) (suc k) y lt = ap (λ l. f x ∷ l) (map_replaced f xs k y (omega (arith, lt)))

-- ---- changes of a table
module _ {K A : Type 0} (cmp : K → K → Ordering) where
  pub changed_by : (old new : List (K × A)) (run changes : List (K × Option A)) → ((q : K) → value_at cmp q run ≡ value_at cmp q changes) → IsChanged cmp old run new → IsChanged cmp old changes new
  changed_by old new run changes same c = record { ordered = c.ordered; values = λ q. c.values q ∙ ap (λ o. changed o (value_at cmp q old)) (same q) }

  pub changed_by_none : (old : List (K × A)) (changes : List (K × Option A)) → IsStrictlySortedBy cmp (keys_of old) → ((q : K) → None ≡ value_at cmp q changes) → IsChanged cmp old changes old
  changed_by_none old changes ordered none = record { ordered = ordered; values = λ q. ap (λ o. changed o (value_at cmp q old)) (none q) }

  pub all_changed : (keys : List K) (to : Option A) (old run new : List (K × Option A)) → IsAllSet cmp keys to run → IsLayered cmp old run new → AreChangedTo cmp keys to old new
  all_changed keys to old run new all l = record {
    ordered = l.ordered;
    these = λ q has. l.values q ∙ ap (λ o. or_else o (value_at cmp q old)) (all.set_there q has);
    others = λ q lacks. l.values q ∙ ap (λ o. or_else o (value_at cmp q old)) (all.no_other q lacks);
  }
