-- A walk over the rows that pass a test, by a row of each run.
use Rattle.std.proofs.Common.{◌≡◌, ℕ, zero, suc, ◌<◌, inl, inr, Bool, true, false, cond, if◌then◌else◌, List, [], ◌∷◌, ◌++◌, length, get_or, take, drop, set, Option, None, Some, refl, ap, sym, ◌∙◌, subst, arith}
use Rattle.std.specs.declared.cmp.Ordering.{Ordering}
use Rattle.std.specs.declared.cmp.Ordering.TheVariants.{Less}
use Rattle.std.specs.BTreeMap.{is_at}
use Rattle.std.specs.Cmp.{IsTotalOrder}
use Rattle.std.specs.List.{AllByRecursion}
use Rattle.std.specs.Option.{is_some, option_map}
use Rattle.std.specs.Ordering.{is_lt, is_eq}
use Rattle.std.proofs.lemmas.List.{length-append}
use Rattle.std.proofs.lemmas.Map.Lookups.{CmpEqualImpliesEq}
use Rattle.std.proofs.lemmas.Map.Views.{tells_apart}
use Rattle.route_runs.specs.Override.{value_at, or_else}
use Rattle.route_runs.specs.Places.{is_after, IsFirstPair}
use Rattle.route_runs.specs.Runs.{latest, seen}
use Rattle.route_runs.specs.Sift.{front, passing, rows_left, sifted, AreEnded, AreNotBefore, AreSpots, Fails, IfFront, IsLeastFrom, IsOnward, IsSplit, IsSpot, Passes}
use Rattle.route_runs.proofs.Contents.{value-append}
use Rattle.route_runs.proofs.Merging.{Below, Rising, none_below, rising_head, rising_tail, rising-filter}
use Rattle.route_runs.proofs.Origins.{with_cases}
use Rattle.route_runs.proofs.Searching.{after_trans, bools, itself, less_is, not_both, tie, turned_is}

-- ---- lists
pub append_assoc : {X : Type 0} (xs ys zs : List X) → (xs ++ ys) ++ zs ≡ xs ++ (ys ++ zs)
append_assoc [] ys zs = refl
append_assoc (x ∷ xs) ys zs = ap (λ l. x ∷ l) (append_assoc xs ys zs)

pub take_drop : {X : Type 0} (n : ℕ) (xs : List X) → take n xs ++ drop n xs ≡ xs
take_drop zero xs = refl
take_drop (suc n) [] = refl
take_drop (suc n) (x ∷ xs) = ap (λ l. x ∷ l) (take_drop n xs)

-- a row that is left first
pub drop_next : {X : Type 0} (n : ℕ) (xs : List X) (e : X) (es : List X) → drop n xs ≡ e ∷ es → drop (suc n) xs ≡ es
drop_next zero [] e es is = absurd cc
drop_next zero (x ∷ xs) e es is = cc
drop_next (suc n) [] e es is = absurd cc
drop_next (suc n) (x ∷ xs) e es is = drop_next n xs e es is

pub take_next : {X : Type 0} (n : ℕ) (xs : List X) (e : X) (es : List X) → drop n xs ≡ e ∷ es → take (suc n) xs ≡ take n xs ++ e ∷ []
take_next zero [] e es is = absurd cc
take_next zero (x ∷ xs) e es is = let same : x ≡ e = cc in ap (λ y. y ∷ []) same
take_next (suc n) [] e es is = absurd cc
take_next (suc n) (x ∷ xs) e es is = ap (λ l. x ∷ l) (take_next n xs e es is)

pub front_is : {X Y : Type 0} (f : X → Y) (xs : List X) (y : Y) → option_map f (front xs) ≡ Some y → (e : X) × (es : List X) × (xs ≡ e ∷ es) × (f e ≡ y)
front_is f [] y is = absurd cc
front_is f (x ∷ xs) y is = (x, xs, refl, (let same : f x ≡ y = cc in same))

-- ---- what passes
some_right : {X : Type 0} (a b : Option X) → is_some b ≡ true → is_some (or_else a b) ≡ true
some_right None b h = h
some_right (Some x) b h = refl

some_left : {X : Type 0} (a b : Option X) → is_some a ≡ true → is_some (or_else a b) ≡ true
some_left None b h = absurd cc
some_left (Some x) b h = refl

some_behind : {X : Type 0} (c : Bool) (v : X) (o : Option X) → is_some o ≡ true → is_some (cond c (Some v) o) ≡ true
some_behind true v o h = refl
some_behind false v o h = h

none_of : {X : Type 0} (o : Option X) → is_some o ≡ false → o ≡ None
none_of None h = refl
none_of (Some x) h = absurd cc

none_first : {X : Type 0} (a b : Option X) → or_else a b ≡ None → a ≡ None
none_first None b e = refl
none_first (Some x) b e = absurd cc

none_second : {X : Type 0} (a b : Option X) → or_else a b ≡ None → b ≡ None
none_second None b e = e
none_second (Some x) b e = absurd cc

some_not_none : {X : Type 0} (o : Option X) → is_some o ≡ true → o ≡ None → ⊥
some_not_none o h e = not_both (is_some o) h (ap is_some e)

module _ {K A : Type 0} (cmp : K → K → Ordering) (total : IsTotalOrder cmp) (exact : CmpEqualImpliesEq cmp) (test : A → Bool) where
  of_cons : (at : Bool) (x : A) (o : Option A) → passing test (cond at (Some x) o) ≡ cond at (if test x then Some x else None) (passing test o)
  of_cons true x o = refl
  of_cons false x o = refl

  at_cons : (q : K) (e : K × A) (es : List (K × A)) (b : Bool) → value_at cmp q (cond b (e ∷ es) es) ≡ cond b (cond (is_at (cmp q) e.0) (Some e.1) (value_at cmp q es)) (value_at cmp q es)
  at_cons q e es true = refl
  at_cons q e es false = refl

  pub value_sifted : (q : K) (es : List (K × A)) → Rising cmp es → value_at cmp q (sifted test es) ≡ passing test (value_at cmp q es)
  value_sifted q [] s = refl
  value_sifted q (e ∷ es) s =
      let rest = value_sifted q es (rising_tail cmp e es s) in
      at_cons q e (sifted test es) (test e.1)
      ∙ with_cases (is_at (cmp q) e.0) (test e.1) e.1 (value_at cmp q (sifted test es)) (if test e.1 then Some e.1 else None) refl
      (λ at. rest ∙ ap (passing test) (none_below cmp total exact q e.0 es at (rising_head cmp e es s)))
      ∙ ap (cond (is_at (cmp q) e.0) (if test e.1 then Some e.1 else None)) rest
      ∙ sym (of_cons (is_at (cmp q) e.0) e.1 (value_at cmp q es))

  pub rising_sifted : (es : List (K × A)) → Rising cmp es → Rising cmp (sifted test es)
  rising_sifted es s = rising-filter cmp (λ (e : K × A). test e.1) es s

  both_fail : (o : Option A) → Passes test o → Fails test o → ⊥
  both_fail o p f = some_not_none (passing test o) p f

  -- ---- rows in order
  listed_below : (q x : K) (es : List (K × Option A)) → is_some (value_at cmp q es) ≡ true → Below cmp x es → cmp x q ≡ Less
  listed_below q x [] has b = absurd cc
  listed_below q x (e ∷ es) has b = elim (bools (is_at (cmp q) e.0)) [
    | inl at ↦ subst (λ y. cmp x y ≡ Less) (sym (tells_apart exact q e.0 at)) b.0
    | inr apart ↦ listed_below q x es (sym (ap (λ c. is_some (cond c (Some e.1) (value_at cmp q es))) apart) ∙ has) b.1
  ]

  front_least : (q p : K) (rest : List (K × Option A)) → Rising cmp rest → IfFront (λ (e : K × Option A). is_lt (cmp e.0 q) ≡ false) rest → is_some (value_at cmp p rest) ≡ true → is_lt (cmp p q) ≡ false
  front_least q p [] s h has = absurd cc
  front_least q p (e ∷ es) s h has = elim (bools (is_at (cmp p) e.0)) [
    | inl at ↦ ap (λ y. is_lt (cmp y q)) (tells_apart exact p e.0 at) ∙ h
    | inr apart ↦
        let less : cmp e.0 p ≡ Less = listed_below p e.0 es (sym (ap (λ c. is_some (cond c (Some e.1) (value_at cmp p es))) apart) ∙ has) (rising_head cmp e es s) in
        elim (bools (is_lt (cmp p q))) [
          | inl l ↦ absurd (not_both (is_lt (cmp e.0 q)) (ap is_lt (total.trans e.0 p q less (less_is _ l))) h)
          | inr m ↦ m
        ]
  ]

  rising_back : (xs ys : List (K × Option A)) → Rising cmp (xs ++ ys) → Rising cmp ys
  rising_back [] ys s = s
  rising_back (x ∷ xs) ys s = rising_back xs ys (rising_tail cmp x (xs ++ ys) s)

  -- what a run has at the key of one of its rows
  value_front : (passed : List (K × Option A)) (e : K × Option A) (rest : List (K × Option A)) → Rising cmp (passed ++ e ∷ rest) → value_at cmp e.0 (passed ++ e ∷ rest) ≡ Some e.1
  value_front [] e rest s = ap (λ o. cond (is_eq o) (Some e.1) (value_at cmp e.0 rest)) (itself cmp total exact e.0)
  value_front (d ∷ passed) e rest s =
      let on = value_front passed e rest (rising_tail cmp d (passed ++ e ∷ rest) s) in
      let less : cmp d.0 e.0 ≡ Less = listed_below e.0 d.0 (passed ++ e ∷ rest) (ap is_some on) (rising_head cmp d (passed ++ e ∷ rest) s) in
      ap (λ o. cond (is_eq o) (Some d.1) (value_at cmp e.0 (passed ++ e ∷ rest))) (turned_is cmp total exact d.0 e.0 Less less) ∙ on

  cond_fail : (c : Bool) (o : Option A) (v : Option (Option A)) → Fails test o → Fails test (seen v) → Fails test (seen (cond c (Some o) v))
  cond_fail true o v h k = h
  cond_fail false o v h k = k

  or_fail : (a b : Option (Option A)) → Fails test (seen a) → Fails test (seen b) → Fails test (seen (or_else a b))
  or_fail None b h k = k
  or_fail (Some x) b h k = h

  none_passes : (q : K) (es : List (K × Option A)) → AllByRecursion (λ (e : K × Option A). Fails test e.1) es → Fails test (seen (value_at cmp q es))
  none_passes q [] a = refl
  none_passes q (e ∷ es) a = cond_fail (is_at (cmp q) e.0) e.1 (value_at cmp q es) a.0 (none_passes q es a.1)

  -- ---- one run
  -- the place moves on to a key, and no row that is left is before it
  split_moved : (place : Option K) (q : K) (later : List (List (K × Option A))) (passed rest : List (K × Option A)) → IsSplit cmp test place later passed rest → is_after cmp place q ≡ true → IfFront (λ (e : K × Option A). is_lt (cmp e.0 q) ≡ false) rest
      → (is_some (value_at cmp q rest) ≡ true → latest cmp q later ≡ None → ⊥) → IsSplit cmp test (Some q) later passed rest
  split_moved place q later passed rest s after least other = record {
    ordered = s.ordered;
    before = λ p beyond none. s.before p (after_trans cmp total place q p after beyond) none;
    beyond = λ p has none. elim (bools (is_lt (cmp q p))) [
      | inl less ↦ less
      | inr more ↦
          let same : p ≡ q = tie cmp total exact p q (front_least q p rest (rising_back passed rest s.ordered) least has) more in
          absurd (other (subst (λ k. is_some (value_at cmp k rest) ≡ true) same has) (subst (λ k. latest cmp k later ≡ None) same none))
    ];
    here = s.here;
  }

  module _ (place : Option K) (later : List (List (K × Option A))) (passed : List (K × Option A)) (e : K × Option A) (more rest : List (K × Option A)) (s : IsSplit cmp test place later passed (e ∷ (more ++ rest)))
      (fail : AllByRecursion (λ (d : K × Option A). Fails test d.1) more) (here : IfFront (λ (d : K × Option A). Passes test d.1) rest) where
    still_ordered : Rising cmp ((passed ++ e ∷ more) ++ rest)
    still_ordered = subst (Rising cmp) (sym (append_assoc passed (e ∷ more) rest)) s.ordered

    passed_fail : (p : K) → Fails test (seen (value_at cmp p passed)) → (is_at (cmp p) e.0 ≡ true → ⊥) → Fails test (seen (value_at cmp p (passed ++ e ∷ more)))
    passed_fail p h other =
        ap (λ v. passing test (seen v)) (value-append cmp p passed (e ∷ more))
        ∙ or_fail (value_at cmp p passed) (value_at cmp p (e ∷ more)) h (elim (bools (is_at (cmp p) e.0)) [
          | inl at ↦ absurd (other at)
          | inr apart ↦ ap (λ c. passing test (seen (cond c (Some e.1) (value_at cmp p more)))) apart ∙ none_passes p more fail
        ])

    left_behind : (p : K) → is_some (value_at cmp p rest) ≡ true → is_some (value_at cmp p (more ++ rest)) ≡ true
    left_behind p has = ap is_some (value-append cmp p more rest) ∙ some_right (value_at cmp p more) (value_at cmp p rest) has

    -- a row that a later run overrides is passed
    split_over : (latest cmp e.0 later ≡ None → ⊥) → IsSplit cmp test place later (passed ++ e ∷ more) rest
    split_over over = record {
      ordered = still_ordered;
      before = λ p after none. passed_fail p (s.before p after none) (λ at. over (subst (λ k. latest cmp k later ≡ None) (tells_apart exact p e.0 at) none));
      beyond = λ p has none. s.beyond p (some_behind (is_at (cmp p) e.0) e.1 (value_at cmp p (more ++ rest)) (left_behind p has)) none;
      here = here;
    }

    -- a row is given, and its key is the place
    split_on : is_after cmp place e.0 ≡ true → IsSplit cmp test (Some e.0) later (passed ++ e ∷ more) rest
    split_on after = record {
      ordered = still_ordered;
      before = λ p beyond none. passed_fail p (s.before p (after_trans cmp total place e.0 p after beyond) none)
          (λ at. not_both (is_lt (cmp e.0 p)) beyond (ap (λ y. is_lt (cmp e.0 y)) (tells_apart exact p e.0 at) ∙ ap is_lt (itself cmp total exact e.0)));
      beyond = λ p has none. ap is_lt (listed_below p e.0 (more ++ rest) (left_behind p has) (rising_head cmp e (more ++ rest) (rising_back passed (e ∷ (more ++ rest)) s.ordered)));
      here = here;
    }

  module _ (place to : Option K) (later : List (List (K × Option A))) (run : List (K × Option A)) (n m : ℕ) (e : K × Option A) (es : List (K × Option A)) (is : drop n run ≡ e ∷ es) (o : IsOnward test run (suc n) m) where
    rest_is : drop n run ≡ e ∷ (o.between ++ drop m run)
    rest_is = is ∙ ap (λ l. e ∷ l) (sym (drop_next n run e es is) ∙ o.behind)

    passed_is : take n run ++ e ∷ o.between ≡ take m run
    passed_is = sym (append_assoc (take n run) (e ∷ []) o.between) ∙ ap (λ l. l ++ o.between) (sym (take_next n run e es is)) ∙ sym o.before

    spot_by : IsSpot cmp test place later run n → (IsSplit cmp test place later (take n run) (e ∷ (o.between ++ drop m run)) → IsSplit cmp test to later (take n run ++ e ∷ o.between) (drop m run)) → IsSpot cmp test to later run m
    spot_by s step = subst (λ l. IsSplit cmp test to later l (drop m run)) passed_is (step (subst (IsSplit cmp test place later (take n run)) rest_is s))

  module _ (place : Option K) (later : List (List (K × Option A))) (run : List (K × Option A)) (n m : ℕ) (e : K × Option A) (es : List (K × Option A)) (is : drop n run ≡ e ∷ es) (s : IsSpot cmp test place later run n) (o : IsOnward test run (suc n) m) where
    spot_over : (latest cmp e.0 later ≡ None → ⊥) → IsSpot cmp test place later run m
    spot_over over = spot_by place place later run n m e es is o s (λ s. split_over place later (take n run) e o.between (drop m run) s o.fail o.here over)

    spot_on : is_after cmp place e.0 ≡ true → IsSpot cmp test (Some e.0) later run m
    spot_on after = spot_by place (Some e.0) later run n m e es is o s (λ s. split_on place later (take n run) e o.between (drop m run) s o.fail o.here after)

  run_value : (q : K) (run : List (K × Option A)) (n : ℕ) → value_at cmp q run ≡ or_else (value_at cmp q (take n run)) (value_at cmp q (drop n run))
  run_value q run n = ap (value_at cmp q) (sym (take_drop n run)) ∙ value-append cmp q (take n run) (drop n run)

  pub spot_begins : (later : List (List (K × Option A))) (run : List (K × Option A)) (n : ℕ) → Rising cmp run → IsOnward test run 0 n → IsSpot cmp test None later run n
  spot_begins later run n s o = record {
    ordered = subst (Rising cmp) (sym (take_drop n run)) s;
    before = λ q after none. ap (λ l. passing test (seen (value_at cmp q l))) o.before ∙ none_passes q o.between o.fail;
    beyond = λ q has none. refl;
    here = o.here;
  }

  -- ---- all runs
  pub spot_of : (place : Option K) (runs : List (List (K × Option A))) (ns : List ℕ) (number : ℕ) → number < length runs → AreSpots cmp test place runs ns → IsSpot cmp test place (drop (suc number) runs) (get_or runs number []) (get_or ns number 0)
  spot_of place [] ns number lt a = absurd (omega (arith, lt))
  spot_of place (run ∷ runs) [] number lt a = absurd a
  spot_of place (run ∷ runs) (n ∷ ns) zero lt a = a.0
  spot_of place (run ∷ runs) (n ∷ ns) (suc number) lt a = spot_of place runs ns number (omega (arith, lt)) a.1

  has_latest : (q : K) (runs : List (List (K × Option A))) (number : ℕ) → number < length runs → is_some (value_at cmp q (get_or runs number [])) ≡ true → is_some (latest cmp q runs) ≡ true
  has_latest q [] number lt has = absurd (omega (arith, lt))
  has_latest q (run ∷ runs) zero lt has = some_right (latest cmp q runs) (value_at cmp q run) has
  has_latest q (run ∷ runs) (suc number) lt has = some_left (latest cmp q runs) (value_at cmp q run) (has_latest q runs number (omega (arith, lt)) has)

  latest_at : (q : K) (o : Option A) (runs : List (List (K × Option A))) (number : ℕ) → number < length runs → latest cmp q (drop (suc number) runs) ≡ None → value_at cmp q (get_or runs number []) ≡ Some o → latest cmp q runs ≡ Some o
  latest_at q o [] number lt none is = absurd (omega (arith, lt))
  latest_at q o (run ∷ runs) zero lt none is = ap (λ a. or_else a (value_at cmp q run)) none ∙ is
  latest_at q o (run ∷ runs) (suc number) lt none is = ap (λ a. or_else a (value_at cmp q run)) (latest_at q o runs number (omega (arith, lt)) none is)

  spots_over : (place : Option K) (runs : List (List (K × Option A))) (ns : List ℕ) (number m : ℕ) → number < length runs → AreSpots cmp test place runs ns → IsSpot cmp test place (drop (suc number) runs) (get_or runs number []) m → AreSpots cmp test place runs (set ns number m)
  spots_over place [] ns number m lt a s = absurd (omega (arith, lt))
  spots_over place (run ∷ runs) [] number m lt a s = absurd a
  spots_over place (run ∷ runs) (n ∷ ns) zero m lt a s = (s, a.1)
  spots_over place (run ∷ runs) (n ∷ ns) (suc number) m lt a s = (a.0, spots_over place runs ns number m (omega (arith, lt)) a.1 s)

  module _ (place : Option K) (q : K) (after : is_after cmp place q ≡ true) where
    all_moved : (runs : List (List (K × Option A))) (ns : List ℕ) → AreSpots cmp test place runs ns → AreNotBefore cmp q runs ns → latest cmp q runs ≡ None → AreSpots cmp test (Some q) runs ns
    all_moved [] ns a b none = tt
    all_moved (run ∷ runs) [] a b none = absurd a
    all_moved (run ∷ runs) (n ∷ ns) a b none = (
      split_moved place q runs (take n run) (drop n run) a.0 after b.0
          (λ has later. some_not_none (value_at cmp q run) (ap is_some (run_value q run n) ∙ some_right (value_at cmp q (take n run)) (value_at cmp q (drop n run)) has) (none_second (latest cmp q runs) (value_at cmp q run) none)),
      all_moved runs ns a.1 b.1 (none_first (latest cmp q runs) (value_at cmp q run) none),
    )

    spots_on : (runs : List (List (K × Option A))) (ns : List ℕ) (number m : ℕ) → number < length runs → AreSpots cmp test place runs ns → AreNotBefore cmp q runs ns → is_some (value_at cmp q (get_or runs number [])) ≡ true
        → latest cmp q (drop (suc number) runs) ≡ None → IsSpot cmp test (Some q) (drop (suc number) runs) (get_or runs number []) m → AreSpots cmp test (Some q) runs (set ns number m)
    spots_on [] ns number m lt a b has none s = absurd (omega (arith, lt))
    spots_on (run ∷ runs) [] number m lt a b has none s = absurd a
    spots_on (run ∷ runs) (n ∷ ns) zero m lt a b has none s = (s, all_moved runs ns a.1 b.1 none)
    spots_on (run ∷ runs) (n ∷ ns) (suc number) m lt a b has none s = (
      split_moved place q runs (take n run) (drop n run) a.0 after b.0 (λ here later. some_not_none (latest cmp q runs) (has_latest q runs number (omega (arith, lt)) has) later),
      spots_on runs ns number m (omega (arith, lt)) a.1 b.1 has none s,
    )

  or_step : (o v : Option (Option A)) → (is_some o ≡ true → Fails test (seen o)) → (o ≡ None → Fails test (seen v)) → Fails test (seen (or_else o v))
  or_step None v h k = k refl
  or_step (Some x) v h k = h refl

  -- no row is left: nothing after the place passes
  pub none_left : (place : Option K) (runs : List (List (K × Option A))) (ns : List ℕ) → AreSpots cmp test place runs ns → AreEnded runs ns → (q : K) → is_after cmp place q ≡ true → Fails test (seen (latest cmp q runs))
  none_left place [] ns a ended q after = refl
  none_left place (run ∷ runs) [] a ended q after = absurd a
  none_left place (run ∷ runs) (n ∷ ns) a ended q after = or_step (latest cmp q runs) (value_at cmp q run) (λ has. none_left place runs ns a.1 ended.1 q after)
      (λ none. ap (λ v. passing test (seen v)) (run_value q run n)
      ∙ or_fail (value_at cmp q (take n run)) (value_at cmp q (drop n run)) (a.0.before q after none) (ap (λ l. passing test (seen (value_at cmp q l))) ended.0))

  or_passes : (o v : Option (Option A)) (R : Type 0) → (Passes test (seen o) → R) → (o ≡ None → Passes test (seen v) → R) → Passes test (seen (or_else o v)) → R
  or_passes None v R h k p = k refl p
  or_passes (Some x) v R h k p = h p

  -- what passes after the place isn't before the least key
  pub least_first : (place : Option K) (q : K) (runs : List (List (K × Option A))) (ns : List ℕ) → AreSpots cmp test place runs ns → AreNotBefore cmp q runs ns → (p : K) → is_after cmp place p ≡ true → Passes test (seen (latest cmp p runs)) → is_lt (cmp p q) ≡ false
  least_first place q [] ns a b p after passes = absurd cc
  least_first place q (run ∷ runs) [] a b p after passes = absurd a
  least_first place q (run ∷ runs) (n ∷ ns) a b p after passes = or_passes (latest cmp p runs) (value_at cmp p run) (is_lt (cmp p q) ≡ false) (λ h. least_first place q runs ns a.1 b.1 p after h)
      (λ none h. elim (bools (is_some (value_at cmp p (drop n run)))) [
        | inl has ↦ front_least q p (drop n run) (rising_back (take n run) (drop n run) a.0.ordered) b.0 has
        | inr lacks ↦ absurd (both_fail (seen (value_at cmp p run)) h (ap (λ v. passing test (seen v)) (run_value p run n)
            ∙ or_fail (value_at cmp p (take n run)) (value_at cmp p (drop n run)) (a.0.before p after none) (ap (λ v. passing test (seen v)) (none_of (value_at cmp p (drop n run)) lacks))))
      ]) passes

  passes_is : (o : Option A) → Passes test o → passing test o ≡ o
  passes_is None p = refl
  passes_is (Some x) p = by (test x) p
    where
      by : (b : Bool) → is_some (if b then Some x else None) ≡ true → (if b then Some x else None) ≡ Some x
      by true h = refl
      by false h = absurd cc

  left_fewer : (place : Option K) (runs : List (List (K × Option A))) (ns : List ℕ) (number m : ℕ) → number < length runs → AreSpots cmp test place runs ns → length (drop m (get_or runs number [])) < length (drop (get_or ns number 0) (get_or runs number [])) → rows_left runs (set ns number m) < rows_left runs ns
  left_fewer place [] ns number m lt a less = absurd (omega (arith, lt))
  left_fewer place (run ∷ runs) [] number m lt a less = absurd a
  left_fewer place (run ∷ runs) (n ∷ ns) zero m lt a less = omega (arith, less)
  left_fewer place (run ∷ runs) (n ∷ ns) (suc number) m lt a less = let rest = left_fewer place runs ns number m (omega (arith, lt)) a.1 less in omega (arith, rest)

  -- ---- a step
  module _ (place : Option K) (runs : List (List (K × Option A))) (ns : List ℕ) (a : AreSpots cmp test place runs ns) (number : ℕ) (q : K) (f : IsLeastFrom cmp runs ns 0 (number, q)) where
    abbrev the_run : List (K × Option A)
    the_run = get_or runs number []

    abbrev at : ℕ
    at = get_or ns number 0

    abbrev later : List (List (K × Option A))
    later = drop (suc number) runs

    spot : IsSpot cmp test place later the_run at
    spot = spot_of place runs ns number f.within a

    pub at_row : (e : K × Option A) × (es : List (K × Option A)) × (drop at the_run ≡ e ∷ es) × (e.0 ≡ q)
    at_row = front_is (λ (e : K × Option A). e.0) (drop at the_run) q f.key

    pub step_fewer : (m : ℕ) → IsOnward test the_run (suc at) m → rows_left runs (set ns number m) < rows_left runs ns
    step_fewer m o =
        let e = at_row.0 in
        let is = at_row.2 in
        let n : length (drop at the_run) ≡ suc (length at_row.1) = ap length is in
        let l : length at_row.1 ≡ length (o.between ++ drop m the_run) = ap length (sym (drop_next at the_run e at_row.1 is) ∙ o.behind) in
        let b = length-append o.between (drop m the_run) in
        left_fewer place runs ns number m f.within a (omega (arith, n, l, b))

    pub step_over : (m : ℕ) → IsOnward test the_run (suc at) m → is_some (latest cmp q later) ≡ true → AreSpots cmp test place runs (set ns number m)
    step_over m o over = spots_over place runs ns number m f.within a
        (spot_over place later the_run at m at_row.0 at_row.1 at_row.2 spot o (λ none. some_not_none (latest cmp q later) over (subst (λ k. latest cmp k later ≡ None) at_row.3 none)))

    value_here : value_at cmp q the_run ≡ Some at_row.0.1
    value_here =
        let e = at_row.0 in
        let whole : take at the_run ++ e ∷ at_row.1 ≡ the_run = ap (λ l. take at the_run ++ l) (sym at_row.2) ∙ take_drop at the_run in
        ap (λ k. value_at cmp k the_run) (sym at_row.3) ∙ ap (value_at cmp e.0) (sym whole)
        ∙ value_front (take at the_run) e at_row.1 (subst (λ l. Rising cmp (take at the_run ++ l)) at_row.2 spot.ordered)

    module _ (none : is_some (latest cmp q later) ≡ false) where
      gone_later : latest cmp q later ≡ None
      gone_later = none_of (latest cmp q later) none

      left_here : is_some (value_at cmp q (drop at the_run)) ≡ true
      left_here = ap (λ l. is_some (value_at cmp q l)) at_row.2 ∙ ap (λ k. is_some (value_at cmp k (at_row.0 ∷ at_row.1))) (sym at_row.3)
          ∙ ap (λ o. is_some (cond (is_eq o) (Some at_row.0.1) (value_at cmp at_row.0.0 at_row.1))) (itself cmp total exact at_row.0.0)

      pub is_after_place : is_after cmp place q ≡ true
      is_after_place = spot.beyond q left_here gone_later

      pub step_on : (m : ℕ) → IsOnward test the_run (suc at) m → AreSpots cmp test (Some q) runs (set ns number m)
      step_on m o = spots_on place q is_after_place runs ns number m f.within a f.least (ap is_some value_here) gone_later
          (subst (λ k. IsSpot cmp test (Some k) later the_run m) at_row.3
          (spot_on place later the_run at m at_row.0 at_row.1 at_row.2 spot o (subst (λ k. is_after cmp place k ≡ true) (sym at_row.3) is_after_place)))

      here_passes : Passes test at_row.0.1
      here_passes = subst (IfFront (λ (e : K × Option A). Passes test e.1)) at_row.2 spot.here

      set_here : (o : Option A) → Some o ≡ option_map (λ (e : K × Option A). e.1) (front (drop at the_run)) → at_row.0.1 ≡ o
      set_here o is = let same : Some o ≡ Some at_row.0.1 = is ∙ ap (λ l. option_map (λ (e : K × Option A). e.1) (front l)) at_row.2 in let back : at_row.0.1 ≡ o = cc in back

      step_one : (x : A) → at_row.0.1 ≡ Some x → IsFirstPair cmp (is_after cmp place) (λ p. passing test (seen (latest cmp p runs))) (q, x)
      step_one x is = record {
        there = ap (λ v. passing test (seen v)) (latest_at q at_row.0.1 runs number f.within gone_later value_here) ∙ passes_is at_row.0.1 here_passes ∙ is;
        beyond = is_after_place;
        first = λ p after passes. least_first place q runs ns a f.least p after passes;
      }

      pub step_found : (o : Option A) (x : A) → Some o ≡ option_map (λ (e : K × Option A). e.1) (front (drop at the_run)) → o ≡ Some x → IsFirstPair cmp (is_after cmp place) (λ p. passing test (seen (latest cmp p runs))) (q, x)
      step_found o x here is = step_one x (set_here o here ∙ is)

      pub step_never : (o : Option A) → Some o ≡ option_map (λ (e : K × Option A). e.1) (front (drop at the_run)) → o ≡ None → ⊥
      step_never o here is = both_fail at_row.0.1 here_passes (ap (passing test) (set_here o here ∙ is))
