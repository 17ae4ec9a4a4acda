-- The rows of a run that pass a test, by their keys and handles.
use Rattle.std.proofs.Common.{◌≡◌, ℕ, zero, suc, ◌+◌, ◌<◌, ◌≤◌, Bool, List, [], ◌∷◌, ◌++◌, length, get_or, take, drop, Option, Some, refl, ap, sym, ◌∙◌, subst, arith}
use Rattle.std.specs.List.{AllByRecursion}
use Rattle.std.specs.Option.{option_map}
use Rattle.route_runs.specs.Rows.{set_at, rows}
use Rattle.route_runs.specs.Sift.{front, Fails, IfFront, IsOnward, Passes}
use Rattle.route_runs.proofs.Handles.{length-rows}
use Rattle.route_runs.proofs.Sifting.{take_drop}

drop_nil : {X : Type 0} (n : ℕ) → ◌≡◌ {A = List X} (drop n []) []
drop_nil zero = refl
drop_nil (suc n) = refl

take_nil : {X : Type 0} (n : ℕ) → ◌≡◌ {A = List X} (take n []) []
take_nil zero = refl
take_nil (suc n) = refl

drop_add : {X : Type 0} (xs : List X) (from more n : ℕ) → n ≡ from + more → drop more (drop from xs) ≡ drop n xs
drop_add xs zero more n e = let same : more ≡ n = omega (arith, e) in ap (λ m. drop m xs) same
drop_add [] (suc from) more zero e = absurd (omega (arith, e))
drop_add [] (suc from) more (suc n) e = drop_nil more
drop_add (x ∷ xs) (suc from) more zero e = absurd (omega (arith, e))
drop_add (x ∷ xs) (suc from) more (suc n) e = drop_add xs from more n (omega (arith, e))

take_add : {X : Type 0} (xs : List X) (from more n : ℕ) → n ≡ from + more → take n xs ≡ take from xs ++ take more (drop from xs)
take_add xs zero more n e = let same : n ≡ more = omega (arith, e) in ap (λ m. take m xs) same
take_add [] (suc from) more zero e = absurd (omega (arith, e))
take_add [] (suc from) more (suc n) e = sym (take_nil more)
take_add (x ∷ xs) (suc from) more zero e = absurd (omega (arith, e))
take_add (x ∷ xs) (suc from) more (suc n) e = ap (λ l. x ∷ l) (take_add xs from more n (omega (arith, e)))

pub drop_past : {X : Type 0} (xs : List X) (n : ℕ) → length xs ≤ n → drop n xs ≡ []
drop_past [] n le = drop_nil n
drop_past (x ∷ xs) zero le = absurd (omega (arith, le))
drop_past (x ∷ xs) (suc n) le = drop_past xs n (omega (arith, le))

pub drop_there : {X : Type 0} (xs : List X) (n : ℕ) (d : X) → n < length xs → drop n xs ≡ get_or xs n d ∷ drop (suc n) xs
drop_there [] n d lt = absurd (omega (arith, lt))
drop_there (x ∷ xs) zero d lt = refl
drop_there (x ∷ xs) (suc n) d lt = drop_there xs n d (omega (arith, lt))

module _ {K A : Type 0} (packs : List (List A)) where
  -- a row that is there has a key and a handle
  pub there : (ks : List K) (vs : List ℕ) (run : List (K × Option A)) (n : ℕ) → length vs ≡ length ks → rows packs ks vs ≡ run → n < length run → n < length ks
  there ks vs run n e is lt = let same = ap length is in let l = length-rows packs ks vs e in omega (arith, lt, same, l)

  pub row_at : (ks : List K) (vs : List ℕ) (n : ℕ) (d : K) (h : ℕ) → length vs ≡ length ks → n < length ks → front (drop n (rows packs ks vs)) ≡ Some (get_or ks n d, set_at packs (get_or vs n h))
  row_at [] vs n d h e lt = absurd (omega (arith, lt))
  row_at (k ∷ ks) [] n d h e lt = absurd (omega (arith, e))
  row_at (k ∷ ks) (v ∷ vs) zero d h e lt = refl
  row_at (k ∷ ks) (v ∷ vs) (suc n) d h e lt = row_at ks vs n d h (omega (arith, e)) (omega (arith, lt))

  pub set_row_at : (ks : List K) (vs : List ℕ) (n h : ℕ) → length vs ≡ length ks → n < length ks → option_map (λ (e : K × Option A). e.1) (front (drop n (rows packs ks vs))) ≡ Some (set_at packs (get_or vs n h))
  set_row_at [] vs n h e lt = absurd (omega (arith, lt))
  set_row_at (k ∷ ks) [] n h e lt = absurd (omega (arith, e))
  set_row_at (k ∷ ks) (v ∷ vs) zero h e lt = refl
  set_row_at (k ∷ ks) (v ∷ vs) (suc n) h e lt = set_row_at ks vs n h (omega (arith, e)) (omega (arith, lt))

  module _ (test : A → Bool) where
    rows_fail_here : (ks : List K) (vs : List ℕ) (more : ℕ) → AllByRecursion (λ h. Fails test (set_at packs h)) (take more vs) → AllByRecursion (λ (e : K × Option A). Fails test e.1) (take more (rows packs ks vs))
    rows_fail_here ks vs zero a = tt
    rows_fail_here [] vs (suc more) a = tt
    rows_fail_here (k ∷ ks) [] (suc more) a = tt
    rows_fail_here (k ∷ ks) (v ∷ vs) (suc more) a = (a.0, rows_fail_here ks vs more a.1)

    rows_fail : (ks : List K) (vs : List ℕ) (from more : ℕ) → AllByRecursion (λ h. Fails test (set_at packs h)) (take more (drop from vs)) → AllByRecursion (λ (e : K × Option A). Fails test e.1) (take more (drop from (rows packs ks vs)))
    rows_fail ks vs zero more a = rows_fail_here ks vs more a
    rows_fail [] vs (suc from) more a = subst (AllByRecursion (λ (e : K × Option A). Fails test e.1)) (sym (take_nil more)) tt
    rows_fail (k ∷ ks) [] (suc from) more a = subst (AllByRecursion (λ (e : K × Option A). Fails test e.1)) (sym (take_nil more)) tt
    rows_fail (k ∷ ks) (v ∷ vs) (suc from) more a = rows_fail ks vs from more a

    pub passes_there : (ks : List K) (vs : List ℕ) (n : ℕ) → length vs ≡ length ks → n < length ks → IfFront (λ (e : K × Option A). Passes test e.1) (drop n (rows packs ks vs)) → Passes test (set_at packs (get_or vs n 0))
    passes_there [] vs n e lt h = absurd (omega (arith, lt))
    passes_there (k ∷ ks) [] n e lt h = absurd (omega (arith, e))
    passes_there (k ∷ ks) (v ∷ vs) zero e lt h = h
    passes_there (k ∷ ks) (v ∷ vs) (suc n) e lt h = passes_there ks vs n (omega (arith, e)) (omega (arith, lt)) h

    rows_here : (ks : List K) (vs : List ℕ) (n : ℕ) → IfFront (λ h. Passes test (set_at packs h)) (drop n vs) → IfFront (λ (e : K × Option A). Passes test e.1) (drop n (rows packs ks vs))
    rows_here [] vs n a = subst (IfFront (λ (e : K × Option A). Passes test e.1)) (sym (drop_nil n)) tt
    rows_here (k ∷ ks) [] n a = subst (IfFront (λ (e : K × Option A). Passes test e.1)) (sym (drop_nil n)) tt
    rows_here (k ∷ ks) (v ∷ vs) zero a = a
    rows_here (k ∷ ks) (v ∷ vs) (suc n) a = rows_here ks vs n a

    pub onward : (ks : List K) (vs : List ℕ) (from more n : ℕ) → n ≡ from + more → AllByRecursion (λ h. Fails test (set_at packs h)) (take more (drop from vs)) → IfFront (λ h. Passes test (set_at packs h)) (drop more (drop from vs)) → IsOnward test (rows packs ks vs) from n
    onward ks vs from more n e fail here = record {
      between = take more (drop from (rows packs ks vs));
      behind = sym (take_drop more (drop from (rows packs ks vs))) ∙ ap (λ l. take more (drop from (rows packs ks vs)) ++ l) (drop_add (rows packs ks vs) from more n e);
      before = take_add (rows packs ks vs) from more n e;
      fail = rows_fail ks vs from more fail;
      here = rows_here ks vs n (subst (IfFront (λ h. Passes test (set_at packs h))) (drop_add vs from more n e) here);
    }
