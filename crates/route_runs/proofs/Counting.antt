-- How many pairs one run has.
use Rattle.std.proofs.Common.{◌≡◌, ℕ, suc, Bool, true, false, cond, not, nat_eq, List, [], ◌∷◌, length, get_or, Option, None, Some, refl, ap, sym, ◌∙◌, arith}
use Rattle.std.specs.declared.cmp.Ordering.{Ordering}
use Rattle.std.specs.List.{AllByRecursion, filter}
use Rattle.std.proofs.lemmas.Bool.Decides.{nat_tests}
use Rattle.route_runs.specs.Rows.{gone, is_live, set_at, rows, IsHandle}
use Rattle.route_runs.specs.Runs.{add_live, live, contents}
use Rattle.route_runs.proofs.Handles.{set_gone}
use Rattle.route_runs.proofs.Overriding.{set_there}

-- a table without rows
pub no_run : {K A : Type 0} (cmp : K → K → Ordering) (runs : List (List (K × Option A))) → length runs ≡ 0 → contents cmp runs ≡ []
no_run cmp [] e = refl
no_run cmp (first ∷ runs) e = absurd (omega (arith, e))

pub bare_run : {K A : Type 0} (cmp : K → K → Ordering) (runs : List (List (K × Option A))) (run : List (K × Option A)) → length runs ≡ 1 → run ≡ get_or runs 0 run → length run ≡ 0 → contents cmp runs ≡ []
bare_run cmp [] run e is n = absurd (omega (arith, e))
bare_run cmp (first ∷ []) [] e is n = ap (λ l. contents cmp (l ∷ [])) (sym is)
bare_run cmp (first ∷ []) (row ∷ run) e is n = absurd (omega (arith, n))
bare_run cmp (first ∷ next ∷ runs) run e is n = absurd (omega (arith, e))

live_cases : {K A : Type 0} (k : K) (o : Option A) (es : List (K × A)) (v n : ℕ) (vs : List ℕ) (b : Bool) → (b ≡ true → o ≡ None) → (b ≡ false → (x : A) × (o ≡ Some x)) → length es ≡ length vs → length (add_live k o es) ≡ length (cond (not b) (v ∷ vs) vs)
live_cases k o es v n vs true none some e = ap (λ o. length (add_live k o es)) (none refl) ∙ e
live_cases k o es v n vs false none some e = let s = some refl in ap (λ o. length (add_live k o es)) s.1 ∙ ap suc e

pub live_count : {K A : Type 0} (packs : List (List A)) (ks : List K) (vs : List ℕ) → length vs ≡ length ks → AllByRecursion (IsHandle packs) vs → length (live (rows packs ks vs)) ≡ length (filter is_live vs)
live_count packs [] [] e a = refl
live_count packs [] (v ∷ vs) e a = absurd (omega (arith, e))
live_count packs (k ∷ ks) [] e a = absurd (omega (arith, e))
live_count packs (k ∷ ks) (v ∷ vs) e a =
    live_cases k (set_at packs v) (live (rows packs ks vs)) v 0 (filter is_live vs) (nat_eq v gone) (λ t. set_gone packs v (is_gone v t)) (set_there packs v a.0) (live_count packs ks vs (omega (arith, e)) a.1)
  where
    is_gone : (v : ℕ) → nat_eq v gone ≡ true → v ≡ gone
    is_gone v t = grind (arith, nat_tests, t)
