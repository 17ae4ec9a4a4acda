-- The run that is shortened is the one that RFC 5952, section 4.2, asks for.
use Rattle.std.proofs.Common.{◌≡◌, ℕ, zero, suc, ◌+◌, ◌<◌, ◌≤◌, Bool, true, false, ◌&&◌, ◌||◌, not, cond, List, [], ◌∷◌, Option, None, Some, length, take, drop, replicate, refl, sym, ap, subst, ◌∙◌, arith, eqb-true, leb-true, le-leb, ltb-true, length-take, length-drop, ◌⊎◌, inl, inr}
use Rattle.std.proofs.lemmas.Bool.{cases_lt}
use Rattle.std.proofs.lemmas.List.{length-replicate}
use Rattle.std.specs.List.{find, list_all, list_any}
use Rattle.std.specs.Prelude.{◌==◌, nat_le, nat_lt}
use Rattle.bmp_specs.specs.AddressText.{runs, is_zero_run, shortened_run}
use Rattle.bmp_specs.specs.ShortenedRun.{IsZeroRun, Shortens}
use Rattle.ip_prefix.proofs.ReadsBack.{found, is_run, all_runs, zeros_are}
use Rattle.ip_prefix.proofs.Runs.{and-true}

-- whether the second run gives way to the first: it is shorter, or as long and later
gives_way : ℕ × ℕ → ℕ × ℕ → Bool
gives_way a b = nat_lt b.1 a.1 || ((b.1 == a.1) && nat_le a.0 b.0)

same_run : ℕ × ℕ → ℕ × ℕ → Bool
same_run a b = (a.0 == b.0) && (a.1 == b.1)

-- each item before another goes before it
in_order : List (ℕ × ℕ) → Bool
in_order [] = true
in_order (x ∷ xs) = list_all (gives_way x) xs && in_order xs

runs_in_order : in_order runs ≡ true
unfolding in_order gives_way runs
runs_in_order = refl

-- a test of every number below n
below : ℕ → (ℕ → Bool) → Bool
below zero p = true
below (suc n) p = p n && below n p

below-at : (n k : ℕ) (p : ℕ → Bool) → k < n → below n p ≡ true → p k ≡ true
unfolding below
below-at zero k p less e = absurd (omega arith)
below-at (suc n) k p less e =
    let both = and-true (p n) (below n p) e in
    by both.0 (cases_lt k n) (λ h. below-at n k p h both.1)
  where
    by : p n ≡ true → (k < n) ⊎ (n ≤ k) → (k < n → p k ≡ true) → p k ≡ true
    by here (inl h) later = later h
    by here (inr h) later = subst (λ (m : ℕ). p m ≡ true) {x = n} {y = k} (omega arith) here

-- every run of eight groups is in the list
is_listed : ℕ → ℕ → Bool
is_listed start count = not (is_run (start, count)) || list_any (same_run (start, count)) runs

all_listed : below 9 (λ start. below 9 (λ count. is_listed start count)) ≡ true
unfolding below is_listed same_run runs
all_listed = refl

and-both : (a b : Bool) → a ≡ true → b ≡ true → (a && b) ≡ true
and-both true b p q = q
and-both false b p q = absurd cc

listed : (start count : ℕ) → 2 ≤ count → start + count ≤ 8 → list_any (same_run (start, count)) runs ≡ true
unfolding is_listed
listed start count several within =
    let run : is_run (start, count) ≡ true = and-both (nat_le 2 count) (nat_le (start + count) 8) (le-leb 2 count several) (le-leb (start + count) 8 within) in
    let outer : below 9 (λ n. is_listed start n) ≡ true = below-at 9 start (λ s. below 9 (λ n. is_listed s n)) (omega arith) all_listed in
    let inner : is_listed start count ≡ true = below-at 9 count (λ n. is_listed start n) (omega arith) outer in
    by (is_run (start, count)) run inner
  where
    by : (b : Bool) → b ≡ true → (not b || list_any (same_run (start, count)) runs) ≡ true → list_any (same_run (start, count)) runs ≡ true
    by true p e = e
    by false p e = absurd cc

same_run-true : (a b : ℕ × ℕ) → same_run a b ≡ true → a ≡ b
unfolding same_run
same_run-true a b e =
    let both = and-true (a.0 == b.0) (a.1 == b.1) e in
    ap (λ (n : ℕ). let r : ℕ × ℕ = (n, a.1) in r) (eqb-true a.0 b.0 both.0) ∙ ap (λ (n : ℕ). let r : ℕ × ℕ = (b.0, n) in r) (eqb-true a.1 b.1 both.1)

or-cases : (a b : Bool) → (a || b) ≡ true → (a ≡ true) ⊎ (b ≡ true)
or-cases true b e = inl refl
or-cases false b e = inr e

list_all-any : (q : ℕ × ℕ → Bool) (y : ℕ × ℕ) (xs : List (ℕ × ℕ)) → list_all q xs ≡ true → list_any (same_run y) xs ≡ true → q y ≡ true
list_all-any q y [] all e = absurd cc
list_all-any q y (x ∷ xs) all e =
    let both = and-true (q x) (list_all q xs) all in
    by (or-cases (same_run y x) (list_any (same_run y) xs) e) (λ h. list_all-any q y xs both.1 h) both.0
  where
    by : (same_run y x ≡ true) ⊎ (list_any (same_run y) xs ≡ true) → (list_any (same_run y) xs ≡ true → q y ≡ true) → q x ≡ true → q y ≡ true
    by (inl h) later here = subst (λ (r : ℕ × ℕ). q r ≡ true) (sym (same_run-true y x h)) here
    by (inr h) later here = later h

-- what passes and is listed is the first that passes, or gives way to it
first_of_all : (p : ℕ × ℕ → Bool) (xs : List (ℕ × ℕ)) (x y : ℕ × ℕ) → in_order xs ≡ true → find p xs ≡ Some x → list_any (same_run y) xs ≡ true → p y ≡ true → (y ≡ x) ⊎ (gives_way x y ≡ true)
unfolding in_order
first_of_all p [] x y order e member passes = absurd cc
first_of_all p (z ∷ zs) x y order e member passes =
    let both = and-true (list_all (gives_way z) zs) (in_order zs) order in
    by (p z) refl e (or-cases (same_run y z) (list_any (same_run y) zs) member) both.0 (λ f h. first_of_all p zs x y both.1 f h passes)
  where
    by : (b : Bool) → p z ≡ b → cond b (Some z) (find p zs) ≡ Some x → (same_run y z ≡ true) ⊎ (list_any (same_run y) zs ≡ true) → list_all (gives_way z) zs ≡ true → (find p zs ≡ Some x → list_any (same_run y) zs ≡ true → (y ≡ x) ⊎ (gives_way x y ≡ true)) → (y ≡ x) ⊎ (gives_way x y ≡ true)
    by true here f (inl h) all later = let same : z ≡ x = cc in inl (same_run-true y z h ∙ same)
    by true here f (inr h) all later = let same : z ≡ x = cc in inr (subst (λ (r : ℕ × ℕ). gives_way r y ≡ true) same (list_all-any (gives_way z) y zs all h))
    by false here f (inl h) all later = let fails : p y ≡ false = ap p (same_run-true y z h) ∙ here in absurd cc
    by false here f (inr h) all later = later f h

none_passes : (p : ℕ × ℕ → Bool) (xs : List (ℕ × ℕ)) (y : ℕ × ℕ) → find p xs ≡ None → list_any (same_run y) xs ≡ true → p y ≡ true → ⊥
none_passes p [] y e member passes = cc
none_passes p (z ∷ zs) y e member passes = by (p z) refl e (or-cases (same_run y z) (list_any (same_run y) zs) member) (λ f h. none_passes p zs y f h passes)
  where
    by : (b : Bool) → p z ≡ b → cond b (Some z) (find p zs) ≡ None → (same_run y z ≡ true) ⊎ (list_any (same_run y) zs ≡ true) → (find p zs ≡ None → list_any (same_run y) zs ≡ true → ⊥) → ⊥
    by true here f m later = cc
    by false here f (inl h) later = let fails : p y ≡ false = ap p (same_run-true y z h) ∙ here in cc
    by false here f (inr h) later = later f h

zeros_pass : (n : ℕ) → list_all (λ g. g == 0) (replicate n 0) ≡ true
zeros_pass zero = refl
zeros_pass (suc n) = zeros_pass n

-- a run of two or more zero groups passes and is listed
module _ (groups : List ℕ) (len : length groups ≡ 8) (other : ℕ × ℕ) (zero_run : IsZeroRun groups other) where
  other_passes : is_zero_run groups other ≡ true
  other_passes = ap (λ (l : List ℕ). list_all (λ g. g == 0) l) zero_run ∙ zeros_pass other.1

  other_within : 2 ≤ other.1 → other.0 + other.1 ≤ 8
  other_within several = omega (arith, several, len, ap length zero_run, length-replicate {A = ℕ} other.1 0, length-take other.1 (drop other.0 groups), length-drop other.0 groups)

  other_listed : 2 ≤ other.1 → list_any (same_run other) runs ≡ true
  other_listed several = listed other.0 other.1 several (other_within several)

-- what gives way is shorter, or as long and later
gives_way_is : (run other : ℕ × ℕ) → (other ≡ run) ⊎ (gives_way run other ≡ true) → (other.1 ≤ run.1) × (other.1 ≡ run.1 → run.0 ≤ other.0)
unfolding gives_way
gives_way_is run other (inl same) = (omega (arith, ap (λ (r : ℕ × ℕ). r.1) same), λ _. omega (arith, ap (λ (r : ℕ × ℕ). r.0) same))
gives_way_is run other (inr way) = by (or-cases (nat_lt other.1 run.1) ((other.1 == run.1) && nat_le run.0 other.0) way)
  where
    by : (nat_lt other.1 run.1 ≡ true) ⊎ (((other.1 == run.1) && nat_le run.0 other.0) ≡ true) → (other.1 ≤ run.1) × (other.1 ≡ run.1 → run.0 ≤ other.0)
    by (inl shorter) = let less = ltb-true other.1 run.1 shorter in (omega (arith, less), λ same. absurd (omega (arith, less, same)))
    by (inr later) =
        let both = and-true (other.1 == run.1) (nat_le run.0 other.0) later in
        (omega (arith, eqb-true other.1 run.1 both.0), λ _. leb-true run.0 other.0 both.1)

pub shortened_run_Shortens : (groups : List ℕ) → length groups ≡ 8 → Shortens groups (shortened_run groups)
unfolding shortened_run
shortened_run_Shortens groups len = by (shortened_run groups) refl
  where
    none_short : shortened_run groups ≡ None → (other : ℕ × ℕ) → IsZeroRun groups other → (other.1 < 2) ⊎ (2 ≤ other.1) → other.1 < 2
    none_short e other zero_run (inl short) = short
    none_short e other zero_run (inr several) = absurd (none_passes (is_zero_run groups) runs other e (other_listed groups len other zero_run several) (other_passes groups len other zero_run))

    against : (run : ℕ × ℕ) → shortened_run groups ≡ Some run → 2 ≤ run.1 → (other : ℕ × ℕ) → IsZeroRun groups other → (other.1 < 2) ⊎ (2 ≤ other.1) → (other.1 ≤ run.1) × (other.1 ≡ run.1 → run.0 ≤ other.0)
    against run e two other zero_run (inl short) = (omega (arith, short, two), λ same. absurd (omega (arith, short, two, same)))
    against run e two other zero_run (inr several) = gives_way_is run other (first_of_all (is_zero_run groups) runs run other runs_in_order e (other_listed groups len other zero_run several) (other_passes groups len other zero_run))

    by : (r : Option (ℕ × ℕ)) → shortened_run groups ≡ r → Shortens groups r
    by None e = λ other zero_run. none_short e other zero_run (cases_lt other.1 2)
    by (Some run) e =
        let facts = found (is_zero_run groups) is_run runs run all_runs e in
        let sizes = and-true (nat_le 2 run.1) (nat_le (run.0 + run.1) 8) facts.1 in
        let two = leb-true 2 run.1 sizes.0 in
        let within = leb-true (run.0 + run.1) 8 sizes.1 in
        let count : length (take run.1 (drop run.0 groups)) ≡ run.1 = omega (arith, within, len, length-take run.1 (drop run.0 groups), length-drop run.0 groups) in
        record {
          several = two;
          zero = zeros_are (take run.1 (drop run.0 groups)) facts.0 ∙ ap (λ (n : ℕ). replicate n 0) count;
          longest = λ other zero_run. (against run e two other zero_run (cases_lt other.1 2)).0;
          first = λ other zero_run same. (against run e two other zero_run (cases_lt other.1 2)).1 same;
        }
