-- The run that one pass from the end finds is the one that is shortened. Both depend on which of the eight groups are
-- zero, and on nothing else, so all cases are tried.
use Rattle.std.proofs.Common.{◌≡◌, ℕ, zero, suc, ◌+◌, ◌<◌, ◌≤◌, Bool, true, false, ◌&&◌, cond, List, [], ◌∷◌, Option, None, Some, length, take, drop, map, refl, sym, ap, ◌∙◌, arith, eqb-true, lt-ltb, le-ltb}
use Rattle.std.specs.List.{list_all, find, prefix_len, take-map, drop-map}
use Rattle.std.specs.Prelude.{◌==◌, nat_lt, nat_le, if◌then◌else◌}
use Rattle.std.proofs.lemmas.List.Folds.{list_all-map}
use Rattle.bmp_specs.specs.AddressText.{runs, is_zero_run, shortened_run}

abbrev pub is_zero : ℕ → Bool
is_zero group = group == 0

-- how many zero groups stand at the front
abbrev pub ones : List Bool → ℕ
ones bs = prefix_len (λ b. b) bs

-- where the longest row of zero groups stands, the first one of that length
abbrev pub longest : List Bool → ℕ × ℕ
longest [] = (0, 0)
longest (b ∷ bs) = if nat_le (longest bs).1 (ones (b ∷ bs)) then (0, ones (b ∷ bs)) else ((longest bs).0 + 1, (longest bs).1)

-- one that has two groups or more
abbrev pub chosen : ℕ × ℕ → Option (ℕ × ℕ)
chosen run = if nat_lt run.1 2 then None else Some run

first_run : List Bool → Option (ℕ × ℕ)
unfolding runs
first_run bs = find (λ run. list_all (λ b. b) (take run.1 (drop run.0 bs))) runs

same : Option (ℕ × ℕ) → Option (ℕ × ℕ) → Bool
same None None = true
same None (Some q) = false
same (Some p) None = false
same (Some p) (Some q) = (p.0 == q.0) && (p.1 == q.1)

pub and-true : (a b : Bool) → (a && b) ≡ true → (a ≡ true) × (b ≡ true)
and-true true b e = (refl, e)
and-true false b e = absurd cc

same-true : (p q : Option (ℕ × ℕ)) → same p q ≡ true → p ≡ q
unfolding same
same-true None None e = refl
same-true None (Some q) e = absurd cc
same-true (Some p) None e = absurd cc
same-true (Some p) (Some q) e =
    let both = and-true (p.0 == q.0) (p.1 == q.1) e in
    ap (λ (n : ℕ). Some (n, p.1)) (eqb-true p.0 q.0 both.0) ∙ ap (λ (n : ℕ). Some (q.0, n)) (eqb-true p.1 q.1 both.1)

-- whether a test passes at every list of n
every : ℕ → (List Bool → Bool) → Bool
every zero p = p []
every (suc n) p = every n (λ bs. p (true ∷ bs)) && every n (λ bs. p (false ∷ bs))

every-at : (n : ℕ) (p : List Bool → Bool) (bs : List Bool) → length bs ≡ n → every n p ≡ true → p bs ≡ true
unfolding every
every-at zero p [] len e = e
every-at zero p (b ∷ bs) len e = absurd (omega arith)
every-at (suc n) p [] len e = absurd (omega arith)
every-at (suc n) p (true ∷ bs) len e = every-at n (λ cs. p (true ∷ cs)) bs (omega arith) (and-true (every n (λ cs. p (true ∷ cs))) (every n (λ cs. p (false ∷ cs))) e).0
every-at (suc n) p (false ∷ bs) len e = every-at n (λ cs. p (false ∷ cs)) bs (omega arith) (and-true (every n (λ cs. p (true ∷ cs))) (every n (λ cs. p (false ∷ cs))) e).1

all_cases : every 8 (λ bs. same (first_run bs) (chosen (longest bs))) ≡ true
unfolding every same first_run runs
all_cases = refl

find_by : {X : Type 0} (p q : X → Bool) → ((x : X) → p x ≡ q x) → (xs : List X) → find p xs ≡ find q xs
find_by p q e [] = refl
find_by {X} p q e (x ∷ xs) = ap (λ (b : Bool). cond b (Some x) (find p xs)) (e x) ∙ ap (λ (o : Option X). cond (q x) (Some x) o) (find_by p q e xs)

length-map' : (groups : List ℕ) → length (map is_zero groups) ≡ length groups
length-map' [] = refl
length-map' (g ∷ groups) = ap suc (length-map' groups)

pub shortened_run-chosen : (groups : List ℕ) → length groups ≡ 8 → shortened_run groups ≡ chosen (longest (map is_zero groups))
unfolding shortened_run first_run
shortened_run-chosen groups len =
    let bs = map is_zero groups in
    let tests : (run : ℕ × ℕ) → is_zero_run groups run ≡ list_all (λ b. b) (take run.1 (drop run.0 bs)) = λ run.
    sym (ap (λ (cs : List Bool). list_all (λ b. b) (take run.1 cs)) (drop-map is_zero run.0 groups) ∙ ap (λ (cs : List Bool). list_all (λ b. b) cs) (take-map is_zero run.1 (drop run.0 groups)) ∙ list_all-map (λ b. b) is_zero (take run.1 (drop run.0 groups))) in
    find_by (is_zero_run groups) (λ run. list_all (λ b. b) (take run.1 (drop run.0 bs))) tests runs
    ∙ same-true (first_run bs) (chosen (longest bs)) (every-at 8 (λ cs. same (first_run cs) (chosen (longest cs))) bs (length-map' groups ∙ len) all_cases)

chosen_none : (run : ℕ × ℕ) → run.1 < 2 → chosen run ≡ None
chosen_none run few = ap (λ (b : Bool). cond b None (Some run)) (lt-ltb run.1 2 few)

chosen_some : (run : ℕ × ℕ) → 2 ≤ run.1 → chosen run ≡ Some run
chosen_some run some = ap (λ (b : Bool). cond b None (Some run)) (le-ltb run.1 2 some)

from_start : (groups : List ℕ) (i : ℕ) → i ≤ 0 → longest (map is_zero (drop i groups)) ≡ longest (map is_zero groups)
from_start groups i none = ap (λ (k : ℕ). longest (map is_zero (drop k groups))) {x = i} {y = 0} (omega arith)

pub run_none : (groups : List ℕ) (i n : ℕ) → length groups ≡ 8 → i ≤ 0 → n ≡ (longest (map is_zero (drop i groups))).1 → n < 2 → None ≡ shortened_run groups
run_none groups i n len none e few =
    let whole = from_start groups i none in
    sym (shortened_run-chosen groups len ∙ chosen_none (longest (map is_zero groups)) (omega (arith, e, ap (λ (r : ℕ × ℕ). r.1) whole)))

pub run_some : (groups : List ℕ) (i start n : ℕ) → length groups ≡ 8 → i ≤ 0 → start ≡ i + (longest (map is_zero (drop i groups))).0 → n ≡ (longest (map is_zero (drop i groups))).1 → 2 ≤ n → Some (start, n) ≡ shortened_run groups
run_some groups i start n len none e f some =
    let whole = from_start groups i none in
    let first : start ≡ (longest (map is_zero groups)).0 = omega (arith, e, ap (λ (r : ℕ × ℕ). r.0) whole) in
    let second : n ≡ (longest (map is_zero groups)).1 = f ∙ ap (λ (r : ℕ × ℕ). r.1) whole in
    sym (shortened_run-chosen groups len ∙ chosen_some (longest (map is_zero groups)) (omega (arith, second)) ∙ ap (λ (k : ℕ). Some (k, (longest (map is_zero groups)).1)) (sym first) ∙ ap (λ (k : ℕ). Some (start, k)) (sym second))
