-- How many pairs there are after one more run.
use Rattle.std.proofs.Common.{◌≡◌, ℕ, suc, ◌+◌, ◌<◌, Bool, true, false, cond, not, nat_eq, List, [], ◌∷◌, length, get_or, map, take, Option, None, Some, refl, ap, sym, ◌∙◌, subst, arith}
use Rattle.std.specs.declared.cmp.Ordering.{Ordering}
use Rattle.std.specs.Ordering.{is_eq}
use Rattle.std.specs.Cmp.{IsTotalOrder}
use Rattle.std.specs.BTreeMap.{insert_entry, is_at}
use Rattle.std.specs.List.{filter}
use Rattle.std.specs.Map.{keys_of, lookup, remove_entry}
use Rattle.std.specs.Option.{is_some, option_map}
use Rattle.std.proofs.lemmas.Bool.Decides.{nat_tests}
use Rattle.std.proofs.lemmas.List.{get_or_default, length-map, take-map}
use Rattle.std.proofs.lemmas.Map.Lookups.{CmpEqualImpliesEq}
use Rattle.bmp_specs.proofs.SortedPairs.{sorted-insert, sorted-remove, lookup-insert, lookup-remove, length-insert, one_list}
use Rattle.route_runs.specs.Override.{value_at}
use Rattle.route_runs.specs.Rows.{gone, set_at, IsHandle}
use Rattle.route_runs.specs.Runs.{add_live, live, contents, changed, IsChanged, latest, seen}
use Rattle.route_runs.proofs.Merging.{Rising, rising_head, rising_tail, none_below}
use Rattle.route_runs.proofs.Handles.{set_gone}
use Rattle.route_runs.proofs.Overriding.{set_there}
use Rattle.route_runs.proofs.Contents.{at_mapped, is_changed, value-contents, rising-contents}
use Rattle.route_runs.proofs.Searching.{itself, latest_step}

-- whether a handle names a set, seen by the handle
pub set_is : {A : Type 0} (packs : List (List A)) (h : ℕ) → IsHandle packs h → is_some (set_at packs h) ≡ not (nat_eq h gone)
set_is packs h known = by_test (nat_eq h gone) refl
  where
    by_test : (b : Bool) → nat_eq h gone ≡ b → is_some (set_at packs h) ≡ not b
    by_test true t = let e : h ≡ gone = grind (arith, nat_tests, t) in ap is_some (set_gone packs h e)
    by_test false t = let s = set_there packs h known t in ap is_some s.1

abbrev bool_of : Option Bool → Bool
bool_of None = false
bool_of (Some b) = b

-- what a run says of a key, seen by whether it is a set
pub said : {A : Type 0} (v : Option (Option A)) (b : Bool) → Some b ≡ option_map is_some v → (o : Option A) × (Some o ≡ v) × (b ≡ is_some o)
said None b e = absurd cc
said (Some o) b e = (o, refl, ap bool_of e)

pub said_nothing : {A : Type 0} (v : Option (Option A)) → None ≡ option_map is_some v → None ≡ v
said_nothing None e = refl
said_nothing (Some o) e = absurd cc

-- 1 for what is so
abbrev pub one_if : Bool → ℕ
one_if b = cond b 1 0

filter_step : {X : Type 0} (x : X) (xs : List X) (b : Bool) → length (cond b (x ∷ xs) xs) ≡ one_if b + length xs
filter_step x xs true = omega arith
filter_step x xs false = omega arith

add_step : {K A : Type 0} (k : K) (o : Option A) (es : List (K × A)) → length (add_live k o es) ≡ one_if (is_some o) + length es
add_step k None es = omega arith
add_step k (Some x) es = omega arith

remove_cases : {K X : Type 0} (e : K × X) (es rest : List (K × X)) (o : Option X) (b : Bool) → length rest + one_if (is_some o) ≡ length es → length (cond b es (e ∷ rest)) + one_if (is_some (cond b (Some e.1) o)) ≡ suc (length es)
remove_cases e es rest o true h = omega arith
remove_cases e es rest o false h = omega (arith, h)

remove_length : {K X : Type 0} (test : K → Bool) (es : List (K × X)) → length (remove_entry test es) + one_if (is_some (lookup test es)) ≡ length es
remove_length test [] = refl
remove_length test (e ∷ es) = remove_cases e es (remove_entry test es) (lookup test es) (test e.0) (remove_length test es)

insert_cases : (n m : ℕ) (b : Bool) → n ≡ cond b m (m + 1) → n + one_if b ≡ m + 1
insert_cases n m true h = omega (arith, h)
insert_cases n m false h = omega (arith, h)

-- no key has a set where there is no run
pub none_known : {K A X : Type 0} (cmp : K → K → Ordering) (run_of : X → List (K × Option A)) (runs : List X) (keys : List K) → length runs ≡ 0 → length (filter (λ k. is_some (seen (latest cmp k (map run_of runs)))) keys) ≡ 0
none_known cmp run_of [] [] e = refl
none_known cmp run_of [] (k ∷ keys) e = none_known cmp run_of [] keys e
none_known cmp run_of (run ∷ runs) keys e = absurd (omega (arith, e))

-- ---- the rows of a run, set one by one
abbrev pub set_row : {K A : Type 0} (cmp : K → K → Ordering) → K → Option A → List (K × A) → List (K × A)
set_row cmp k None es = remove_entry (is_at (cmp k)) es
set_row cmp k (Some x) es = insert_entry cmp es k x

abbrev pub set_rows : {K A : Type 0} (cmp : K → K → Ordering) → List (K × A) → List (K × Option A) → List (K × A)
set_rows cmp old [] = old
set_rows cmp old (e ∷ run) = set_row cmp e.0 e.1 (set_rows cmp old run)

set_cases : {A : Type 0} (b : Bool) (o : Option A) (was : Option A) (run : Option (Option A)) → cond b o (changed run was) ≡ changed (cond b (Some o) run) was
set_cases true o was run = refl
set_cases false o was run = refl

module _ {K A : Type 0} (cmp : K → K → Ordering) (total : IsTotalOrder cmp) where
  row_rises : (k : K) (o : Option A) (es : List (K × A)) → Rising cmp es → Rising cmp (set_row cmp k o es)
  row_rises k None es s = sorted-remove cmp (is_at (cmp k)) es s
  row_rises k (Some x) es s = sorted-insert cmp total es k x s

  rows_rise : (old : List (K × A)) (run : List (K × Option A)) → Rising cmp old → Rising cmp (set_rows cmp old run)
  rows_rise old [] s = s
  rows_rise old (e ∷ run) s = row_rises e.0 e.1 (set_rows cmp old run) (rows_rise old run s)

  row_length : (k : K) (o : Option A) (es : List (K × A)) → Rising cmp es → length (set_row cmp k o es) + one_if (is_some (value_at cmp k es)) ≡ length es + one_if (is_some o)
  row_length k None es s = let n = remove_length (is_at (cmp k)) es in omega (arith, n)
  row_length k (Some x) es s = insert_cases (length (insert_entry cmp es k x)) (length es) (is_some (value_at cmp k es)) (length-insert cmp total es k x s)

  value_row : (q k : K) (o : Option A) (es : List (K × A)) → Rising cmp es → value_at cmp q (set_row cmp k o es) ≡ cond (is_at (cmp q) k) o (value_at cmp q es)
  value_row q k None es s = lookup-remove cmp total q k es s
  value_row q k (Some x) es s = lookup-insert cmp total q k x es

  value_rows : (q : K) (old : List (K × A)) (run : List (K × Option A)) → Rising cmp old → value_at cmp q (set_rows cmp old run) ≡ changed (value_at cmp q run) (value_at cmp q old)
  value_rows q old [] s = refl
  value_rows q old (e ∷ run) s =
      value_row q e.0 e.1 (set_rows cmp old run) (rows_rise old run s)
      ∙ ap (cond (is_at (cmp q) e.0) e.1) (value_rows q old run s)
      ∙ set_cases (is_at (cmp q) e.0) e.1 (value_at cmp q old) (value_at cmp q run)

module _ {K A : Type 0} (cmp : K → K → Ordering) (total : IsTotalOrder cmp) (exact : CmpEqualImpliesEq cmp) where
  -- a key that the rest of the run doesn't have
  was_there : (old : List (K × A)) (e : K × Option A) (run : List (K × Option A)) → Rising cmp old → Rising cmp (e ∷ run) → value_at cmp e.0 (set_rows cmp old run) ≡ value_at cmp e.0 old
  was_there old e run s t =
      value_rows cmp total e.0 old run s
      ∙ ap (λ o. changed o (value_at cmp e.0 old)) (none_below cmp total exact e.0 e.0 run (ap is_eq (itself cmp total exact e.0)) (rising_head cmp e run t))

  rows_length : (test : K → Bool) (old : List (K × A)) (run : List (K × Option A)) → Rising cmp old → Rising cmp run → ((k : K) → test k ≡ is_some (value_at cmp k old))
      → length (set_rows cmp old run) + length (filter test (keys_of run)) ≡ length old + length (live run)
  rows_length test old [] s t same = refl
  rows_length test old (e ∷ run) s t same =
      let rest = rows_length test old run s (rising_tail cmp e run t) same in
      let row = row_length cmp total e.0 e.1 (set_rows cmp old run) (rows_rise cmp total old run s) in
      let was : one_if (is_some (value_at cmp e.0 (set_rows cmp old run))) ≡ one_if (test e.0) = ap (λ o. one_if (is_some o)) (was_there old e run s t) ∙ ap one_if (sym (same e.0)) in
      let hit = filter_step e.0 (filter test (keys_of run)) (test e.0) in
      let more = add_step e.0 e.1 (live run) in
      omega (arith, rest, row, was, hit, more)

  -- what a run says is set: its live rows come on top, its keys that had a value are taken off
  pub changed_length : (test : K → Bool) (old : List (K × A)) (run : List (K × Option A)) (new : List (K × A)) → Rising cmp old → Rising cmp run → ((k : K) → test k ≡ is_some (value_at cmp k old)) → IsChanged cmp old run new
      → length new + length (filter test (keys_of run)) ≡ length old + length (live run)
  changed_length test old run new s t same c =
      ap (λ l. length l + length (filter test (keys_of run))) (one_list cmp total exact new (set_rows cmp old run) c.ordered (rows_rise cmp total old run s) (λ q. c.values q ∙ sym (value_rows cmp total q old run s)))
      ∙ rows_length test old run s t same

  -- one run more of a list of runs
  pub contents_length : (runs : List (List (K × Option A))) (run : List (K × Option A)) (n : ℕ) → n < length runs → run ≡ get_or runs n run → Rising cmp run
      → length (contents cmp (take (n + 1) runs)) + length (filter (λ k. is_some (seen (latest cmp k (take n runs)))) (keys_of run)) ≡ length (contents cmp (take n runs)) + length (live run)
  contents_length runs run n lt at t =
      changed_length (λ k. is_some (seen (latest cmp k (take n runs)))) (contents cmp (take n runs)) run (contents cmp (take (n + 1) runs))
      (rising-contents cmp total exact (take n runs)) t (λ k. ap is_some (sym (value-contents cmp total exact k (take n runs))))
      (is_changed cmp total exact (take n runs) (take (n + 1) runs) run (λ q. ap seen (latest_step cmp q runs run n lt at)))

  -- one step of the count over shared runs; each of the two is a run that was read at that place
  pub count_step : {X : Type 0} (run_of : X → List (K × Option A)) (runs : List X) (n : ℕ) (x y : X) (run same : List (K × Option A)) (count more known : ℕ) → n < length runs → x ≡ get_or runs n x → y ≡ get_or runs n y → run ≡ run_of x → same ≡ run_of y → Rising cmp run
      → count ≡ length (contents cmp (take n (map run_of runs))) → more ≡ length (live run) → known ≡ length (filter (λ k. is_some (seen (latest cmp k (map run_of (take n runs))))) (keys_of same))
      → length (contents cmp (take (n + 1) (map run_of runs))) + known ≡ count + more
  count_step run_of runs n x y run same count more known lt at again is is' t sum live_is known_is =
      let test : K → Bool = λ k. is_some (seen (latest cmp k (take n (map run_of runs)))) in
      let first : x ≡ y = at ∙ get_or_default runs n x y lt ∙ sym again in
      let one : same ≡ run_of x = is' ∙ ap run_of (sym first) in
      let long : n < length (map run_of runs) = omega (arith, lt, length-map runs run_of) in
      let step = contents_length (map run_of runs) (run_of x) n long (ap run_of at ∙ sym (at_mapped run_of runs n x)) (subst (Rising cmp) is t) in
      let live_at : more ≡ length (live (run_of x)) = live_is ∙ ap (λ l. length (live l)) is in
      let known_at : known ≡ length (filter test (keys_of (run_of x))) =
      known_is ∙ ap (λ l. length (filter (λ k. is_some (seen (latest cmp k l))) (keys_of same))) (sym (take-map run_of n runs)) ∙ ap (λ l. length (filter test (keys_of l))) one in
      omega (arith, step, sum, live_at, known_at)
