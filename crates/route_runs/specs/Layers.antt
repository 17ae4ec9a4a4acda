-- Changes that are gathered for a table: of each key the last one.
use Rattle.std.specs.Prelude.{◌≡◌, ℕ, List, map, reverse, Option, Some, option_and_then}
use Rattle.std.specs.declared.cmp.Ordering.{Ordering}
use Rattle.std.specs.List.{Contains}
use Rattle.std.specs.List.Sorted.{IsStrictlySortedBy}
use Rattle.std.specs.Map.{keys_of}
use Rattle.route_runs.specs.Override.{value_at, or_else}
use Rattle.route_runs.specs.Rows.{named}
use Rattle.route_runs.specs.Runs.{in_order}

-- rows with the sets that their handles name, in the order of their keys, of each key the last one
abbrev pub last_rows : {K A : Type 0} → (K → K → Ordering) → List (List A) → List (K × ℕ) → List (K × Option A)
last_rows cmp packs es = in_order cmp (reverse (map (named packs) es))

-- each of these keys is changed to this, all others as they were
pub record AreChangedTo {K A : Type 0} (cmp : K → K → Ordering) (keys : List K) (to : Option A) (old new : List (K × Option A)) : Type 0 where
  pub ordered : IsStrictlySortedBy cmp (keys_of new)
  pub these : (q : K) → Contains keys q → value_at cmp q new ≡ Some to
  pub others : (q : K) → (Contains keys q → ⊥) → value_at cmp q new ≡ value_at cmp q old

-- ---- inside
-- the changes with those of one run more
pub record IsLayered {K A : Type 0} (cmp : K → K → Ordering) (old run new : List (K × Option A)) : Type 0 where
  pub ordered : IsStrictlySortedBy cmp (keys_of new)
  pub values : (q : K) → value_at cmp q new ≡ or_else (value_at cmp q run) (value_at cmp q old)

-- keys that are changed to one set, the last first
abbrev pub all_to : {K A : Type 0} → List K → Option A → List (K × Option A)
all_to {K} keys set = reverse (map (λ (k : K). (k, set)) keys)

-- the handles of rows
abbrev pub handles_of : {K : Type 0} → List (K × ℕ) → List ℕ
handles_of {K} es = map (λ (e : K × ℕ). e.1) es

-- one run says what the changes say; there is none where there is no change
abbrev pub SaysTheSame : {K A : Type 0} → (K → K → Ordering) → List (K × Option A) → Option (List (K × Option A)) → Type 0
SaysTheSame {K} cmp changes run = (q : K) → option_and_then (value_at cmp q) run ≡ value_at cmp q changes
