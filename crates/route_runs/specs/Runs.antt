-- What the runs of a table hold together.
use Rattle.std.specs.Prelude.{◌≡◌, ℕ, ◌≤◌, List, [], ◌∷◌, ◌++◌, length, take, Option, None, Some}
use Rattle.std.specs.Arc.{arc_value}
use Rattle.std.specs.Borrow.{Bor}
use Rattle.std.specs.declared.alloc.Global.{Global}
use Rattle.std.specs.declared.cmp.Ordering.{Ordering}
use Rattle.std.specs.declared.sync.Arc.{Arc}
use Rattle.std.specs.BTreeMap.{insert_entry}
use Rattle.std.specs.List.Sorted.{IsStrictlySortedBy}
use Rattle.std.specs.Map.{keys_of}
use Rattle.route_runs.specs.Override.{value_at, or_else}

-- the rows of all runs, those of the latest run first
abbrev pub joined : {K A : Type 0} → List (List (K × Option A)) → List (K × Option A)
joined [] = []
joined (run ∷ runs) = joined runs ++ run

-- the same rows in order; where keys are equal the first row stays
abbrev pub in_order : {K X : Type 0} → (K → K → Ordering) → List (K × X) → List (K × X)
in_order cmp [] = []
in_order cmp (e ∷ es) = insert_entry cmp (in_order cmp es) e.0 e.1

abbrev pub add_live : {K A : Type 0} → K → Option A → List (K × A) → List (K × A)
add_live k None es = es
add_live k (Some x) es = (k, x) ∷ es

-- the keys that aren't gone, with their sets
abbrev pub live : {K A : Type 0} → List (K × Option A) → List (K × A)
live [] = []
live (e ∷ es) = add_live e.0 e.1 (live es)

-- the live pairs of all runs, in order
abbrev pub contents : {K A : Type 0} → (K → K → Ordering) → List (List (K × Option A)) → List (K × A)
contents cmp runs = live (in_order cmp (joined runs))

-- what a run of a table says of a key, or else what was there
abbrev pub changed : {A : Type 0} → Option (Option A) → Option A → Option A
changed None was = was
changed (Some now) was = now

-- the pairs after a run's rows were set, and those that are gone taken out
pub record IsChanged {K A : Type 0} (cmp : K → K → Ordering) (old : List (K × A)) (run : List (K × Option A)) (new : List (K × A)) : Type 0 where
  pub ordered : IsStrictlySortedBy cmp (keys_of new)
  pub values : (q : K) → value_at cmp q new ≡ changed (value_at cmp q run) (value_at cmp q old)

-- what a reference to a shared set points to
abbrev pub shared : {A : Type 0} → Bor (Arc A Global) → A
shared r = arc_value r.now

-- ---- inside
-- what the latest run that has a key says of it
abbrev pub latest : {K A : Type 0} → (K → K → Ordering) → K → List (List (K × Option A)) → Option (Option A)
latest cmp q [] = None
latest cmp q (run ∷ runs) = or_else (latest cmp q runs) (value_at cmp q run)

-- what a reader sees
abbrev pub seen : {A : Type 0} → Option (Option A) → Option A
seen None = None
seen (Some o) = o

-- a run stands for another one and for the runs from a place on
pub record IsSettled {K A : Type 0} (cmp : K → K → Ordering) (runs : List (List (K × Option A))) (run : List (K × Option A)) (own : List (K × Option A)) (kept : ℕ) : Type 0 where
  pub within : kept ≤ length runs
  pub same : (q : K) → seen (or_else (value_at cmp q own) (latest cmp q (take kept runs))) ≡ seen (or_else (value_at cmp q run) (latest cmp q runs))
