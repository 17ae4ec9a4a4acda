-- The routes that pass a test of their attributes, and a walk over them that keeps a row of each run.
use Rattle.std.specs.Prelude.{◌≡◌, ℕ, ◌<◌, ◌+◌, ◌++◌, Bool, true, false, if◌then◌else◌, List, [], ◌∷◌, length, take, drop, slice_index_or, Option, None, Some}
use Rattle.std.specs.declared.cmp.Ordering.{Ordering}
use Rattle.std.specs.List.{AllByRecursion, filter}
use Rattle.std.specs.List.Sorted.{IsStrictlySortedBy}
use Rattle.std.specs.Map.{keys_of}
use Rattle.std.specs.Option.{is_some, option_map}
use Rattle.std.specs.Ordering.{is_lt}
use Rattle.bmp_specs.specs.declared.wire.Family.{Family}
use Rattle.bmp_specs.specs.Values.{NlriValue}
use Rattle.route_runs.specs.Nlri.{with_family}
use Rattle.route_runs.specs.Override.{value_at}
use Rattle.route_runs.specs.Places.{is_after}
use Rattle.route_runs.specs.Runs.{latest, seen}

-- the pairs of a family where one is named, else all
abbrev pub of_named : {A : Type 0} → Option Family → List (NlriValue × A) → List (NlriValue × A)
of_named None es = es
of_named (Some family) es = with_family family es

-- the pairs whose attributes pass a test
abbrev pub sifted : {K A : Type 0} → (A → Bool) → List (K × A) → List (K × A)
sifted test es = filter (λ e. test e.1) es

-- ---- inside
-- the pairs of a walk, where there is one
abbrev pub pairs_in : {X : Type 0} → Option (List X) → List X
pairs_in None = []
pairs_in (Some es) = es

-- a set, where it passes
abbrev pub passing : {A : Type 0} → (A → Bool) → Option A → Option A
passing test None = None
passing test (Some x) = if test x then Some x else None

abbrev pub Passes : {A : Type 0} → (A → Bool) → Option A → Type 0
Passes test o = is_some (passing test o) ≡ true

abbrev pub Fails : {A : Type 0} → (A → Bool) → Option A → Type 0
Fails test o = passing test o ≡ None

-- the first of a list, where there is one
abbrev pub front : {X : Type 0} → List X → Option X
front [] = None
front (x ∷ xs) = Some x

abbrev pub IfFront : {X : Type 0} → (X → Type 0) → List X → Type 0
IfFront P [] = Unit {0}
IfFront P (x ∷ xs) = P x

-- from one number of a row on to another one: no row between them passes, and the row of that number does, where there is one
pub record IsOnward {K A : Type 0} (test : A → Bool) (run : List (K × Option A)) (from to : ℕ) : Type 0 where
  pub between : List (K × Option A)
  pub behind : drop from run ≡ between ++ drop to run
  pub before : take to run ≡ take from run ++ between
  pub fail : AllByRecursion (λ (e : K × Option A). Fails test e.1) between
  pub here : IfFront (λ (e : K × Option A). Passes test e.1) (drop to run)

-- A run stands between its rows that were passed and those that are left. Where no later run has a key: a row that was passed
-- fails or isn't after the place, and one that is left is after it. The first that is left passes.
pub record IsSplit {K A : Type 0} (cmp : K → K → Ordering) (test : A → Bool) (place : Option K) (later : List (List (K × Option A))) (passed rest : List (K × Option A)) : Type 0 where
  pub ordered : IsStrictlySortedBy cmp (keys_of (passed ++ rest))
  pub before : (q : K) → is_after cmp place q ≡ true → latest cmp q later ≡ None → Fails test (seen (value_at cmp q passed))
  pub beyond : (q : K) → is_some (value_at cmp q rest) ≡ true → latest cmp q later ≡ None → is_after cmp place q ≡ true
  pub here : IfFront (λ (e : K × Option A). Passes test e.1) rest

abbrev pub IsSpot : {K A : Type 0} → (K → K → Ordering) → (A → Bool) → Option K → List (List (K × Option A)) → List (K × Option A) → ℕ → Type 0
IsSpot cmp test place later run n = IsSplit cmp test place later (take n run) (drop n run)

-- each run stands at the row of its number
abbrev pub AreSpots : {K A : Type 0} → (K → K → Ordering) → (A → Bool) → Option K → List (List (K × Option A)) → List ℕ → Type 0
AreSpots cmp test place [] ns = Unit {0}
AreSpots cmp test place (run ∷ runs) [] = ⊥
AreSpots cmp test place (run ∷ runs) (n ∷ ns) = IsSpot cmp test place runs run n × AreSpots cmp test place runs ns

-- no run has a row left
abbrev pub AreEnded : {K A : Type 0} → List (List (K × Option A)) → List ℕ → Type 0
AreEnded [] ns = Unit {0}
AreEnded (run ∷ runs) [] = Unit {0}
AreEnded (run ∷ runs) (n ∷ ns) = (drop n run ≡ []) × AreEnded runs ns

-- no row that is left first in its run is before a key
abbrev pub AreNotBefore : {K A : Type 0} → (K → K → Ordering) → K → List (List (K × Option A)) → List ℕ → Type 0
AreNotBefore cmp q [] ns = Unit {0}
AreNotBefore cmp q (run ∷ runs) [] = Unit {0}
AreNotBefore {K} {A} cmp q (run ∷ runs) (n ∷ ns) = IfFront (λ (e : K × Option A). is_lt (cmp e.0 q) ≡ false) (drop n run) × AreNotBefore cmp q runs ns

-- the key of the row that a run of this number stands at
abbrev pub key_at : {K A : Type 0} → List (List (K × Option A)) → List ℕ → ℕ → Option K
key_at {K} {A} runs ns number = option_map (λ (e : K × Option A). e.0) (front (drop (slice_index_or ns number 0) (slice_index_or runs number [])))

-- the run of this number stands at this key, and none from another number on at a lesser one
pub record IsLeastFrom {K A : Type 0} (cmp : K → K → Ordering) (runs : List (List (K × Option A))) (ns : List ℕ) (from : ℕ) (found : ℕ × K) : Type 0 where
  pub within : found.0 < length runs
  pub key : key_at runs ns found.0 ≡ Some found.1
  pub least : AreNotBefore cmp found.1 (drop from runs) (drop from ns)

-- the lesser of a key with its run's number and another one
abbrev pub lesser_spot : {K : Type 0} → (K → K → Ordering) → Option (ℕ × K) → ℕ → Option K → Option (ℕ × K)
lesser_spot cmp found number None = found
lesser_spot cmp None number (Some k) = Some (number, k)
lesser_spot cmp (Some f) number (Some k) = if is_lt (cmp k f.1) then Some (number, k) else Some f

-- how many rows are left in all runs
abbrev pub rows_left : {K A : Type 0} → List (List (K × Option A)) → List ℕ → ℕ
rows_left [] ns = 0
rows_left (run ∷ runs) [] = 0
rows_left (run ∷ runs) (n ∷ ns) = length (drop n run) + rows_left runs ns
