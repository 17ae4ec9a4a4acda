-- How the VRPs of a table are found: in prefix order, each with its parent, the last one before it that contains it. A place
-- is told by how many entries stand before it, and a parent by the place after it.
use Rattle.std.specs.Prelude.{◌≡◌, ℕ, ◌-◌, ◌<◌, ◌≤◌, List, length, slice_index, slice_index_or, false}
use Rattle.std.specs.List.{All}
use Rattle.std.specs.List.Sorted.{IsPermutation, IsSortedByKey}
use Rattle.std.specs.Ordering.{is_gt}
use Rattle.bmp_specs.specs.Address.{IsAddressPrefix}
use Rattle.bmp_specs.specs.Containment.{ContainsPrefix}
use Rattle.bmp_specs.specs.Orders.{prefix_cmp}
use Rattle.bmp_specs.specs.Values.{PrefixValue}
use Rattle.rov_table.specs.declared.vrp.Vrp.{Vrp}

-- no entry from one place up to another contains the prefix
abbrev pub NoneContains : List Vrp → PrefixValue → ℕ → ℕ → Type 0
NoneContains sorted p low high = (k : ℕ) (d : Vrp) → low ≤ k → k < high → ContainsPrefix (slice_index_or sorted k d).prefix p → ⊥

-- no entry before the place `from` is after the prefix
abbrev pub NoneAfter : List Vrp → PrefixValue → ℕ → Type 0
NoneAfter sorted p from = (k : ℕ) (d : Vrp) → k < from → is_gt (prefix_cmp (slice_index_or sorted k d).prefix p) ≡ false

-- the entries before the place `from` that contain the prefix stand before the place `at`, and the one there is the last
pub record IsNearest (sorted : List Vrp) (from : ℕ) (p : PrefixValue) (at : ℕ) : Type 0 where
  pub within : at ≤ from
  pub none : NoneContains sorted p at from
  pub contains : (d : Vrp) → 0 < at → ContainsPrefix (slice_index_or sorted (at - 1) d).prefix p

-- a place before an entry, such that no entry between the two contains it
pub record IsParent (sorted : List Vrp) (i parent : ℕ) : Type 0 where
  pub before : parent ≤ i
  pub none : (d : Vrp) → NoneContains sorted (slice_index_or sorted i d).prefix parent i

abbrev pub AreParents : List Vrp → List ℕ → Type 0
AreParents sorted parents = (i : ℕ) → i < length parents → IsParent sorted i (slice_index parents i)

-- entries in prefix order, and their parents
pub record IsNested (sorted : List Vrp) (parents : List ℕ) : Type 0 where
  pub exact : All (λ v. IsAddressPrefix v.prefix) sorted
  pub ordered : IsSortedByKey (λ v. v.prefix) prefix_cmp sorted
  pub each : AreParents sorted parents

-- the entries of a table in prefix order, and the parents of all
pub record IsIndex (listed sorted : List Vrp) (parents : List ℕ) : Type 0 where
  pub same : IsPermutation listed sorted
  pub nested : IsNested sorted parents
  pub whole : length parents ≡ length sorted
