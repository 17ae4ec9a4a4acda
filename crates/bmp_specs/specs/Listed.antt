-- All values that are so, as a list in order: a notion of ours, of any values.
use Rattle.std.specs.Prelude.{◌≡◌, ◌↔◌, ℕ, ◌<◌, List, length, map, slice_index_or}
use Rattle.std.specs.List.{Contains}
use Rattle.std.specs.List.Sorted.{IsStrictlySortedBy}
use Rattle.std.specs.declared.cmp.Ordering.{Ordering}

-- the list has exactly the values that are so, each once, in the order of their keys
pub record AreAll {A K : Type 0} (key : A → K) (cmp : K → K → Ordering) (Is : A → Type 0) (list : List A) : Type 0 where
  pub ordered : IsStrictlySortedBy cmp (map key list)
  pub exact : (x : A) → Contains list x ↔ Is x

-- for each item of a list, by its number, the other list has a part that fits it
pub record AreParallel {A B : Type 0} (Fits : ℕ → A → B → Type 0) (items : List A) (parts : List B) : Type 0 where
  pub count : length parts ≡ length items
  pub each : (k : ℕ) (a : A) (b : B) → k < length items → Fits k (slice_index_or items k a) (slice_index_or parts k b)
