-- A walk over the pairs of a table.
use Rattle.std.specs.Prelude.{◌≡◌, ℕ, ◌<◌, ◌≤◌, true, false, List, length, slice_index_or, Option, None, Some}
use Rattle.std.specs.declared.cmp.Ordering.{Ordering}
use Rattle.std.specs.Option.{option_map}
use Rattle.route_runs.specs.Places.{is_after}

-- the pairs that are walked over, and the key of the last one that was given
pub record Walking (K A : Type 0) : Type 0 where
  pub pairs : List (K × A)
  pub place : Option K

-- the place after a pair was given, or where there is none left
abbrev pub moved : {K A : Type 0} → Option K → Option (K × A) → Option K
moved place None = place
moved place (Some e) = Some e.0

-- ---- inside
-- the pairs of a walk, where there is one
abbrev pub pairs_in : {K A : Type 0} → Option (Walking K A) → Option (List (K × A))
pairs_in {K} {A} walk = option_map (λ (w : Walking K A). w.pairs) walk

abbrev pub AreBefore : {K : Type 0} → (K → K → Ordering) → K → List K → ℕ → Type 0
AreBefore {K} cmp place ks n = (k : ℕ) (d : K) → k < n → is_after cmp (Some place) (slice_index_or ks k d) ≡ false

abbrev pub AreBehind : {K : Type 0} → (K → K → Ordering) → K → List K → ℕ → Type 0
AreBehind {K} cmp place ks n = (k : ℕ) (d : K) → n ≤ k → k < length ks → is_after cmp (Some place) (slice_index_or ks k d) ≡ true
