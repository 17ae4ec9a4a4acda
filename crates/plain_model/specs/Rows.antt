-- Rows at their places in a list of effects, and rows put into a list.
use Rattle.std.specs.Prelude.{◌≡◌, ◌⊎◌, ◌↔◌, ℕ, Bool, true, ◌≤◌, List, ◌∷◌, [], ◌++◌, length, map, take, slice_get, MatchOption, ⊤}
use Rattle.std.specs.List.{AllByRecursion, Contains}
use Rattle.std.specs.List.Sorted.{IsStrictlySortedBy}
use Rattle.std.specs.declared.cmp.Ordering.TheVariants.{Less}
use Rattle.bmp_specs.specs.Values.{KeyValue, EffectValue}
use Rattle.bmp_specs.specs.PeerUp.{IsUp}
use Rattle.bmp_specs.specs.Rows.{RowKeyValue, RowValue, ReplacesRow, HasRow}
use Rattle.bmp_specs.specs.TableRows.{row_key_cmp}

-- the effects leave the row, which was announced by the effect at this place of the list
pub record IsRowAt (effects : List EffectValue) (at : ℕ) (row : RowValue) : Type 0 where
  pub has : HasRow effects row
  pub announced_at : length has.announced.before ≡ at

-- none of the effects ends what stands at the place
abbrev pub LeaveRow : RowKeyValue → List EffectValue → Type 0
LeaveRow place effects = AllByRecursion (λ effect. ¬ (ReplacesRow place effect)) effects

-- whatever effects stand before, an answer that holds after them becomes one that holds after this effect too
abbrev pub KeepsUp : KeyValue → EffectValue → Bool → Bool → Type 0
KeepsUp key effect before after = (effects : List EffectValue) → (before ≡ true) ↔ IsUp effects key → (after ≡ true) ↔ IsUp (effects ++ effect ∷ []) key

abbrev pub row_keys_of : List RowValue → List RowKeyValue
row_keys_of rows = map (λ row. row.row_key) rows

-- at this index of the places in order the place has to stand: those before it come first, and the next one comes later
pub record IsGap (places : List RowKeyValue) (place : RowKeyValue) (at : ℕ) : Type 0 where
  pub within : at ≤ length places
  pub before : AllByRecursion (λ p. row_key_cmp p place ≡ Less) (take at places)
  pub next : MatchOption (slice_get places at) ⊤ (λ p. row_key_cmp place p ≡ Less)

-- the row was put into the list, unless a row stood at its place
pub record Puts (old : List RowValue) (row : RowValue) (new : List RowValue) : Type 0 where
  pub ordered : IsStrictlySortedBy row_key_cmp (row_keys_of new)
  pub kept : (other : RowValue) → Contains old other → Contains new other
  pub from : (other : RowValue) → Contains new other → Contains old other ⊎ (other ≡ row)
  pub placed : (other : RowValue) × Contains new other × (other.row_key ≡ row.row_key)
