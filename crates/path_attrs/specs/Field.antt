-- The value of the attribute of one type in a field of path attributes.
use Rattle.std.specs.Prelude.{ℕ, List, Option, None, MatchOption, ⊤, option_copied, slice_index_or}
use Rattle.std.specs.Borrow.{Bor}
use Rattle.bmp_specs.specs.Attributes.{Optional}
use Rattle.bmp_specs.specs.Registries.{FitsShape, attribute_types, first_row}

-- the value at the type, among values that stand at their types
abbrev pub value_at : List (Option (Bor (List ℕ))) → ℕ → Option (List ℕ)
value_at values code = option_copied (slice_index_or values code None)

-- a value of so many bytes has the shape that the registry has for its type; a type that it doesn't have takes any
abbrev pub HasShape : ℕ → ℕ → Type 0
HasShape code bytes = MatchOption (first_row code attribute_types) ⊤ (λ row. FitsShape row.shape bytes)

-- there are bytes, and they have no value
abbrev pub Breaks : {V : Type 0} → (List ℕ → V → Type 0) → Option (List ℕ) → Type 0
Breaks {V} Is value = (v : Option V) → Optional Is value v → ⊥
