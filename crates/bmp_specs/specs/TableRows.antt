-- The rows of a table as a list, in the order of our replies.
use Rattle.std.specs.Prelude.{List}
use Rattle.std.specs.declared.cmp.Ordering.{Ordering}
use Rattle.std.specs.Ordering.{on, then_cmp}
use Rattle.bmp_specs.specs.Listed.{AreAll}
use Rattle.bmp_specs.specs.Values.{EffectValue}
use Rattle.bmp_specs.specs.Rows.{RowKeyValue, RowValue, HasRow}
use Rattle.bmp_specs.specs.Orders.{key_cmp, view_cmp, nlri_cmp}

-- by peer, then by view, then by prefix and path identifier
abbrev pub row_key_cmp : RowKeyValue → RowKeyValue → Ordering
row_key_cmp = then_cmp (on (λ p. p.key) key_cmp) (then_cmp (on (λ p. p.view) view_cmp) (on (λ p. p.nlri) nlri_cmp))

-- the list has exactly the rows that the effects leave and that are asked for, each once, in this order
abbrev pub AreRows : (RowValue → Type 0) → List EffectValue → List RowValue → Type 0
AreRows asks effects rows = AreAll (λ row. row.row_key) row_key_cmp (λ row. HasRow effects row × asks row) rows
