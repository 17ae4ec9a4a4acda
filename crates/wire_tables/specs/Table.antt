-- The rows of a table as values, without the place of their names in memory.
use Rattle.std.specs.Prelude.{List, map}
use Rattle.wire_tables.specs.declared.table.CodeRow.{CodeRow}
use Rattle.bmp_specs.specs.Registries.{CodeRowValue, row}

abbrev pub row_values : List CodeRow → List CodeRowValue
row_values rows = map (λ r. row r.code r.shape r.name.now) rows
