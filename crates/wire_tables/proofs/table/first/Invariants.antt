use Rattle.std.proofs.Common.{◌≡◌, map, drop}
use Rattle.bmp_specs.specs.Registries.{first_row}
use Rattle.wire_tables.proofs.table.first.Given as goal

abbrev pub invariant-loop-row : goal.invariant-loop-row
invariant-loop-row g l = first_row l.code (map g.R.Row.value l.rows) ≡ first_row l.code (map g.R.Row.value (drop l.row-index l.rows))
