-- Wrong results that the clauses of this crate don't let through, each at values.
use Rattle.std.proofs.Common.{◌≡◌, List, [], ◌∷◌, Some, arith}
use Rattle.std.specs.Prelude.{codes, option_map}
use Rattle.bmp_specs.specs.Registries.{first_row, row, statistics_types}
use Rattle.bmp_specs.specs.declared.registry.Shape.TheVariants.{Gauge64, Free}
use Rattle.wire_tables.specs.declared.table.CodeRow.{CodeRow}
use Rattle.wire_tables.specs.Table.{row_values}

-- Of two rows with one code the last one is found.
the_last_row_with_a_code_is_not_found : option_map (λ r. r.name) (first_row 5 (row 5 Free (codes "first") ∷ row 5 Free (codes "last") ∷ [])) ≡ Some (codes "last") → ⊥
the_last_row_with_a_code_is_not_found last = grind (arith, last)

-- A statistic that RFC 7854 has as a 32-bit counter has the shape of a 64-bit gauge.
duplicate_updates_are_no_gauge : (rows : List CodeRow) → row_values rows ≡ statistics_types → option_map (λ r. r.shape) (first_row 13 (row_values rows)) ≡ Some Gauge64 → ⊥
duplicate_updates_are_no_gauge rows same gauge = grind (arith, same, gauge)
