use Rattle.std.proofs.Common.{◌≡◌, map, take}
use Rattle.std.specs.List.{AllByRecursion}
use Rattle.std.specs.declared.cmp.Ordering.TheVariants.{Less}
use Rattle.bmp_specs.specs.TableRows.{row_key_cmp}
use Rattle.plain_model.specs.Rows.{row_keys_of}
use Rattle.plain_model.specs.Values.{row_key_value, row_value}
use Rattle.plain_model.proofs.table.find_place.Given as goal

abbrev pub invariant-loop-at : goal.invariant-loop-at
invariant-loop-at l = AllByRecursion (λ p. row_key_cmp p (row_key_value l.place) ≡ Less) (take l.at (row_keys_of (map row_value l.rows)))
