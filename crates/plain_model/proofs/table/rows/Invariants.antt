use Rattle.std.proofs.Common.{map}
use Rattle.plain_model.specs.Values.{row_value, effect_value}
use Rattle.plain_model.proofs.Gathering.{Gathers}
use Rattle.plain_model.proofs.table.rows.Given as goal

abbrev pub invariant-loop-at : goal.invariant-loop-at
invariant-loop-at l = Gathers (map effect_value l.effects) l.at (map row_value l.rows.items)
