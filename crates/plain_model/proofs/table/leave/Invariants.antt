use Rattle.std.proofs.Common.{map, take}
use Rattle.plain_model.specs.Rows.{LeaveRow}
use Rattle.plain_model.specs.Values.{row_key_value, effect_value}
use Rattle.plain_model.proofs.table.leave.Given as goal

abbrev pub invariant-loop-effect : goal.invariant-loop-effect
invariant-loop-effect l = LeaveRow (row_key_value l.place) (map effect_value (take l.effect-index l.effects))
