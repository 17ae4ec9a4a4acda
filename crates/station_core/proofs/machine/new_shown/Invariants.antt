use Rattle.std.proofs.Common.{◌≡◌, replicate}
use Rattle.std.specs.Arc.{arc_value}
use Rattle.station_core.proofs.machine.new_shown.Given as goal

abbrev pub invariant-loop-lane : goal.invariant-loop-lane
invariant-loop-lane l = l.shown.items ≡ replicate l._lane (arc_value l.tables, 0)
