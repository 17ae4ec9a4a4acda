use Rattle.std.proofs.Common.{◌≡◌, [], None, replicate}
use Rattle.station_core.proofs.machine.new_lanes.Given as goal

abbrev pub invariant-loop-lane : goal.invariant-loop-lane
invariant-loop-lane g l = l.lanes.items ≡ replicate l._lane (record { due = []; present = None })
