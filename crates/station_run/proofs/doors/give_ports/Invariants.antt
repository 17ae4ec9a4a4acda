use Rattle.std.proofs.Common.{◌≡◌, ◌+◌, ◌≤◌, length}
use Rattle.station_doors.specs.Doors.{most_places}
use Rattle.station_run.proofs.Returning.{Return}
use Rattle.station_run.proofs.doors.give_ports.Given as goal

abbrev pub invariant-loop-port : goal.invariant-loop-port
invariant-loop-port g l = record {
  back : Return g.Y.Port.Port.aside (g.Y.LaneYard.seen l.fn.yard).told (g.Y.LaneYard.seen l.yard).told l.fn.ports.items l.ports.items l.lane;
  few : l.lane + length l.ports.items ≤ most_places;
  calls : (g.Y.LaneYard.seen l.yard).calls ≡ (g.Y.LaneYard.seen l.fn.yard).calls;
  faults : g.Y.LaneYard.faults l.yard ≡ g.Y.LaneYard.faults l.fn.yard;
  listened : (g.Y.LaneYard.seen l.yard).listened ≡ (g.Y.LaneYard.seen l.fn.yard).listened;
  endings : (g.Y.LaneYard.seen l.yard).endings ≡ (g.Y.LaneYard.seen l.fn.yard).endings;
  ending : (g.Y.LaneYard.seen l.yard).last_ending ≡ (g.Y.LaneYard.seen l.fn.yard).last_ending;
}

abbrev pub decreases-loop-port : goal.decreases-loop-port
decreases-loop-port g l = length l.ports.items
