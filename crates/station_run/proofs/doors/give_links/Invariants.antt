use Rattle.std.proofs.Common.{◌≡◌, ◌+◌, ◌≤◌, length}
use Rattle.station_doors.specs.Doors.{most_places}
use Rattle.station_run.specs.Handed.{link_shows}
use Rattle.station_run.proofs.Returning.{ReturnLinks}
use Rattle.station_run.proofs.doors.give_links.Given as goal

abbrev pub invariant-loop-link : goal.invariant-loop-link
invariant-loop-link g l = record {
  back : ReturnLinks (link_shows g.Y.Link.Sink.aside g.Y.Link.Sink.told g.Y.Link.Sink.faults) (g.Y.LaneYard.seen l.fn.yard).told (g.Y.LaneYard.seen l.yard).told l.fn.links.items l.links.items l.number;
  few : l.number + length l.links.items ≤ most_places;
  calls : (g.Y.LaneYard.seen l.yard).calls ≡ (g.Y.LaneYard.seen l.fn.yard).calls;
  faults : g.Y.LaneYard.faults l.yard ≡ g.Y.LaneYard.faults l.fn.yard;
  listened : (g.Y.LaneYard.seen l.yard).listened ≡ (g.Y.LaneYard.seen l.fn.yard).listened;
  endings : (g.Y.LaneYard.seen l.yard).endings ≡ (g.Y.LaneYard.seen l.fn.yard).endings;
  ending : (g.Y.LaneYard.seen l.yard).last_ending ≡ (g.Y.LaneYard.seen l.fn.yard).last_ending;
}

abbrev pub decreases-loop-link : goal.decreases-loop-link
decreases-loop-link g l = length l.links.items
