use Rattle.std.proofs.Common.{◌≡◌, ◌+◌, ◌≤◌, [], Some, length}
use Rattle.std.specs.Vec.{vec_capacity}
use Rattle.station_run.specs.Handed.{Lends, call_after, link_shows, numbered, numbered_links}
use Rattle.station_run.proofs.doors.ask_all.Given as goal

abbrev pub invariant-loop-lane : goal.invariant-loop-lane
invariant-loop-lane g l = record {
  ports : length l.ports.items ≡ l.lane;
  links : l.links.items ≡ [];
  lends : Lends (g.Y.LaneYard.seen l.fn.yard).told (g.Y.LaneYard.seen l.yard).told (g.Y.LaneYard.seen l.fn.yard).calls (1 + l.lane) (numbered g.Y.Port.Port.aside 0 l.ports.items) [];
  calls : (g.Y.LaneYard.seen l.yard).calls ≡ call_after (g.Y.LaneYard.seen l.fn.yard).calls (1 + l.lane);
  faults : g.Y.LaneYard.faults l.yard ≡ g.Y.LaneYard.faults l.fn.yard;
  listened : (g.Y.LaneYard.seen l.yard).listened ≡ Some l.at;
  endings : (g.Y.LaneYard.seen l.yard).endings ≡ (g.Y.LaneYard.seen l.fn.yard).endings;
  ending : (g.Y.LaneYard.seen l.yard).last_ending ≡ (g.Y.LaneYard.seen l.fn.yard).last_ending;
  room : vec_capacity l.fn.ports ≤ vec_capacity l.ports;
  links_room : vec_capacity l.fn.links ≤ vec_capacity l.links;
}

abbrev pub invariant-loop-number : goal.invariant-loop-number
invariant-loop-number g l = record {
  ports : length l.ports.items ≡ l.at.feeds;
  links : length l.links.items ≡ l.number;
  lends : Lends (g.Y.LaneYard.seen l.fn.yard).told (g.Y.LaneYard.seen l.yard).told (g.Y.LaneYard.seen l.fn.yard).calls (1 + (l.at.feeds + l.number)) (numbered g.Y.Port.Port.aside 0 l.ports.items) (numbered_links (link_shows g.Y.Link.Sink.aside g.Y.Link.Sink.told g.Y.Link.Sink.faults) 0 l.links.items);
  calls : (g.Y.LaneYard.seen l.yard).calls ≡ call_after (g.Y.LaneYard.seen l.fn.yard).calls (1 + (l.at.feeds + l.number));
  faults : g.Y.LaneYard.faults l.yard ≡ g.Y.LaneYard.faults l.fn.yard;
  listened : (g.Y.LaneYard.seen l.yard).listened ≡ Some l.at;
  endings : (g.Y.LaneYard.seen l.yard).endings ≡ (g.Y.LaneYard.seen l.fn.yard).endings;
  ending : (g.Y.LaneYard.seen l.yard).last_ending ≡ (g.Y.LaneYard.seen l.fn.yard).last_ending;
  room : vec_capacity l.fn.ports ≤ vec_capacity l.ports;
  links_room : vec_capacity l.fn.links ≤ vec_capacity l.links;
}
