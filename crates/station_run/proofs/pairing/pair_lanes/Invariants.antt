use Rattle.std.proofs.Common.{◌≡◌, ◌+◌, ◌≤◌, length}
use Rattle.std.specs.Prelude.{vec_len}
use Rattle.std.specs.Vec.{vec_capacity}
use Rattle.station_run.proofs.Taking.{PairingLanes}
use Rattle.station_run.proofs.pairing.pair_lanes.Given as goal

abbrev pub invariant-loop-pass : goal.invariant-loop-pass
invariant-loop-pass g l = record {
  pairs : PairingLanes l.fn.feeds l.feeds l.fn.doors.items l.doors.items l.rounds l.fn.tasks.items l.tasks.items;
  len : vec_len l.tasks + length l.feeds ≡ vec_len l.fn.tasks + length l.fn.feeds;
  room : vec_capacity l.fn.tasks ≤ vec_capacity l.tasks;
  capacity : vec_capacity l.doors ≡ vec_capacity l.fn.doors;
}

abbrev pub decreases-loop-pass : goal.decreases-loop-pass
decreases-loop-pass g l = length l.feeds
