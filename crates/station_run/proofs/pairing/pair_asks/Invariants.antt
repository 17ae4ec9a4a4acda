use Rattle.std.proofs.Common.{◌≡◌, ◌+◌, ◌≤◌, length}
use Rattle.std.specs.Prelude.{vec_len}
use Rattle.std.specs.Vec.{vec_capacity}
use Rattle.station_run.proofs.Taking.{PairingAsks}
use Rattle.station_run.proofs.pairing.pair_asks.Given as goal

abbrev pub invariant-loop-pass : goal.invariant-loop-pass
invariant-loop-pass g l = record {
  pairs : PairingAsks l.fn.asks l.asks l.fn.doors.items l.doors.items l.rounds l.tasks.items;
  len : vec_len l.tasks + length l.asks ≡ vec_len l.fn.tasks + length l.fn.asks;
  room : vec_capacity l.fn.tasks ≤ vec_capacity l.tasks;
  capacity : vec_capacity l.doors ≡ vec_capacity l.fn.doors;
}

abbrev pub decreases-loop-pass : goal.decreases-loop-pass
decreases-loop-pass g l = length l.asks
