use Rattle.std.proofs.Common.{◌≤◌, length}
use Rattle.std.specs.Vec.{vec_capacity}
use Rattle.station_run.proofs.Taking.{Parting}
use Rattle.station_run.proofs.pairing.part.Given as goal

abbrev pub invariant-loop-task : goal.invariant-loop-task
invariant-loop-task g l = record {
  parting : Parting l.fn.tasks.items l.tasks.items l.doors.items l.ask_doors.items l.kept l.feeds l.asks;
  room : vec_capacity l.fn.doors ≤ vec_capacity l.doors;
  links_room : vec_capacity l.fn.ask_doors ≤ vec_capacity l.ask_doors;
}

abbrev pub decreases-loop-task : goal.decreases-loop-task
decreases-loop-task g l = length l.tasks.items
