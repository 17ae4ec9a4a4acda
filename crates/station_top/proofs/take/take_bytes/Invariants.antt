use Rattle.std.proofs.Common.{◌≡◌, ◌-◌, ◌≤◌, length}
use Rattle.station_top.proofs.Taking.{GaveOn, Taking}
use Rattle.station_top.proofs.take.take_bytes.Given as goal

abbrev pub invariant-loop-taken : goal.invariant-loop-taken
invariant-loop-taken g l = record {
  taking : Taking g.R.BodyReading.meaning g.R.BodyReading.state (g.A.Account.stands l.account) (g.P.Port.aside l.initial.port) (g.P.Port.aside l.port) (g.P.Port.calls l.initial.port) (g.P.Port.calls l.port) l.taken l.walk l.revision;
  went : GaveOn (g.P.Port.went l.initial.port) (g.P.Port.went l.port);
  stays : g.P.Port.stays l.port ≡ g.P.Port.stays l.initial.port;
  within : l.taken ≤ 70368744177664;
  room : length l.buf ≡ 65536;
}

abbrev pub decreases-loop-taken : goal.decreases-loop-taken
decreases-loop-taken g l = 70368744177664 - l.taken
