use Rattle.std.proofs.Common.{◌≡◌, ◌-◌, ◌≤◌, length}
use Rattle.feed_worker.specs.Opening.{opening_of}
use Rattle.feed_worker.proofs.Taking.{Taking}
use Rattle.feed_worker.proofs.connection.take_by.Given as goal

abbrev pub invariant-loop-taken : goal.invariant-loop-taken
invariant-loop-taken g l = record {
  taking : Taking g.B.BodyReading.meaning g.B.BodyReading.state (opening_of (g.P.FeedPort.tells l.initial.port)) (g.P.FeedPort.aside l.initial.port) (g.P.FeedPort.aside l.port) l.fn.pass l.pass l.taken l.walk l.front.octets;
  within : l.taken ≤ 70368744177664;
  room : length l.buf ≡ 65536;
  causes : g.P.FeedPort.causes l.port ≡ g.P.FeedPort.causes l.initial.port;
  tells : g.P.FeedPort.tells l.port ≡ g.P.FeedPort.tells l.initial.port;
}

abbrev pub decreases-loop-taken : goal.decreases-loop-taken
decreases-loop-taken g l = 70368744177664 - l.taken
