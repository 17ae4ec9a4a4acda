use Rattle.std.proofs.Common.{◌≡◌, ℕ, List}
use Rattle.bmp_message.specs.StreamWalk.{fed_of, rest_of}
use Rattle.station_top.specs.Account.{HasDrawn}
use Rattle.station_top.proofs.take.drain.Given as goal

abbrev pub invariant-loop-item : goal.invariant-loop-item
invariant-loop-item g l = record {
  fed : fed_of l.walk ≡ fed_of l.initial.walk;
  drawn : (fed : List ℕ) → HasDrawn g.R.BodyReading.meaning g.R.BodyReading.state (g.A.Account.stands l.initial.account) fed l.initial.walk l.initial.revision → HasDrawn g.R.BodyReading.meaning g.R.BodyReading.state (g.A.Account.stands l.account) fed l.walk l.revision;
}

abbrev pub decreases-loop-item : goal.decreases-loop-item
decreases-loop-item g l = rest_of l.walk
