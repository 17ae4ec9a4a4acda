use Rattle.bmp_message.specs.StreamWalk.{rest_of}
use Rattle.station_core.proofs.Pieces.{Gathering}
use Rattle.station_core.proofs.lane.gather.Given as goal

abbrev pub invariant-loop-entry : goal.invariant-loop-entry
invariant-loop-entry g l = Gathering g.B.BodyReading.meaning g.B.BodyReading.state l.initial.walk l.walk l.initial.due l.due

abbrev pub decreases-loop-entry : goal.decreases-loop-entry
decreases-loop-entry g l = rest_of l.walk
