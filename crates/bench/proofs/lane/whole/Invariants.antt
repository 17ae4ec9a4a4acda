use Rattle.bmp_message.specs.StreamWalk.{rest_of}
use Rattle.bench.proofs.lane.whole.Given as goal

abbrev pub decreases-loop-entries : goal.decreases-loop-entries
decreases-loop-entries l = rest_of l.walk
