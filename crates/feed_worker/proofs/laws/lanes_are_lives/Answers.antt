use Rattle.feed_worker.proofs.LaneLives.{seen_lives}
use Rattle.feed_worker.proofs.laws.lanes_are_lives.Goals as goal

pub returns : goal.returns
returns g c = seen_lives g.B.BodyReading.meaning
