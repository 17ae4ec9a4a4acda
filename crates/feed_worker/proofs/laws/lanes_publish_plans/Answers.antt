use Rattle.feed_worker.proofs.Planned.{publishes_plan}
use Rattle.feed_worker.proofs.laws.lanes_publish_plans.Goals as goal

pub returns : goal.returns
returns g c = publishes_plan g.B.BodyReading.meaning
