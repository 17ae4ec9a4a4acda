use Rattle.feed_worker.proofs.Planned.{few_lives_fit}
use Rattle.feed_worker.proofs.laws.few_lives_fit.Goals as goal

pub returns : goal.returns
returns g c = few_lives_fit g.B.BodyReading.meaning
