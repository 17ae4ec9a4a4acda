use Rattle.feed_worker.proofs.Serving.{few_rounds_fit}
use Rattle.feed_worker.proofs.laws.few_rounds_fit.Goals as goal

pub returns : goal.returns
returns g c = few_rounds_fit g.B.BodyReading.meaning
