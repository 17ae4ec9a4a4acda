use Rattle.feed_worker.proofs.GivenConnections.{serves_given}
use Rattle.feed_worker.proofs.laws.ports_tell_connections.Goals as goal

pub returns : goal.returns
returns g c = λ connections old new given p is. serves_given g.B.BodyReading.meaning connections old new given p is
