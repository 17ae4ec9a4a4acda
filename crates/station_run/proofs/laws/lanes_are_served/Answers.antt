use Rattle.station_run.proofs.SeenLanes.{lanes_served}
use Rattle.station_run.proofs.laws.lanes_are_served.Goals as goal

pub returns : goal.returns
returns g c = lanes_served g.B.BodyReading.meaning
