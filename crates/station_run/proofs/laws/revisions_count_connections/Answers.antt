use Rattle.station_run.proofs.Counted.{end_counts_connections}
use Rattle.station_run.proofs.laws.revisions_count_connections.Goals as goal

pub returns : goal.returns
returns g c = end_counts_connections _ g.B.BodyReading.meaning
