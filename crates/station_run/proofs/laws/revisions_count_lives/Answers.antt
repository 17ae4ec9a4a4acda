use Rattle.station_run.proofs.Counting.{done_counts_lives}
use Rattle.station_run.proofs.laws.revisions_count_lives.Goals as goal

pub returns : goal.returns
returns g c = done_counts_lives _ g.B.BodyReading.meaning
