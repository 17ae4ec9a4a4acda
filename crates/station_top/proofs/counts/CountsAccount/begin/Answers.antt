use Rattle.station_top.proofs.CheckCounts.{counts_opened}
use Rattle.station_top.proofs.counts.CountsAccount.begin.Goals as goal

pub returns : goal.returns
returns c = counts_opened c.new.result c.new.ensures
