use Rattle.std.proofs.Common.{arith}
use Rattle.station_top.proofs.counts.CountsAccount.ready.Goals as goal

pub returns : goal.returns
returns c entries are revision short = record { are = are; few = omega (arith, revision, c.requires); short = short }
