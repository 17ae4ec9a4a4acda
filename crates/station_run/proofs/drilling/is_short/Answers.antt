use Rattle.std.proofs.Common.{◌<◌, arith}
use Rattle.station_run.proofs.Drilled.{all_at}
use Rattle.station_run.proofs.drilling.is_short.Goals as goal

pub returns-clause-octets : goal.returns-clause-octets
returns-clause-octets c = all_at (λ b. b < 256) c.args.stream.now (λ i. let fits = c.type_inv.stream i in omega (arith, fits))
