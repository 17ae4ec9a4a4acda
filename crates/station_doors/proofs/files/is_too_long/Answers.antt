use Rattle.std.proofs.Common.{arith}
use Rattle.station_doors.proofs.files.is_too_long.Goals as goal

pub returns-clause-more : goal.returns-clause-more
returns-clause-more c = λ is. grind (arith, is)

pub returns-clause-fits : goal.returns-clause-fits
returns-clause-fits c = λ is. grind (arith, is)
