use Rattle.std.proofs.Common.{refl}
use Rattle.station_top.proofs.alone.unless_failed.Goals as goal

pub returns-in-Ok-clause-fine : goal.returns-in-Ok-clause-fine
returns-in-Ok-clause-fine c = rw c.in-Ok.is refl
