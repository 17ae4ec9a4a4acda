use Rattle.std.proofs.Common.{rules}
use Rattle.station_doors.proofs.slots.is_at.Goals as goal

pub returns : goal.returns
returns c = search rules
