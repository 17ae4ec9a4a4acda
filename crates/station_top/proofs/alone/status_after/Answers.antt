use Rattle.station_top.proofs.Statuses.{done_after, stopped_after}
use Rattle.station_top.proofs.alone.status_after.Goals as goal

pub returns-in-Ended : goal.returns-in-Ended
returns-in-Ended c = done_after c.args.cause c.in-Ended.is

pub returns-in-CutShort : goal.returns-in-CutShort
returns-in-CutShort c = stopped_after c.args.cause c.in-CutShort.is
