use Rattle.std.proofs.Common.{refl}
use Rattle.station_top.proofs.Replaying.{cut_is}
use Rattle.station_top.proofs.replay.ReplayAccount.ready.Goals as goal

pub returns-in-Ok : goal.returns-in-Ok
returns-in-Ok c entries gathers count short = cut_is c.args.self c.in_ok-tables.tables c.args.revision entries gathers (c.in_ok-tables.ensures entries gathers) count _ c.in_ok-new.ensures.ok refl c.in-Ok.cut c.in-Ok.ensures.lanes c.in-Ok.ensures.stands
