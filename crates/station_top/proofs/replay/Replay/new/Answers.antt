use Rattle.std.proofs.Common.{[]}
use Rattle.station_top.proofs.Replaying.{begun}
use Rattle.station_top.proofs.replay.Replay.new.Goals as goal

pub returns : goal.returns
returns c = rw c.untold.ensures at c.in_ok-gather.ensures [] (begun _ c.in_ok-new.ensures c.new-2.ensures)
