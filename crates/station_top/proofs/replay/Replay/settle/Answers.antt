use Rattle.std.proofs.Common.{◌∙◌}
use Rattle.station_top.proofs.Replaying.{settled_more}
use Rattle.station_top.proofs.replay.Replay.settle.Goals as goal

pub returns : goal.returns
returns c entries h = settled_more c.args.self.now _ c.replace-gathered.result entries h c.replace-gathered.ensures.value c.in_ok-take.ensures (c.replace-gathered.ensures.after ∙ c.in_ok-next.ensures)
