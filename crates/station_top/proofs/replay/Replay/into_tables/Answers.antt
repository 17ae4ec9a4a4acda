use Rattle.std.proofs.lemmas.Result.{IfOk-weaker}
use Rattle.station_top.proofs.Replaying.{settled_builds}
use Rattle.station_top.proofs.replay.Replay.into_tables.Goals as goal

pub returns : goal.returns
returns c = IfOk-weaker c.into_tables.result _ _ (λ tables stands entries gathers. stands entries (settled_builds c.settle.new.self entries (c.in_ok-settle.ensures entries gathers))) c.into_tables.ensures
