use Rattle.std.proofs.Common.{refl}
use Rattle.std.proofs.lemmas.Result.{on_ok_weaker}
use Rattle.station_core.proofs.lane.Lane.close.Goals as goal

pub returns : goal.returns
returns g c = on_ok_weaker c.append.result (λ grown. (grown, refl)) (rw c.untimed.ensures at c.append.ensures)
