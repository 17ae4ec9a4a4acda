use Rattle.std.proofs.Common.{refl}
use Rattle.router_tables.proofs.LastSteps.{last_opened}
use Rattle.router_tables.proofs.last.LastConnection.open.Goals as goal

pub returns : goal.returns
returns c entries = last_opened _ c.args.came refl refl c.none.ensures refl entries
