use Rattle.std.proofs.Common.{[]}
use Rattle.station_doors.proofs.Sessions.{opens_link}
use Rattle.station_doors.proofs.sure_link.SureLinkLink.next_connection.Goals as goal

pub returns-clause-opens : goal.returns-clause-opens
returns-clause-opens c = rw (← c.self.view_is) (opens_link [] c.self.inside.connections c.open.new.self _ c.open.ensures.opens)
