use Rattle.station_doors.proofs.Sessions.{opens_link}
use Rattle.station_doors.proofs.mem_link.MemLinkLink.next_connection.Goals as goal

pub returns-clause-opens : goal.returns-clause-opens
returns-clause-opens c = rw (← c.self.view_is) (opens_link c.self.inside.fails.items c.self.inside.connections c.open.new.self _ c.open.ensures.opens)
