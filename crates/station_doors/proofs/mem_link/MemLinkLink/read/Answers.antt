use Rattle.station_doors.proofs.Sessions.{reads_link}
use Rattle.station_doors.proofs.mem_link.MemLinkLink.read.Goals as goal

pub returns-then-contains-clause-reads : goal.returns-then-contains-clause-reads
returns-then-contains-clause-reads c = rw (← c.self.view_is) (reads_link c.self.inside.fails.items c.self.inside.connections c.fail.new.self _ _ (c.fail.ensures _ _))

pub returns-clause-reads : goal.returns-clause-reads
returns-clause-reads c = rw (← c.self.view_is) (reads_link c.self.inside.fails.items c.self.inside.connections c.give.new.self _ _ c.give.ensures.reads)
