use Rattle.station_doors.proofs.Sessions.{reads_port}
use Rattle.station_doors.proofs.mem_port.MemPortPort.read.Goals as goal

pub returns-then-contains-clause-reads : goal.returns-then-contains-clause-reads
returns-then-contains-clause-reads c = rw (← c.self.view_is) (reads_port c.self.inside.fails.items c.self.inside.connections c.fail.new.self _ _ (c.fail.ensures _ _))

pub returns-clause-reads : goal.returns-clause-reads
returns-clause-reads c = rw (← c.self.view_is) (reads_port c.self.inside.fails.items c.self.inside.connections c.give.new.self _ _ c.give.ensures.reads)
