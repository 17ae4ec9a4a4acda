use Rattle.std.proofs.Common.{[]}
use Rattle.station_doors.proofs.Sessions.{reads_port}
use Rattle.station_doors.proofs.sure_port.SurePortPort.read.Goals as goal

pub returns-clause-reads : goal.returns-clause-reads
returns-clause-reads c = rw (← c.self.view_is) (reads_port [] c.self.inside.connections c.give.new.self _ _ c.give.ensures.reads)
