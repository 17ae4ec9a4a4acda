use Rattle.std.proofs.Common.{[]}
use Rattle.station_doors.proofs.Sessions.{reads_link}
use Rattle.station_doors.proofs.sure_link.SureLinkLink.read.Goals as goal

pub returns-clause-reads : goal.returns-clause-reads
returns-clause-reads c = rw (← c.self.view_is) (reads_link [] c.self.inside.connections c.give.new.self _ _ c.give.ensures.reads)
