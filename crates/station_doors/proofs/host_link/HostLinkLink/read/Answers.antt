use Rattle.station_doors.proofs.host_link.HostLinkLink.read.Goals as goal

pub returns-clause-planned : goal.returns-clause-planned
returns-clause-planned g c = rw c.read.ensures.plan tt

pub returns-clause-reads : goal.returns-clause-reads
returns-clause-reads g c = c.read.ensures.reads _
