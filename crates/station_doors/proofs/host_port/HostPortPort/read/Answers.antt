use Rattle.station_doors.proofs.Rests.{reads_with}
use Rattle.station_doors.proofs.host_port.HostPortPort.read.Goals as goal

pub returns-clause-planned : goal.returns-clause-planned
returns-clause-planned g c = rw c.read.ensures.plan tt

pub returns-clause-reads : goal.returns-clause-reads
returns-clause-reads g c = reads_with _ _ _ _ _ _ (c.read.ensures.reads _) (rw c.read.ensures.same c.read_from-came.ensures.rest)
