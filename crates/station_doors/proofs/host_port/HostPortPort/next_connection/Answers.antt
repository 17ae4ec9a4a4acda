use Rattle.station_doors.proofs.Rests.{opens_with}
use Rattle.station_doors.proofs.host_port.HostPortPort.next_connection.Goals as goal

pub returns-clause-planned : goal.returns-clause-planned
returns-clause-planned g c = rw c.open.ensures.plan tt

pub returns-clause-opens : goal.returns-clause-opens
returns-clause-opens g c = opens_with _ _ _ _ _ c.open.ensures.coming c.open.ensures.opens
