use Rattle.station_doors.proofs.Rests.{closes_with}
use Rattle.station_doors.proofs.host_port.HostPortPort.close.Goals as goal

pub returns-clause-closes : goal.returns-clause-closes
returns-clause-closes g c = closes_with _ _ _ _ c.close.ensures
