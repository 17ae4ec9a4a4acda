use Rattle.station_doors.proofs.host_link.HostLinkLink.next_connection.Goals as goal

pub returns-clause-planned : goal.returns-clause-planned
returns-clause-planned g c = rw c.open.ensures.plan tt
