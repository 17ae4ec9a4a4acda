use Rattle.std.proofs.Common.{◌≡◌, map, take}
use Rattle.station_doors.specs.Connections.{bytes_of}
use Rattle.station_doors.proofs.connections.sessions_of.Given as goal

abbrev pub invariant-loop-connection : goal.invariant-loop-connection
invariant-loop-connection l = map bytes_of l.sessions.items ≡ take l.connection-index l.connections
