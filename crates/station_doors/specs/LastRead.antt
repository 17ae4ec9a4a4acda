-- How the last read of a connection went, as connections in memory keep it.
use Rattle.bmp_specs.specs.Life.{LastRead, gave, gave_none, failed}
use Rattle.station_doors.specs.declared.connections.Last.{Last}
use Rattle.station_doors.specs.declared.connections.Last.TheVariants.{Gave, End, Fault}

abbrev pub last_of : Last → LastRead
last_of Gave = gave
last_of End = gave_none
last_of Fault = failed
