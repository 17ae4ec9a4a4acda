-- What a port tells of a connection, as the opening that is published of it.
use Rattle.bmp_specs.specs.Values.{OpeningValue}
use Rattle.station_doors.specs.Told.{ToldValue}

-- from where it came and when, as the port tells
abbrev pub opening_of : ToldValue → OpeningValue
opening_of told = record { from = told.from; since = told.since }
