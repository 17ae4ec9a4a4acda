use Rattle.station_tests.proofs.lanes.watched.look_on.Given as goal

abbrev pub ghosts-watched : goal.ghosts-watched
ghosts-watched g a = record { site = a.station.publisher.station }
