use Rattle.station_tests.proofs.sessions.idle_asker.Given as goal

abbrev pub ghosts-asker_of : goal.ghosts-asker_of
ghosts-asker_of g a = record { site = a.station.publisher.station }
