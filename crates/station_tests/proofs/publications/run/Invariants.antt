use Rattle.station_tests.proofs.publications.run.Given as goal

abbrev pub ghosts-run_in : goal.ghosts-run_in
ghosts-run_in g a = record { site = a.station.publisher.station }
