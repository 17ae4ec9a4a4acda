use Rattle.station_run.proofs.run.serve.Given as goal

abbrev pub ghosts-run : goal.ghosts-run
ghosts-run g a = record { site = a.station.publisher.station }
