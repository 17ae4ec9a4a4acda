use Rattle.station_run.proofs.drilling.drill.Given as goal

abbrev pub ghosts-run_drill : goal.ghosts-run_drill
ghosts-run_drill g a = record { site = a.station.publisher.station }
