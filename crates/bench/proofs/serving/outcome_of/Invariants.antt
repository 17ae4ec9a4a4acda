use Rattle.bench.proofs.serving.outcome_of.Given as goal

abbrev pub ghosts-outcome_in : goal.ghosts-outcome_in
ghosts-outcome_in g a = record { site = a.station.publisher.station }
