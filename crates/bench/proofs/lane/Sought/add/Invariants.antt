use Rattle.bench.proofs.lane.Sought.add.Given as goal

abbrev pub ghosts-matched : goal.ghosts-matched
ghosts-matched a = record { name = a.blank.name; parts = a.blank.parts }
