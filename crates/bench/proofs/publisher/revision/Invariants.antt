use Rattle.bench.proofs.publisher.revision.Given as goal

abbrev pub ghosts-revision_in : goal.ghosts-revision_in
ghosts-revision_in g a = record { site = a.station.publisher.station }
