use Rattle.station_top.proofs.archive.run_archive_by.Goals as goal

pub returns-then-lenient-clause-concludes : goal.returns-then-lenient-clause-concludes
returns-then-lenient-clause-concludes g c = rw c.if-lenient.true c.run_archive.ensures.concludes

pub returns-else-lenient-clause-concludes : goal.returns-else-lenient-clause-concludes
returns-else-lenient-clause-concludes g c = rw c.if-lenient.false c.run_archive-else-lenient.ensures.concludes
