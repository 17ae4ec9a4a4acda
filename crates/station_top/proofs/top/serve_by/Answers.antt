use Rattle.station_top.proofs.top.serve_by.Goals as goal

pub returns-then-lenient-clause-serves : goal.returns-then-lenient-clause-serves
returns-then-lenient-clause-serves g c = rw c.if-lenient.true c.serve.ensures.comes

pub returns-else-lenient-clause-serves : goal.returns-else-lenient-clause-serves
returns-else-lenient-clause-serves g c = rw c.if-lenient.false c.serve-else-lenient.ensures.comes
