use Rattle.station_top.proofs.alone.run_relay_by.Goals as goal

pub returns-then-lenient-clause-concludes : goal.returns-then-lenient-clause-concludes
returns-then-lenient-clause-concludes g c = rw c.if-lenient.true c.run_relay.ensures.concludes

pub returns-then-lenient-clause-calls : goal.returns-then-lenient-clause-calls
returns-then-lenient-clause-calls g c = c.run_relay.ensures.calls

pub returns-then-lenient-clause-nobody : goal.returns-then-lenient-clause-nobody
returns-then-lenient-clause-nobody g c = c.run_relay.ensures.nobody

pub returns-then-lenient-clause-yard : goal.returns-then-lenient-clause-yard
returns-then-lenient-clause-yard g c = c.run_relay.ensures.yard

pub returns-else-lenient-clause-concludes : goal.returns-else-lenient-clause-concludes
returns-else-lenient-clause-concludes g c = rw c.if-lenient.false c.run_relay-else-lenient.ensures.concludes

pub returns-else-lenient-clause-out : goal.returns-else-lenient-clause-out
returns-else-lenient-clause-out g c = c.run_relay-else-lenient.ensures.out

pub returns-else-lenient-clause-aside : goal.returns-else-lenient-clause-aside
returns-else-lenient-clause-aside g c = c.run_relay-else-lenient.ensures.aside
