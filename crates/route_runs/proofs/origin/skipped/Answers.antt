use Rattle.route_runs.proofs.origin.skipped.Goals as goal

pub returns-in-Some-clause-skip : goal.returns-in-Some-clause-skip
returns-in-Some-clause-skip g c = rw c.in-Some.is c.skipped_by.ensures.skip
