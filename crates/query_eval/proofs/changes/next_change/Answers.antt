use Rattle.query_eval.proofs.changes.next_change.Goals as goal

pub returns-in-Some : goal.returns-in-Some
returns-in-Some c = rw c.in-Some.is (c.poll.ensures.kept c.requires)

pub returns-in-None : goal.returns-in-None
returns-in-None c = rw c.in-None.is (c.poll_any.ensures.kept c.requires)
