use Rattle.query_eval.proofs.steps.put_told_rows.Goals as goal

pub returns-then-ask : goal.returns-then-ask
returns-then-ask g c = rw c.if-ask.true c.put_query_rows.ensures

pub returns : goal.returns
returns g c = rw c.if-ask.false c.put_query_rows-2.ensures
