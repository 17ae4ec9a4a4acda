use Rattle.query_eval.proofs.steps.put_query_rows.Goals as goal

pub returns-in-Table : goal.returns-in-Table
returns-in-Table g c = rw c.in-Table.is c.put_kept_part.ensures

pub returns-in-Exact : goal.returns-in-Exact
returns-in-Exact g c = rw c.in-Exact.is c.put_kept_part-in-Exact.ensures

pub returns-in-Longest : goal.returns-in-Longest
returns-in-Longest g c = rw c.in-Longest.is c.put_kept_longest.ensures

pub returns-in-Within : goal.returns-in-Within
returns-in-Within g c = rw c.in-Within.is c.put_kept_part-in-Within.ensures

pub returns-in-Origin : goal.returns-in-Origin
returns-in-Origin g c = rw c.in-Origin.is c.put_kept_origin.ensures
