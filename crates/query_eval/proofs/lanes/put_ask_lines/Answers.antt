use Rattle.query_eval.proofs.LaneSteps.{puts_of_tables}
use Rattle.query_eval.proofs.lanes.put_ask_lines.Goals as goal

pub returns-in-Query : goal.returns-in-Query
returns-in-Query g c = rw c.in-Query.is c.put_lane_lines.ensures

pub returns-in-Rows : goal.returns-in-Rows
returns-in-Rows g c = rw c.in-Rows.is (puts_of_tables _ _ _ _ _ c.put_asked_rows.ensures)

pub returns-in-Changes : goal.returns-in-Changes
returns-in-Changes g c = rw c.in-Changes.is (puts_of_tables _ _ _ _ _ c.put_lane_changes.ensures)

pub returns-in-FullMarks : goal.returns-in-FullMarks
returns-in-FullMarks g c = rw c.in-FullMarks.is (puts_of_tables _ _ _ _ _ c.put_full_marks.ensures)

pub returns-in-FullRouters : goal.returns-in-FullRouters
returns-in-FullRouters g c = rw c.in-FullRouters.is (puts_of_tables _ _ _ _ _ c.put_full_routers.ensures)
