use Rattle.query_eval.proofs.LaneSteps.{plain_changes, puts_of_tables, puts_of_count}
use Rattle.query_eval.proofs.lanes.put_lane_lines.Goals as goal

pub returns-in-Routers : goal.returns-in-Routers
returns-in-Routers g c = rw c.in-Routers.is (puts_of_tables _ _ _ _ _ c.put_routers.ensures)

pub returns-in-Cut : goal.returns-in-Cut
returns-in-Cut g c = rw c.in-Cut.is (puts_of_count _ _ _ _ _ c.put_entries.ensures)

pub returns-in-Peers : goal.returns-in-Peers
returns-in-Peers g c = rw c.in-Peers.is (puts_of_tables _ _ _ _ _ c.put_peers.ensures)

pub returns-in-Marks : goal.returns-in-Marks
returns-in-Marks g c = rw c.in-Marks.is (puts_of_tables _ _ _ _ _ c.put_marks.ensures)

pub returns-in-Table : goal.returns-in-Table
returns-in-Table g c = rw c.in-Table.is (puts_of_tables _ _ _ _ _ c.put_part.ensures)

pub returns-in-Exact : goal.returns-in-Exact
returns-in-Exact g c = rw c.in-Exact.is (puts_of_tables _ _ _ _ _ c.put_part-in-Exact.ensures)

pub returns-in-Longest : goal.returns-in-Longest
returns-in-Longest g c = rw c.in-Longest.is (puts_of_tables _ _ _ _ _ c.put_longest.ensures)

pub returns-in-Within : goal.returns-in-Within
returns-in-Within g c = rw c.in-Within.is (puts_of_tables _ _ _ _ _ c.put_part-in-Within.ensures)

pub returns-in-Origin : goal.returns-in-Origin
returns-in-Origin g c = rw c.in-Origin.is (puts_of_tables _ _ _ _ _ c.put_origin.ensures)

pub returns-in-Stats : goal.returns-in-Stats
returns-in-Stats g c = rw c.in-Stats.is (puts_of_tables _ _ _ _ _ c.put_stats.ensures)

pub returns-in-Changes : goal.returns-in-Changes
returns-in-Changes g c = rw c.in-Changes.is (puts_of_tables _ _ _ _ _ (plain_changes _ _ _ _ _ _ _ _ c.put_lane_changes.ensures))
