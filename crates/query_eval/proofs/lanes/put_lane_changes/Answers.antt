use Rattle.query_eval.proofs.LaneSteps.{changes_elsewhere, changes_here, same_number, other_number}
use Rattle.query_eval.proofs.lanes.put_lane_changes.Goals as goal

pub returns-then-number-lane : goal.returns-then-number-lane
returns-then-number-lane g c = changes_elsewhere c.args.full c.args.number c.args.lane c.args.from c.args.prefix.now c.args.tables.now _ (other_number c.args.number c.args.lane c.if-number-lane.true)

pub returns : goal.returns
returns g c = changes_here c.args.full c.args.number c.args.lane c.args.from c.args.prefix.now c.args.tables.now _ _ _ (same_number c.args.number c.args.lane c.if-number-lane.false) c.put_changes.ensures
