use Rattle.query_lang.specs.Asks.{ask_value}
use Rattle.query_eval.specs.Replies.{AreAskLaneLines}
use Rattle.query_eval.proofs.LaneSteps.{LanesSoFar}
use Rattle.query_eval.proofs.lanes.put_lanes.Given as goal

abbrev pub invariant-loop-lane : goal.invariant-loop-lane
invariant-loop-lane g l = LanesSoFar g.O.Sink.faults g.O.Sink.told g.O.Sink.aside l.cut (AreAskLaneLines (ask_value l.ask)) l.fn.out l.out l.lane l.count
