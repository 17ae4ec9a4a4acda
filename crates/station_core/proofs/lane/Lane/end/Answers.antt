use Rattle.std.proofs.Common.{None}
use Rattle.station_core.specs.Machine.{ComesTo, with_end}
use Rattle.station_core.proofs.Pieces.{ends_last, moves_between, rests}
use Rattle.station_core.proofs.lane.Lane.end.Goals as goal

pub returns-in_default : goal.returns-in_default
returns-in_default g c =
    let meaning = g.B.BodyReading.meaning in
    let present = c.args.self.now.present in
    moves_between meaning g.B.BodyReading.state (ComesTo meaning (with_end c.args.failed)) c.args.self.now.due c.args.self.now.due present present None None
    c.in_default.is c.in_default.is (rests meaning g.B.BodyReading.state (with_end c.args.failed) c.args.self.now.due)

pub returns : goal.returns
returns g c =
    ends_last g.B.BodyReading.meaning g.B.BodyReading.state c.args.self.now.due c.close.new.self.due c.args.self.now.present c.close.new.self.present c.in-Some.present c.args.failed c.cause_of_end-cause.result c.close.result
    c.in-Some.is c.cause_of_end-cause.ensures c.close.ensures
