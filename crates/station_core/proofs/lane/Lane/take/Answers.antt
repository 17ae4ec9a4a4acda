use Rattle.std.proofs.Common.{None}
use Rattle.station_core.specs.Machine.{ComesTo, with_piece}
use Rattle.station_core.proofs.Pieces.{moves_between, rests, takes_last, takes_on}
use Rattle.station_core.proofs.lane.Lane.take.Goals as goal

pub take_piece-requires : goal.take_piece-requires
take_piece-requires g c = rw c.in-Some.is at c.requires

pub returns-in_default : goal.returns-in_default
returns-in_default g c =
    let meaning = g.B.BodyReading.meaning in
    let present = c.args.self.now.present in
    moves_between meaning g.B.BodyReading.state (ComesTo meaning (with_piece c.args.piece.now)) c.args.self.now.due c.args.self.now.due present present None None
    c.in_default.is c.in_default.is (rests meaning g.B.BodyReading.state (with_piece c.args.piece.now) c.args.self.now.due)

pub returns-in-None : goal.returns-in-None
returns-in-None g c =
    takes_on g.B.BodyReading.meaning g.B.BodyReading.state c.args.self.now.due c.take_piece.new.due c.args.self.now.present c.in-Some.present c.take_piece.new.present c.args.piece.now c.in_ok-cause.field-0
    c.in-Some.is c.in-None.is c.in_ok-cause.ensures

pub returns-in-Some-2 : goal.returns-in-Some-2
returns-in-Some-2 g c =
    takes_last g.B.BodyReading.meaning g.B.BodyReading.state c.args.self.now.due c.take_piece.new.due c.close.new.self.due c.args.self.now.present c.close.new.self.present c.in-Some.present c.take_piece.new.present c.args.piece.now
    c.in_ok-cause.field-0 c.in-Some-2.cause c.close.result c.in-Some.is c.in-Some-2.is c.in_ok-cause.ensures c.close.ensures
