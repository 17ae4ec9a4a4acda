use Rattle.std.proofs.Common.{arith}
use Rattle.std.proofs.lemmas.Result.{on_ok_weaker}
use Rattle.station_core.specs.Machine.{ComesTo, with_piece}
use Rattle.station_core.proofs.Moving.{moves_at, moves_none}
use Rattle.station_core.proofs.machine.take_on.Goals as goal

pub returns-then-at-lanes : goal.returns-then-at-lanes
returns-then-at-lanes g c = moves_none g.B.BodyReading.meaning g.B.BodyReading.state (ComesTo g.B.BodyReading.meaning (with_piece c.args.piece.now)) c.args.number c.args.lanes.now (omega (arith, c.if-at-lanes.true))

pub returns : goal.returns
returns g c =
    let meaning = g.B.BodyReading.meaning in
    on_ok_weaker c.take.result (moves_at meaning g.B.BodyReading.state (ComesTo meaning (with_piece c.args.piece.now)) c.args.number c.args.lanes.now c.index-lanes-at.result c.take.new.self (omega (arith, c.if-at-lanes.false))) c.take.ensures
