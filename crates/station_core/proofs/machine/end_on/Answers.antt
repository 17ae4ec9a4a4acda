use Rattle.std.proofs.Common.{arith}
use Rattle.std.proofs.lemmas.Result.{on_ok_weaker}
use Rattle.station_core.specs.Machine.{ComesTo, with_end}
use Rattle.station_core.proofs.Moving.{moves_at, moves_none}
use Rattle.station_core.proofs.machine.end_on.Goals as goal

pub returns-then-at-lanes : goal.returns-then-at-lanes
returns-then-at-lanes g c = moves_none g.B.BodyReading.meaning g.B.BodyReading.state (ComesTo g.B.BodyReading.meaning (with_end c.args.failed)) c.args.number c.args.lanes.now (omega (arith, c.if-at-lanes.true))

pub returns : goal.returns
returns g c =
    let meaning = g.B.BodyReading.meaning in
    on_ok_weaker c.end.result (moves_at meaning g.B.BodyReading.state (ComesTo meaning (with_end c.args.failed)) c.args.number c.args.lanes.now c.index-lanes-at.result c.end.new.self (omega (arith, c.if-at-lanes.false))) c.end.ensures
