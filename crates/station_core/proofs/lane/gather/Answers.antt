use Rattle.station_core.proofs.Pieces.{gathering_none, gathering_more, gathered_all, gathered_break, gathered_end}
use Rattle.station_core.proofs.lane.gather.Goals as goal

pub loop-entry-init : goal.loop-entry-init
loop-entry-init g c = gathering_none g.B.BodyReading.meaning g.B.BodyReading.state c.args.walk.now c.args.due.now

pub loop-entry-preserved : goal.loop-entry-preserved
loop-entry-preserved g c =
    let run = rw c.in-Message.is at c.in_ok-entry.ensures.run in
    let moved = rw c.in-Message.is at c.in_ok-entry.ensures.advances in
    gathering_more g.B.BodyReading.meaning g.B.BodyReading.state _ _ c.loop-entry.walk c.next.new.self c.loop-entry.due c.append.new.due c.in-Message.entry c.loop-entry.invariant moved.0 run c.in_ok-append-in-Message.ensures

pub returns-in-More-clause-gathers : goal.returns-in-More-clause-gathers
returns-in-More-clause-gathers g c =
    let run = rw c.in-More.is at c.in_ok-entry.ensures.run in
    gathered_all g.B.BodyReading.meaning g.B.BodyReading.state _ _ c.loop-entry.walk c.next.new.self c.loop-entry.due c.loop-entry.invariant run

pub returns-in-Terminated-clause-gathers : goal.returns-in-Terminated-clause-gathers
returns-in-Terminated-clause-gathers g c =
    let run = rw c.in-Terminated.is at c.in_ok-entry.ensures.run in
    gathered_end g.B.BodyReading.meaning g.B.BodyReading.state _ _ c.loop-entry.walk c.next.new.self c.loop-entry.due c.loop-entry.invariant run

pub returns-in-Broken-clause-gathers : goal.returns-in-Broken-clause-gathers
returns-in-Broken-clause-gathers g c =
    let run = rw c.in-Broken.is at c.in_ok-entry.ensures.run in
    gathered_break g.B.BodyReading.meaning g.B.BodyReading.state _ _ c.loop-entry.walk c.next.new.self c.loop-entry.due c.loop-entry.invariant c.in-Broken.why c.offset.result c.offset.ensures run
