use Rattle.wire_io.proofs.Faults.{broken_below}
use Rattle.bmp_message.proofs.walk.reads.JudgementsReads.read.Goals as goal

pub returns-in-Err-clause-broken : goal.returns-in-Err-clause-broken
returns-in-Err-clause-broken g c broken = c.in-Err.ensures.broken (broken_below c.in-Err.fault broken)

pub returns-in-Ok-clause-ok : goal.returns-in-Ok-clause-ok
returns-in-Ok-clause-ok g c =
    let m = c.in-Ok.ensures.ok in
    let is = g.met.R.BodyReading.gives_messages (g.R.BodyReading.state c.args.reading.now) (g.R.BodyReading.state c.judge.new.self) c.args.kind c.args.body.now m.0 m.1 in
    (m.0, rw c.message_length.ensures is, m.1)
