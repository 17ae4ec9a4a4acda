use Rattle.std.proofs.Common.{◌∷◌}
use Rattle.bmp_specs.specs.Openings.{nothing_told}
use Rattle.bmp_specs.specs.Values.{opened}
use Rattle.station_top.specs.RecallRuns.{whole_input}
use Rattle.station_top.proofs.Concluding.{few, answers_write}
use Rattle.station_top.proofs.Recalling.{recall_answers, recall_starved}
use Rattle.station_top.proofs.recall.reply_content.Goals as goal

pub ready-requires : goal.ready-requires
ready-requires g c =
    let t = c.in-Ok.ensures in
    (few g.R.BodyReading.meaning g.met.R.BodyReading.gives_messages (whole_input c.args.content) t.messages c.in-Ok.taken.cause c.in-Ok.taken.revision t.come t.count).count

pub returns-in-Ok-ready-clause-answers : goal.returns-in-Ok-ready-clause-answers
returns-in-Ok-ready-clause-answers g c =
    let t = c.in-Ok.ensures in
    let tells = c.in-Ok-ready.ensures (opened nothing_told ∷ t.messages) t.noted t.count (few g.R.BodyReading.meaning g.met.R.BodyReading.gives_messages (whole_input c.args.content) t.messages c.in-Ok.taken.cause c.in-Ok.taken.revision t.come t.count).bytes in
    recall_answers g.R.BodyReading.meaning (g.A.Account.stands c.in-Ok.account) (g.A.Told.Replies.replies c.args.ask.now) c.args.content c.in-Ok.taken t c.args.out.now c.write_reply-write.new.out c.write_reply-write.result c.unless_failed.result
    (c.write_reply-write.ensures (opened nothing_told ∷ t.messages) tells) (rw c.status_after.ensures at c.unless_failed.ensures.fine) c.unless_failed.ensures.failed

pub returns-in-Ok-ready-clause-out : goal.returns-in-Ok-ready-clause-out
returns-in-Ok-ready-clause-out g c =
    let t = c.in-Ok.ensures in
    let tells = c.in-Ok-ready.ensures (opened nothing_told ∷ t.messages) t.noted t.count (few g.R.BodyReading.meaning g.met.R.BodyReading.gives_messages (whole_input c.args.content) t.messages c.in-Ok.taken.cause c.in-Ok.taken.revision t.come t.count).bytes in
    answers_write c.in-Ok.taken.cause c.unless_failed.result _ _ c.write_reply-write.result (c.write_reply-write.ensures (opened nothing_told ∷ t.messages) tells).written.cause (rw c.status_after.ensures at c.unless_failed.ensures.fine) c.unless_failed.ensures.failed

pub returns-in-Ok-ready-clause-aside : goal.returns-in-Ok-ready-clause-aside
returns-in-Ok-ready-clause-aside g c =
    let t = c.in-Ok.ensures in
    let tells = c.in-Ok-ready.ensures (opened nothing_told ∷ t.messages) t.noted t.count (few g.R.BodyReading.meaning g.met.R.BodyReading.gives_messages (whole_input c.args.content) t.messages c.in-Ok.taken.cause c.in-Ok.taken.revision t.come t.count).bytes in
    (c.write_reply-write.ensures (opened nothing_told ∷ t.messages) tells).written.kept

pub returns-in-Err-ready-clause-answers : goal.returns-in-Err-ready-clause-answers
returns-in-Err-ready-clause-answers g c = recall_starved g.R.BodyReading.meaning (g.A.Told.Replies.replies c.args.ask.now) c.args.content (g.O.Sink.told c.args.out.now)

pub returns-in-Err-clause-answers : goal.returns-in-Err-clause-answers
returns-in-Err-clause-answers g c = recall_starved g.R.BodyReading.meaning (g.A.Told.Replies.replies c.args.ask.now) c.args.content (g.O.Sink.told c.args.out.now)
