use Rattle.std.proofs.Common.{◌∷◌}
use Rattle.bmp_specs.specs.Openings.{nothing_told}
use Rattle.bmp_specs.specs.Values.{opened}
use Rattle.station_top.proofs.Concluding.{short, answers_write, concludes_replied, concludes_unread, concludes_unready}
use Rattle.station_top.proofs.alone.run.Goals as goal

pub ready-requires : goal.ready-requires
ready-requires g c = (short g.R.BodyReading.meaning g.met.R.BodyReading.gives_messages (g.A.Account.stands c.in-Ok.account) _ _ _ c.in-Ok.taken c.in-Ok.ensures.from).count

pub returns-in-Ok-ready-clause-concludes : goal.returns-in-Ok-ready-clause-concludes
returns-in-Ok-ready-clause-concludes g c =
    let t = c.in-Ok.ensures.from in
    let tells = c.in-Ok-ready.ensures (opened nothing_told ∷ t.messages) t.noted t.count (short g.R.BodyReading.meaning g.met.R.BodyReading.gives_messages (g.A.Account.stands c.in-Ok.account) _ _ _ c.in-Ok.taken t).bytes in
    concludes_replied g.R.BodyReading.meaning (g.A.Account.stands c.in-Ok.account) (g.A.Told.Replies.replies c.args.ask.now) (g.Y.Yard.seen c.args.yard.now).told (g.Y.Yard.seen c.take_from.new.yard).told (g.Y.Yard.seen c.args.yard.now).calls c.in-Ok.taken t c.args.out.now c.write_reply-write.new.out c.write_reply-write.result c.unless_failed.result
    (c.write_reply-write.ensures (opened nothing_told ∷ t.messages) tells) (rw c.status_after.ensures at c.unless_failed.ensures.fine) c.unless_failed.ensures.failed

pub returns-in-Ok-ready-clause-out : goal.returns-in-Ok-ready-clause-out
returns-in-Ok-ready-clause-out g c =
    let t = c.in-Ok.ensures.from in
    let tells = c.in-Ok-ready.ensures (opened nothing_told ∷ t.messages) t.noted t.count (short g.R.BodyReading.meaning g.met.R.BodyReading.gives_messages (g.A.Account.stands c.in-Ok.account) _ _ _ c.in-Ok.taken t).bytes in
    answers_write c.in-Ok.taken.cause c.unless_failed.result _ _ c.write_reply-write.result (c.write_reply-write.ensures (opened nothing_told ∷ t.messages) tells).written.cause (rw c.status_after.ensures at c.unless_failed.ensures.fine) c.unless_failed.ensures.failed

pub returns-in-Ok-ready-clause-aside : goal.returns-in-Ok-ready-clause-aside
returns-in-Ok-ready-clause-aside g c =
    let t = c.in-Ok.ensures.from in
    let tells = c.in-Ok-ready.ensures (opened nothing_told ∷ t.messages) t.noted t.count (short g.R.BodyReading.meaning g.met.R.BodyReading.gives_messages (g.A.Account.stands c.in-Ok.account) _ _ _ c.in-Ok.taken t).bytes in
    (c.write_reply-write.ensures (opened nothing_told ∷ t.messages) tells).written.kept

pub returns-in-Err-ready-clause-concludes : goal.returns-in-Err-ready-clause-concludes
returns-in-Err-ready-clause-concludes g c = concludes_unready g.R.BodyReading.meaning (g.A.Account.stands c.in-Ok.account) (g.A.Told.Replies.replies c.args.ask.now) (g.Y.Yard.seen c.args.yard.now).told (g.Y.Yard.seen c.take_from.new.yard).told (g.Y.Yard.seen c.args.yard.now).calls c.in-Ok.taken (g.O.Sink.told c.args.out.now) c.in-Ok.ensures.from

pub returns-in-Err-clause-concludes : goal.returns-in-Err-clause-concludes
returns-in-Err-clause-concludes g c = concludes_unread g.R.BodyReading.meaning g.A.Account.stands (g.A.Told.Replies.replies c.args.ask.now) (g.Y.Yard.seen c.args.yard.now).told (g.Y.Yard.seen c.take_from.new.yard).told (g.Y.Yard.seen c.args.yard.now).calls (g.O.Sink.told c.args.out.now) c.in-Err.status c.in-Err.ensures.from
