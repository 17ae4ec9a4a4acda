use Rattle.std.proofs.Common.{ℕ, ap, subst}
use Rattle.cut_publisher.specs.History.{Site}
use Rattle.ask_session.specs.Hearing.{Replied}
use Rattle.ask_session.proofs.reply.reply_to.Goals as goal

pub returns-clause-replied : goal.returns-clause-replied
returns-clause-replied g c =
    let lanes = ap (λ (x : Site). x.lanes) c.snapshot.ensures.station in
    subst (λ (n : ℕ). Replied n c.args.line.now c.snapshot.new.pass.seen (g.K.Sink.told c.args.link.now) (g.K.Sink.told c.answer_line.new.out) (g.K.Sink.faults c.args.link.now) (g.K.Sink.faults c.answer_line.new.out) c.answer_line.result) lanes c.answer_line.ensures.replied
