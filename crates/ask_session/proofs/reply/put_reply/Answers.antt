use Rattle.std.proofs.Common.{ℕ, refl, subst}
use Rattle.query_lang.specs.Asks.{ask_value}
use Rattle.query_eval.specs.Replies.{IsAskReplyOn}
use Rattle.ask_session.proofs.reply.put_reply.Goals as goal

pub returns-in-Ok-clause-replied : goal.returns-in-Ok-clause-replied
returns-in-Ok-clause-replied g c =
    let seen = c.args.pass.now.seen in
    let r = c.in-Ok.ensures.reply seen c.cut.ensures.stands in
    record { text = r.text; is_text = subst (λ (n : ℕ). IsAskReplyOn (ask_value c.args.ask.now) n seen r.text) c.cut.ensures.lanes r.is_reply; answers = (refl, r.written.whole, r.written.cause.fine) }

pub returns-in-Err-clause-replied : goal.returns-in-Err-clause-replied
returns-in-Err-clause-replied g c =
    let seen = c.args.pass.now.seen in
    let r = c.in-Err.ensures.reply seen c.cut.ensures.stands in
    record { text = r.text; is_text = subst (λ (n : ℕ). IsAskReplyOn (ask_value c.args.ask.now) n seen r.text) c.cut.ensures.lanes r.is_reply; answers = (tt, tt, (r.written.front, r.written.cause.failed)) }
