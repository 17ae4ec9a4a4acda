use Rattle.std.proofs.Common.{refl, subst, []}
use mathlib.Core.Bool.{false≢true}
use Rattle.ask_specs.specs.Asking.{AskValue}
use Rattle.ask_specs.specs.Offer.{IsOfferedAsk}
use Rattle.query_lang.specs.Asks.{ask_value}
use Rattle.wire_io.proofs.Joins.{appends_none}
use Rattle.ask_session.specs.Replies.{error_line, error_query, too_long, unknown, asked, over}
use Rattle.ask_session.proofs.reply.answer_line.Goals as goal

pub returns-then-line-gt-MOST_LINE-clause-replied : goal.returns-then-line-gt-MOST_LINE-clause-replied
returns-then-line-gt-MOST_LINE-clause-replied g c = record { heard = too_long; text = error_line; is_heard = c.if-line-gt-MOST_LINE.true; is_answer = refl; answers = c.refuse_line.ensures.answers }

pub returns-in-None-clause-replied : goal.returns-in-None-clause-replied
returns-in-None-clause-replied g c = record { heard = unknown; text = error_query; is_heard = (c.if-line-gt-MOST_LINE.false, c.in-None.ensures.none); is_answer = refl; answers = c.refuse_query.ensures.answers }

pub returns-then-is_quit-clause-replied : goal.returns-then-is_quit-clause-replied
returns-then-is_quit-clause-replied g c =
    let is = subst (λ (v : AskValue). IsOfferedAsk c.args.line.now v) (c.if-is_quit.ensures.0 refl) c.in-Some.ensures.some in
    record { heard = over; text = []; is_heard = (c.if-line-gt-MOST_LINE.false, is); is_answer = refl; answers = (tt, refl, (appends_none (g.O.Sink.told c.args.out.now), refl)) }

pub returns-else-is_quit-clause-replied : goal.returns-else-is_quit-clause-replied
returns-else-is_quit-clause-replied g c =
    let r = c.put_reply.ensures.replied in
    record { heard = asked (ask_value c.in-Some.ask); text = r.text; is_heard = (c.if-line-gt-MOST_LINE.false, c.in-Some.ensures.some, λ e. false≢true (c.if-is_quit.ensures.1 e)); is_answer = r.is_text; answers = r.answers }
