use Rattle.query_eval.proofs.ReplySteps.{text_through}
use Rattle.query_eval.proofs.reply.put_buffered.Goals as goal

pub returns : goal.returns
returns g c = text_through g.O.Sink.faults g.O.Sink.told g.O.Sink.aside _ _ _ _ _ c.through_buffer.ensures
