use Rattle.station_words.proofs.Commands.{asks_reply, asks_other}
use Rattle.station_words.proofs.words.read_ask.Goals as goal

pub returns-in-Some-clause-some : goal.returns-in-Some-clause-some
returns-in-Some-clause-some c = asks_reply c.args.line.now c.in-Some.ask c.with_reply.result c.in-Some.ensures.some c.with_reply.ensures.some

pub returns-in-Some-clause-none : goal.returns-in-Some-clause-none
returns-in-Some-clause-none c = asks_other c.args.line.now c.in-Some.ask c.with_reply.result c.in-Some.ensures.only c.with_reply.ensures.none

pub returns-in-None-clause-none : goal.returns-in-None-clause-none
returns-in-None-clause-none c = λ ask is. c.in-None.ensures.none ask is.is_offered
