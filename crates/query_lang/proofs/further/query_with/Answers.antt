use Rattle.query_lang.specs.Queries.{query_value}
use Rattle.query_lang.specs.Reading.{words_of}
use Rattle.query_lang.proofs.AskWords.{asked_before, none_before, only_before}
use Rattle.query_lang.proofs.further.query_with.Goals as goal

pub returns-in-Some-parse-clause-some : goal.returns-in-Some-parse-clause-some
returns-in-Some-parse-clause-some c asks = asked_before c.in-Some.front.now (query_value c.in-Some-parse.query) _ (words_of c.args.text.now) c.in-Some.ensures.some c.in-Some-parse.ensures.some asks

pub returns-in-Some-parse-clause-only : goal.returns-in-Some-parse-clause-only
returns-in-Some-parse-clause-only c v t asks = only_before c.in-Some.front.now (query_value c.in-Some-parse.query) v t _ (words_of c.args.text.now) asks (c.in-Some.ensures.only v t asks) c.in-Some-parse.ensures.only

pub returns-in-None-clause-none : goal.returns-in-None-clause-none
returns-in-None-clause-none c v t asks = none_before c.in-Some.front.now v t (words_of c.args.text.now) asks (c.in-Some.ensures.only v t asks).1 c.in-None.ensures.none
