use Rattle.query_lang.specs.Reading.{further_words}
use Rattle.query_lang.proofs.AskWords.{no_prefix_word, prefix_ends}
use Rattle.query_lang.proofs.LineWords.{something_follows}
use Rattle.query_lang.proofs.further.prefix_or_end.Goals as goal

pub returns-then-not-is_empty-clause-none : goal.returns-then-not-is_empty-clause-none
returns-then-not-is_empty-clause-none c p is =
    prefix_ends p (further_words c.args.rest.now) (further_words c.in-Some.behind.now) c.in-Some.text.now c.in-Some.ensures
    (something_follows c.in-Some.behind.now c.is_empty.result c.is_empty.ensures c.if-not-is_empty.true) is

pub returns-in-None-clause-none : goal.returns-in-None-clause-none
returns-in-None-clause-none c p is = no_prefix_word p (further_words c.args.rest.now) (further_words c.in-Some.behind.now) c.in-Some.text.now c.in-Some.ensures c.in-None.ensures.none is
