use Rattle.query_lang.specs.Reading.{further_words}
use Rattle.query_lang.proofs.AskWords.{changes_none}
use Rattle.query_lang.proofs.further.asked_changes.Goals as goal

pub returns-in-None-clause-none : goal.returns-in-None-clause-none
returns-in-None-clause-none c = changes_none c.args.steps c.args.full (further_words c.args.rest.now) (λ _. c.in-None.ensures.none)
