use Rattle.query_lang.proofs.VerbWords.{is_no_verb}
use Rattle.query_lang.proofs.verb.Verb.parse.Goals as goal

pub returns-clause-none : goal.returns-clause-none
returns-clause-none c = is_no_verb c.args.word.now c.in_default.ensures.none c.in_default-of_looks.ensures.none c.in_default-of_the_rest.ensures.none
