use Rattle.std.proofs.Common.{codes}
use Rattle.bmp_specs.specs.NumberText.{IsNumberText}
use Rattle.query_lang.specs.Reading.{further_words}
use Rattle.query_lang.proofs.SelectorLaws.{takes_named}
use Rattle.query_lang.proofs.selectors.take_router.Goals as goal

pub returns-in-Some-parse_number-clause-some : goal.returns-in-Some-parse_number-clause-some
returns-in-Some-parse_number-clause-some c =
    takes_named (codes "router") IsNumberText (further_words c.args.rest.now) (further_words c.in-Some.others.now) c.in-Some.text.now c.in-Some-parse_number.number c.in-Some.ensures.some c.in-Some-parse_number.ensures.some
