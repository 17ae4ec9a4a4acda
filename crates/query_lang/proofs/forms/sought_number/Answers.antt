use Rattle.bmp_specs.specs.NumberText.{IsNumberText}
use Rattle.query_lang.specs.Reading.{further_words}
use Rattle.query_lang.proofs.FormLaws.{sought_parts}
use Rattle.query_lang.proofs.OneNumber.{number_one}
use Rattle.query_lang.proofs.forms.sought_number.Goals as goal

pub returns-in_default-parse_number-clause-none : goal.returns-in_default-parse_number-clause-none
returns-in_default-parse_number-clause-none c word n s is =
    let parts = sought_parts IsNumberText (further_words c.args.rest.now) (further_words c.in-Some.rest.now) c.in-Some.text.now n s word c.in-Some.ensures is in
    c.in_default-parse_number.ensures.none n parts.0

pub returns-in-Some-selectors-clause-only : goal.returns-in-Some-selectors-clause-only
returns-in-Some-selectors-clause-only c word n s is =
    let read = c.in-Some-parse_number in
    let parts = sought_parts IsNumberText (further_words c.args.rest.now) (further_words c.in-Some.rest.now) c.in-Some.text.now n s word c.in-Some.ensures is in
    (number_one c.in-Some.text.now n read.number parts.0 read.ensures.some, c.in-Some-selectors.ensures.only s parts.1)

pub returns-in-None-clause-none : goal.returns-in-None-clause-none
returns-in-None-clause-none c word n s is =
    let parts = sought_parts IsNumberText (further_words c.args.rest.now) (further_words c.in-Some.rest.now) c.in-Some.text.now n s word c.in-Some.ensures is in
    c.in-None.ensures.none s parts.1
