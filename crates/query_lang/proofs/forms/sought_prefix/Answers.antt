use Rattle.bmp_specs.specs.PrefixText.{IsPrefixText}
use Rattle.query_lang.specs.Reading.{further_words}
use Rattle.query_lang.proofs.FormLaws.{sought_parts}
use Rattle.query_lang.proofs.forms.sought_prefix.Goals as goal

pub returns-in_default-parse_prefix-clause-none : goal.returns-in_default-parse_prefix-clause-none
returns-in_default-parse_prefix-clause-none c word p s is =
    let parts = sought_parts IsPrefixText (further_words c.args.rest.now) (further_words c.in-Some.rest.now) c.in-Some.text.now p s word c.in-Some.ensures is in
    c.in_default-parse_prefix.ensures.none p parts.0

pub returns-in-Some-selectors-clause-only : goal.returns-in-Some-selectors-clause-only
returns-in-Some-selectors-clause-only c word p s is =
    let read = c.in-Some-parse_prefix in
    let parts = sought_parts IsPrefixText (further_words c.args.rest.now) (further_words c.in-Some.rest.now) c.in-Some.text.now p s word c.in-Some.ensures is in
    (read.ensures.only p parts.0, c.in-Some-selectors.ensures.only s parts.1)

pub returns-in-None-clause-none : goal.returns-in-None-clause-none
returns-in-None-clause-none c word p s is =
    let parts = sought_parts IsPrefixText (further_words c.args.rest.now) (further_words c.in-Some.rest.now) c.in-Some.text.now p s word c.in-Some.ensures is in
    c.in-None.ensures.none s parts.1
