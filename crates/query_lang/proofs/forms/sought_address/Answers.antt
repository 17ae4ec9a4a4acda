use Rattle.bmp_specs.specs.AddressText.{IsAddressText}
use Rattle.query_lang.specs.Reading.{further_words}
use Rattle.query_lang.proofs.FormLaws.{sought_parts}
use Rattle.query_lang.proofs.forms.sought_address.Goals as goal

pub returns-in_default-parse_addr-clause-none : goal.returns-in_default-parse_addr-clause-none
returns-in_default-parse_addr-clause-none c word a s is =
    let parts = sought_parts IsAddressText (further_words c.args.rest.now) (further_words c.in-Some.rest.now) c.in-Some.text.now a s word c.in-Some.ensures is in
    c.in_default-parse_addr.ensures.none a parts.0

pub returns-in-Some-selectors-clause-only : goal.returns-in-Some-selectors-clause-only
returns-in-Some-selectors-clause-only c word a s is =
    let read = c.in-Some-parse_addr in
    let parts = sought_parts IsAddressText (further_words c.args.rest.now) (further_words c.in-Some.rest.now) c.in-Some.text.now a s word c.in-Some.ensures is in
    (read.ensures.only a parts.0, c.in-Some-selectors.ensures.only s parts.1)

pub returns-in-None-clause-none : goal.returns-in-None-clause-none
returns-in-None-clause-none c word a s is =
    let parts = sought_parts IsAddressText (further_words c.args.rest.now) (further_words c.in-Some.rest.now) c.in-Some.text.now a s word c.in-Some.ensures is in
    c.in-None.ensures.none s parts.1
