use Rattle.std.proofs.Common.{codes}
use Rattle.bmp_specs.specs.PeerText.{IsViewText}
use Rattle.query_lang.specs.Reading.{further_words}
use Rattle.query_lang.proofs.SelectorLaws.{takes_named}
use Rattle.query_lang.proofs.selectors.take_view.Goals as goal

pub returns-in-Some-parse_view-clause-some : goal.returns-in-Some-parse_view-clause-some
returns-in-Some-parse_view-clause-some c =
    takes_named (codes "view") IsViewText (further_words c.args.rest.now) (further_words c.in-Some.others.now) c.in-Some.text.now c.in-Some-parse_view.view c.in-Some.ensures.some c.in-Some-parse_view.ensures.some
