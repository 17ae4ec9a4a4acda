use Rattle.query_lang.specs.Reading.{further_words}
use Rattle.query_lang.proofs.LineWords.{nothing_follows, something_follows}
use Rattle.query_lang.proofs.FormLaws.{stats_read, stats_only, stats_refused, stats_parts}
use Rattle.query_lang.proofs.forms.only_peer.Goals as goal

pub returns-then-is_empty-clause-some : goal.returns-then-is_empty-clause-some
returns-then-is_empty-clause-some c =
    let none = nothing_follows c.in-Some.behind.now c.is_empty.result c.is_empty.ensures c.if-is_empty.true in
    stats_read (further_words c.args.rest.now) (further_words c.in-Some.behind.now) c.in-Some.text.now c.parse_key.result c.in-Some.ensures none c.parse_key.ensures.some

pub returns-then-is_empty-clause-only : goal.returns-then-is_empty-clause-only
returns-then-is_empty-clause-only c = stats_only (further_words c.args.rest.now) (further_words c.in-Some.behind.now) c.in-Some.text.now c.parse_key.result c.in-Some.ensures c.parse_key.ensures.only

pub returns-then-is_empty-clause-none : goal.returns-then-is_empty-clause-none
returns-then-is_empty-clause-none c = stats_refused (further_words c.args.rest.now) (further_words c.in-Some.behind.now) c.in-Some.text.now c.parse_key.result c.in-Some.ensures c.parse_key.ensures.none

pub returns-else-is_empty-clause-none : goal.returns-else-is_empty-clause-none
returns-else-is_empty-clause-none c k is =
    let parts = stats_parts (further_words c.args.rest.now) (further_words c.in-Some.behind.now) c.in-Some.text.now k c.in-Some.ensures is in
    something_follows c.in-Some.behind.now c.is_empty.result c.is_empty.ensures c.if-is_empty.false parts.1
