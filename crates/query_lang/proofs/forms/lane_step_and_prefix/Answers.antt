use Rattle.query_lang.specs.Reading.{further_words}
use Rattle.query_lang.proofs.LineWords.{nothing_follows, something_follows}
use Rattle.query_lang.proofs.FormLaws.{changes_parts, changes_is}
use Rattle.query_lang.proofs.OneNumber.{number_one, step_one}
use Rattle.query_lang.proofs.forms.lane_step_and_prefix.Goals as goal

pub returns-then-not-is_empty-clause-none : goal.returns-then-not-is_empty-clause-none
returns-then-not-is_empty-clause-none c lane from p is =
    let two = c.in-Some-next_word in
    let three = c.in-Some-next_word-2 in
    let parts = changes_parts (further_words c.args.rest.now) (further_words c.in-Some.rest.now) (further_words two.rest.now) (further_words three.behind.now) c.in-Some.lane.now two.from.now three.prefix.now lane from p c.in-Some.ensures two.ensures three.ensures is in
    something_follows three.behind.now c.is_empty.result c.is_empty.ensures c.if-not-is_empty.true parts.none

pub returns-in_default-parse_number-clause-none : goal.returns-in_default-parse_number-clause-none
returns-in_default-parse_number-clause-none c lane from p is =
    let two = c.in-Some-next_word in
    let three = c.in-Some-next_word-2 in
    let parts = changes_parts (further_words c.args.rest.now) (further_words c.in-Some.rest.now) (further_words two.rest.now) (further_words three.behind.now) c.in-Some.lane.now two.from.now three.prefix.now lane from p c.in-Some.ensures two.ensures three.ensures is in
    c.in_default-parse_number.ensures.none lane parts.is_lane

pub returns-in_default-parse_number_up_to-clause-none : goal.returns-in_default-parse_number_up_to-clause-none
returns-in_default-parse_number_up_to-clause-none c lane from p is =
    let two = c.in-Some-next_word in
    let three = c.in-Some-next_word-2 in
    let parts = changes_parts (further_words c.args.rest.now) (further_words c.in-Some.rest.now) (further_words two.rest.now) (further_words three.behind.now) c.in-Some.lane.now two.from.now three.prefix.now lane from p c.in-Some.ensures two.ensures three.ensures is in
    c.in_default-parse_number_up_to.ensures.none from parts.is_from

pub returns-in-Some-parse_prefix-clause-some : goal.returns-in-Some-parse_prefix-clause-some
returns-in-Some-parse_prefix-clause-some c =
    let two = c.in-Some-next_word in
    let three = c.in-Some-next_word-2 in
    changes_is (further_words c.args.rest.now) (further_words c.in-Some.rest.now) (further_words two.rest.now) (further_words three.behind.now) c.in-Some.lane.now two.from.now three.prefix.now _ _ _ c.in-Some.ensures two.ensures three.ensures (record {
      is_lane = c.in-Some-parse_number.ensures.some;
      is_from = c.in-Some-parse_number_up_to.ensures.some;
      is_prefix = c.in-Some-parse_prefix.ensures.some;
      none = nothing_follows three.behind.now c.is_empty.result c.is_empty.ensures c.if-not-is_empty.false;
    })

pub returns-in-Some-parse_prefix-clause-only : goal.returns-in-Some-parse_prefix-clause-only
returns-in-Some-parse_prefix-clause-only c lane from p is =
    let two = c.in-Some-next_word in
    let three = c.in-Some-next_word-2 in
    let parts = changes_parts (further_words c.args.rest.now) (further_words c.in-Some.rest.now) (further_words two.rest.now) (further_words three.behind.now) c.in-Some.lane.now two.from.now three.prefix.now lane from p c.in-Some.ensures two.ensures three.ensures is in
    (number_one c.in-Some.lane.now lane _ parts.is_lane c.in-Some-parse_number.ensures.some, step_one two.from.now from _ parts.is_from c.in-Some-parse_number_up_to.ensures.some, c.in-Some-parse_prefix.ensures.only p parts.is_prefix)

pub returns-in-None-clause-none : goal.returns-in-None-clause-none
returns-in-None-clause-none c lane from p is =
    let two = c.in-Some-next_word in
    let three = c.in-Some-next_word-2 in
    let parts = changes_parts (further_words c.args.rest.now) (further_words c.in-Some.rest.now) (further_words two.rest.now) (further_words three.behind.now) c.in-Some.lane.now two.from.now three.prefix.now lane from p c.in-Some.ensures two.ensures three.ensures is in
    c.in-None.ensures.none p parts.is_prefix
