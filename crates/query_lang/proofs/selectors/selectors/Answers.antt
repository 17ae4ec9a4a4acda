use Rattle.std.proofs.Common.{sym}
use Rattle.query_lang.specs.Reading.{further_words}
use Rattle.query_lang.proofs.LineWords.{nothing_follows, something_follows}
use Rattle.query_lang.proofs.SelectorLaws.{no_first, no_second, no_third, no_fourth, are_four, four_taken}
use Rattle.query_lang.proofs.selectors.selectors.Goals as goal

pub returns-in_default-clause-none : goal.returns-in_default-clause-none
returns-in_default-clause-none c = no_first (further_words c.args.rest.now) c.in_default.ensures.none

pub returns-in_default-take_peer-clause-none : goal.returns-in_default-take_peer-clause-none
returns-in_default-take_peer-clause-none c = no_second (further_words c.args.rest.now) (further_words c.in-Some.rest.now) c.in-Some.router c.in-Some.ensures.some c.in_default-take_peer.ensures.none

pub returns-in_default-take_view-clause-none : goal.returns-in_default-take_view-clause-none
returns-in_default-take_view-clause-none c =
    let two = c.in-Some-take_peer in
    no_third (further_words c.args.rest.now) (further_words c.in-Some.rest.now) (further_words two.rest.now) c.in-Some.router two.peer c.in-Some.ensures.some two.ensures.some c.in_default-take_view.ensures.none

pub returns-in_default-take_family-clause-none : goal.returns-in_default-take_family-clause-none
returns-in_default-take_family-clause-none c =
    let two = c.in-Some-take_peer in
    let three = c.in-Some-take_view in
    no_fourth (further_words c.args.rest.now) (further_words c.in-Some.rest.now) (further_words two.rest.now) (further_words three.rest.now) c.in-Some.router two.peer three.view c.in-Some.ensures.some two.ensures.some three.ensures.some c.in_default-take_family.ensures.none

pub returns-then-is_empty-clause-some : goal.returns-then-is_empty-clause-some
returns-then-is_empty-clause-some c =
    let two = c.in-Some-take_peer in
    let three = c.in-Some-take_view in
    let four = c.in-Some-take_family in
    let none = nothing_follows four.left.now c.is_empty.result c.is_empty.ensures c.if-is_empty.true in
    are_four (further_words c.args.rest.now) (further_words c.in-Some.rest.now) (further_words two.rest.now) (further_words three.rest.now) (further_words four.left.now) _ c.in-Some.ensures.some two.ensures.some three.ensures.some four.ensures.some none

pub returns-then-is_empty-clause-only : goal.returns-then-is_empty-clause-only
returns-then-is_empty-clause-only c t are =
    let two = c.in-Some-take_peer in
    let three = c.in-Some-take_view in
    let four = c.in-Some-take_family in
    (four_taken (further_words c.args.rest.now) (further_words c.in-Some.rest.now) (further_words two.rest.now) (further_words three.rest.now) (further_words four.left.now) (record { router = c.in-Some.router; peer = two.peer; view = three.view; family = four.family }) c.in-Some.ensures.some two.ensures.some three.ensures.some four.ensures.some t are).0

pub returns-else-is_empty-clause-none : goal.returns-else-is_empty-clause-none
returns-else-is_empty-clause-none c t are =
    let two = c.in-Some-take_peer in
    let three = c.in-Some-take_view in
    let four = c.in-Some-take_family in
    let whole = four_taken (further_words c.args.rest.now) (further_words c.in-Some.rest.now) (further_words two.rest.now) (further_words three.rest.now) (further_words four.left.now) (record { router = c.in-Some.router; peer = two.peer; view = three.view; family = four.family }) c.in-Some.ensures.some two.ensures.some three.ensures.some four.ensures.some t are in
    something_follows four.left.now c.is_empty.result c.is_empty.ensures c.if-is_empty.false (sym whole.1)
