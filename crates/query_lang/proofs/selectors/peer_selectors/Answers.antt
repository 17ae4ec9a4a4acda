use Rattle.std.proofs.Common.{[], codes, sym, append-nil}
use Rattle.query_lang.specs.Reading.{further_words}
use Rattle.query_lang.proofs.LineWords.{something_follows}
use Rattle.query_lang.proofs.SelectorLaws.{unnamed_none, two_taken, second_broken}
use Rattle.query_lang.proofs.selectors.peer_selectors.Goals as goal

pub returns-in_default-take_peer-clause-none : goal.returns-in_default-take_peer-clause-none
returns-in_default-take_peer-clause-none c router peer are =
    let words = further_words c.args.rest.now in
    second_broken words (further_words c.in-Some.rest.now) c.in-Some.router c.in-Some.ensures.some c.in_default-take_peer.ensures.none router peer words [] are (unnamed_none (codes "router")) (unnamed_none (codes "peer")) (sym (append-nil words))

pub returns-then-is_empty-clause-only : goal.returns-then-is_empty-clause-only
returns-then-is_empty-clause-only c router peer are =
    let words = further_words c.args.rest.now in
    let next = c.in-Some-take_peer in
    let both = two_taken words (further_words c.in-Some.rest.now) (further_words next.behind.now) c.in-Some.router next.peer c.in-Some.ensures.some next.ensures.some router peer words [] are (unnamed_none (codes "router")) (unnamed_none (codes "peer")) (sym (append-nil words)) in
    (both.0, both.1)

pub returns-else-is_empty-clause-none : goal.returns-else-is_empty-clause-none
returns-else-is_empty-clause-none c router peer are =
    let words = further_words c.args.rest.now in
    let next = c.in-Some-take_peer in
    let both = two_taken words (further_words c.in-Some.rest.now) (further_words next.behind.now) c.in-Some.router next.peer c.in-Some.ensures.some next.ensures.some router peer words [] are (unnamed_none (codes "router")) (unnamed_none (codes "peer")) (sym (append-nil words)) in
    something_follows next.behind.now c.is_empty.result c.is_empty.ensures c.if-is_empty.false (sym both.2)
