use Rattle.std.proofs.Common.{ℕ, Option, codes}
use Rattle.bmp_specs.specs.Query.{routers, cut, peers, marks, table, count, quit}
use Rattle.bmp_specs.specs.Values.{KeyValue}
use Rattle.query_lang.specs.Reading.{further_words}
use Rattle.query_lang.specs.declared.verb.Verb.TheVariants.{Routers, Cut, Peers, Marks, Table, Count, Quit}
use Rattle.query_lang.proofs.LineWords.{something_follows}
use Rattle.query_lang.proofs.FormLaws.{only_form, no_form, as_routers, as_cut, as_peers, as_marks, as_table, as_count, as_quit, alone_parts, peers_parts, selection_parts, same_pair}
use Rattle.query_lang.proofs.forms.read_form.Goals as goal

pub returns-else-is_empty-clause-none : goal.returns-else-is_empty-clause-none
returns-else-is_empty-clause-none c =
    let words = further_words c.args.rest.now in
    no_form c.args.verb Routers (λ (_ : Unit {0}). routers) as_routers words c.in-Routers.is (λ _ is. something_follows c.args.rest.now c.is_empty.result c.is_empty.ensures c.if-is_empty.false (alone_parts (codes "routers") words is))

pub returns-else-is_empty-2-clause-none : goal.returns-else-is_empty-2-clause-none
returns-else-is_empty-2-clause-none c =
    let words = further_words c.args.rest.now in
    no_form c.args.verb Cut (λ (_ : Unit {0}). cut) as_cut words c.in-Cut.is (λ _ is. something_follows c.args.rest.now c.is_empty-in-Cut.result c.is_empty-in-Cut.ensures c.if-is_empty-2.false (alone_parts (codes "cut") words is))

pub returns-else-is_empty-3-clause-none : goal.returns-else-is_empty-3-clause-none
returns-else-is_empty-3-clause-none c =
    let words = further_words c.args.rest.now in
    no_form c.args.verb Quit (λ (_ : Unit {0}). quit) as_quit words c.in-Quit.is (λ _ is. something_follows c.args.rest.now c.is_empty-in-Quit.result c.is_empty-in-Quit.ensures c.if-is_empty-3.false (alone_parts (codes "quit") words is))

pub returns-in-Some-clause-only : goal.returns-in-Some-clause-only
returns-in-Some-clause-only c =
    let words = further_words c.args.rest.now in
    only_form c.args.verb Peers (λ (a : Option ℕ × Option KeyValue). peers a.0 a.1) as_peers words (c.in-Some.router, c.in-Some.peer) c.in-Peers.is (λ b is. let same = c.in-Some.ensures.only b.0 b.1 (peers_parts words b.0 b.1 is) in same_pair b (c.in-Some.router, c.in-Some.peer) same.0 same.1)

pub returns-in-None-clause-none : goal.returns-in-None-clause-none
returns-in-None-clause-none c =
    let words = further_words c.args.rest.now in
    no_form c.args.verb Peers (λ (a : Option ℕ × Option KeyValue). peers a.0 a.1) as_peers words c.in-Peers.is (λ b is. c.in-None.ensures.none b.0 b.1 (peers_parts words b.0 b.1 is))

pub returns-in-Some-selectors-clause-only : goal.returns-in-Some-selectors-clause-only
returns-in-Some-selectors-clause-only c =
    let words = further_words c.args.rest.now in
    only_form c.args.verb Marks marks as_marks words c.in-Some-selectors.select c.in-Marks.is (λ s is. c.in-Some-selectors.ensures.only s (selection_parts words s (codes "marks") is))

pub returns-in-None-selectors-clause-none : goal.returns-in-None-selectors-clause-none
returns-in-None-selectors-clause-none c =
    let words = further_words c.args.rest.now in
    no_form c.args.verb Marks marks as_marks words c.in-Marks.is (λ s is. c.in-None-selectors.ensures.none s (selection_parts words s (codes "marks") is))

pub returns-in-Some-selectors-2-clause-only : goal.returns-in-Some-selectors-2-clause-only
returns-in-Some-selectors-2-clause-only c =
    let words = further_words c.args.rest.now in
    only_form c.args.verb Table table as_table words c.in-Some-selectors-2.select c.in-Table.is (λ s is. c.in-Some-selectors-2.ensures.only s (selection_parts words s (codes "table") is))

pub returns-in-None-selectors-2-clause-none : goal.returns-in-None-selectors-2-clause-none
returns-in-None-selectors-2-clause-none c =
    let words = further_words c.args.rest.now in
    no_form c.args.verb Table table as_table words c.in-Table.is (λ s is. c.in-None-selectors-2.ensures.none s (selection_parts words s (codes "table") is))

pub returns-in-Some-selectors-3-clause-only : goal.returns-in-Some-selectors-3-clause-only
returns-in-Some-selectors-3-clause-only c =
    let words = further_words c.args.rest.now in
    only_form c.args.verb Count count as_count words c.in-Some-selectors-3.select c.in-Count.is (λ s is. c.in-Some-selectors-3.ensures.only s (selection_parts words s (codes "count") is))

pub returns-in-None-selectors-3-clause-none : goal.returns-in-None-selectors-3-clause-none
returns-in-None-selectors-3-clause-none c =
    let words = further_words c.args.rest.now in
    no_form c.args.verb Count count as_count words c.in-Count.is (λ s is. c.in-None-selectors-3.ensures.none s (selection_parts words s (codes "count") is))
