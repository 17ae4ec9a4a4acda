use Rattle.std.proofs.Common.{codes}
use Rattle.query_lang.specs.Queries.{query_value}
use Rattle.query_lang.specs.Reading.{words_of, further_words}
use Rattle.query_lang.specs.TraitValues.{traits_value}
use Rattle.query_lang.proofs.AskWords.{no_marks_behind, no_rows_behind, rows_none}
use Rattle.query_lang.proofs.LineWords.{is_other, is_this}
use Rattle.query_lang.proofs.further.asked_behind.Goals as goal

pub returns-in-Some-clause-none : goal.returns-in-Some-clause-none
returns-in-Some-clause-none c =
    no_rows_behind c.args.steps c.args.full (words_of c.args.text.now) c.split_word.result.0.now (further_words c.split_word.result.1.now) (query_value c.in-Some.query) (traits_value c.in-Some.traits) c.asked_rows.result c.split_word.ensures
    (is_other c.split_word.result.0.now c.as_slice.result.now (codes "changes") c.eq.result c.as_slice.ensures c.eq.ensures c.if-eq.false)
    (is_other c.split_word.result.0.now c.as_slice-2.result.now (codes "marks") c.eq-2.result c.as_slice-2.ensures c.eq-2.ensures c.if-eq-2.false)
    (is_other c.split_word.result.0.now c.as_slice-3.result.now (codes "routers") c.eq-3.result c.as_slice-3.ensures c.eq-3.ensures c.if-eq-3.false) c.in-Some.ensures.only c.asked_rows.ensures.none

pub returns-in-None-clause-none : goal.returns-in-None-clause-none
returns-in-None-clause-none c =
    rows_none c.args.steps c.args.full (words_of c.args.text.now) c.split_word.result.0.now (further_words c.split_word.result.1.now) c.split_word.ensures
    (is_other c.split_word.result.0.now c.as_slice.result.now (codes "changes") c.eq.result c.as_slice.ensures c.eq.ensures c.if-eq.false)
    (is_other c.split_word.result.0.now c.as_slice-2.result.now (codes "marks") c.eq-2.result c.as_slice-2.ensures c.eq-2.ensures c.if-eq-2.false)
    (is_other c.split_word.result.0.now c.as_slice-3.result.now (codes "routers") c.eq-3.result c.as_slice-3.ensures c.eq-3.ensures c.if-eq-3.false) (λ q t asks _ _. c.in-None.ensures.none q t asks)

pub returns-then-eq-2-clause-none : goal.returns-then-eq-2-clause-none
returns-then-eq-2-clause-none c =
    no_marks_behind c.args.steps c.args.full (words_of c.args.text.now) c.split_word.result.0.now (further_words c.split_word.result.1.now) c.asked_marks.result c.split_word.ensures
    (is_this c.split_word.result.0.now c.as_slice-2.result.now (codes "marks") c.eq-2.result c.as_slice-2.ensures c.eq-2.ensures c.if-eq-2.true) c.asked_marks.ensures.none
