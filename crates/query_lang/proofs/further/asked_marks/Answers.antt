use Rattle.std.proofs.Common.{◌≡◌, subst, sym}
use Rattle.bmp_specs.specs.Query.{QueryValue, marks, AreQueryWords}
use Rattle.query_lang.specs.Queries.{query_value}
use Rattle.query_lang.specs.Reading.{words_of}
use Rattle.query_lang.proofs.LineWords.{is_query, query_asks}
use Rattle.query_lang.proofs.further.asked_marks.Goals as goal

pub returns-in_default-clause-none : goal.returns-in_default-clause-none
returns-in_default-clause-none c v asks = c.in_default.ensures.none (marks v) (is_query c.args.text.now (marks v) asks.2)

pub returns-in-Some-marks_of-clause-some : goal.returns-in-Some-marks_of-clause-some
returns-in-Some-marks_of-clause-some c = (
  c.if-steps.false,
  c.if-not-full.false,
  subst (λ (q : QueryValue). AreQueryWords q (words_of c.args.text.now)) c.in-Some-marks_of.ensures.some (query_asks c.args.text.now (query_value c.in-Some.query) c.in-Some.ensures.some),
)

pub returns-in-None-clause-none : goal.returns-in-None-clause-none
returns-in-None-clause-none c v asks =
    let one : marks v ≡ query_value c.in-Some.query = c.in-Some.ensures.only (marks v) (is_query c.args.text.now (marks v) asks.2) in
    c.in-None.ensures.none v (sym one)
