use Rattle.std.proofs.Common.{rules, ◌≡◌, ℕ, List, [], ◌∷◌, ◌++◌, length, ap, ◌∙◌, arith, length-append}
use Rattle.bmp_frames.proofs.Digits.{not_other}
use Rattle.query_lang.specs.Reading.{words_of}
use Rattle.query_lang.proofs.LastWords.{few_unended, last_word, one_word, other_unended, two_words_at}
use Rattle.query_lang.proofs.words.take_last_selector.Goals as goal

pub returns-in_default-clause-none : goal.returns-in_default-clause-none
returns-in_default-clause-none c =
    let text = c.args.text.now in
    few_unended c.args.word.now (words_of text) (omega (arith, ap length (one_word text c.in_default.ensures.none)))

pub returns-in_default-cut_last-clause-none : goal.returns-in_default-cut_last-clause-none
returns-in_default-cut_last-clause-none c =
    let text = c.args.text.now in
    let rest = c.in-Some.rest.now in
    let value = c.in-Some.value.now in
    few_unended c.args.word.now (words_of text)
    (omega (arith, ap length (last_word text rest value c.in-Some.ensures.some), length-append (words_of rest) (value ∷ []), ap length (one_word rest c.in_default-cut_last.ensures.none)))

pub returns-then-ne-clause-none : goal.returns-then-ne-clause-none
returns-then-ne-clause-none c =
    let text = c.args.text.now in
    let next = c.in-Some-cut_last in
    other_unended c.args.word.now (words_of text) (words_of next.others.now) next.last.now c.in-Some.value.now
    (two_words_at text c.in-Some.rest.now c.in-Some.value.now next.others.now next.last.now c.in-Some.ensures.some next.ensures.some)
    (λ e. not_other next.last.now c.args.word.now e c.if-ne.ensures)

pub returns-clause-some : goal.returns-clause-some
returns-clause-some c =
    let text = c.args.text.now in
    let next = c.in-Some-cut_last in
    let same : next.last.now ≡ c.args.word.now = search rules in
    two_words_at text c.in-Some.rest.now c.in-Some.value.now next.others.now next.last.now c.in-Some.ensures.some next.ensures.some
    ∙ ap (λ (w : List ℕ). words_of next.others.now ++ w ∷ c.in-Some.value.now ∷ []) same
