use Rattle.std.proofs.Common.{◌≡◌, ℕ, List, ◌∷◌, ap, ◌∙◌}
use Rattle.query_lang.specs.Reading.{words_of, further_words}
use Rattle.query_lang.specs.Verbs.{verb_text}
use Rattle.query_lang.proofs.LineWords.{line_some, line_only, line_none, no_verb}
use Rattle.query_lang.proofs.line.parse.Goals as goal

-- the words are those behind the verb that was read
read_words : (line word : List ℕ) (others : List (List ℕ)) (verb : List ℕ) → words_of line ≡ word ∷ others → word ≡ verb → words_of line ≡ verb ∷ others
read_words line word others verb split is = split ∙ ap (λ (l : List ℕ). l ∷ others) is

pub returns-in-Some-clause-some : goal.returns-in-Some-clause-some
returns-in-Some-clause-some c =
    let rest = further_words c.split_word.result.1.now in
    line_some c.args.line.now (verb_text c.in-Some.verb ∷ rest) c.read_form.result (read_words c.args.line.now c.split_word.result.0.now rest (verb_text c.in-Some.verb) c.split_word.ensures c.in-Some.ensures.some) c.read_form.ensures.some

pub returns-in-Some-clause-only : goal.returns-in-Some-clause-only
returns-in-Some-clause-only c =
    let rest = further_words c.split_word.result.1.now in
    line_only c.args.line.now (verb_text c.in-Some.verb ∷ rest) c.read_form.result (read_words c.args.line.now c.split_word.result.0.now rest (verb_text c.in-Some.verb) c.split_word.ensures c.in-Some.ensures.some) c.read_form.ensures.only

pub returns-in-Some-clause-none : goal.returns-in-Some-clause-none
returns-in-Some-clause-none c =
    let rest = further_words c.split_word.result.1.now in
    line_none c.args.line.now (verb_text c.in-Some.verb ∷ rest) c.read_form.result (read_words c.args.line.now c.split_word.result.0.now rest (verb_text c.in-Some.verb) c.split_word.ensures c.in-Some.ensures.some) c.read_form.ensures.none

pub returns-in-None-clause-none : goal.returns-in-None-clause-none
returns-in-None-clause-none c = no_verb c.args.line.now c.split_word.result.0.now (further_words c.split_word.result.1.now) c.split_word.ensures c.in-None.ensures.none
