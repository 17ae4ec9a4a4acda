use Rattle.std.proofs.Common.{ℕ, List, ◌∷◌, drop, sym, ap, ◌∙◌}
use Rattle.query_lang.specs.Reading.{further_words}
use Rattle.query_lang.proofs.LineWords.{cut_word, whole_word}
use Rattle.query_lang.proofs.words.split_word.Goals as goal

pub returns-in-Some : goal.returns-in-Some
returns-in-Some c =
    let text = c.args.text.now in
    cut_word text c.in-Some.at (sym c.in-Some.ensures)
    ∙ ap (λ (l : List ℕ). l ∷ further_words (drop c.in-Some.at text)) (sym c.split_at.ensures.front)
    ∙ ap (λ (l : List ℕ). c.split_at.result.0.now ∷ further_words l) (sym c.split_at.ensures.back)

pub returns-in-None : goal.returns-in-None
returns-in-None c = whole_word c.args.text.now (sym c.in-None.ensures)
