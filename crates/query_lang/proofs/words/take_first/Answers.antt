use Rattle.std.proofs.Common.{rules, ◌≡◌, ℕ, List, ◌∷◌, ap, ◌∙◌}
use Rattle.query_lang.specs.Reading.{words_of, further_words}
use Rattle.query_lang.proofs.AskWords.{takes_word}
use Rattle.query_lang.proofs.words.take_first.Goals as goal

pub returns-in-len1-up : goal.returns-in-len1-up
returns-in-len1-up c =
    let same : c.split_word.result.0.now ≡ c.args.word.now = search rules in
    takes_word c.args.word.now (words_of c.args.text.now) c.split_word.result.1.now (c.split_word.ensures ∙ ap (λ (w : List ℕ). w ∷ further_words c.split_word.result.1.now) same) c.in-len1-up.len_at_least
