use Rattle.std.proofs.Common.{◌+◌, ◌∷◌, List, ℕ, take, ap, sym, ◌∙◌}
use Rattle.std.proofs.lemmas.List.{take_rest}
use Rattle.station_words.specs.AllowedTexts.{texts_of}
use Rattle.station_words.proofs.AllowedText.{cut_comma, no_comma_in}
use Rattle.station_words.proofs.allowed_words.split_comma.Goals as goal

pub returns-in-Some : goal.returns-in-Some
returns-in-Some c = cut_comma c.args.text.now c.in-Some.at (sym c.in-Some.ensures) ∙ ap (λ (l : List ℕ). take c.in-Some.at c.args.text.now ∷ texts_of l) (sym (take_rest c.args.text.now (c.in-Some.at + 1)))

pub returns-in-None : goal.returns-in-None
returns-in-None c = no_comma_in c.args.text.now (sym c.in-None.ensures)
