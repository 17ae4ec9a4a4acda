use Rattle.std.proofs.Common.{◌≡◌, ◌∷◌, codes, map, ap, sym, ◌∙◌}
use Rattle.std.specs.String.{string_bytes}
use Rattle.station_words.proofs.words.behind_check.Goals as goal

pub returns-then-is_word-clause-some : goal.returns-then-is_word-clause-some
returns-then-is_word-clause-some c = c.in-Some.ensures.some ∙ ap (λ l. l ∷ map string_bytes c.in-Some.others.now) (c.is_word.ensures.0 c.if-is_word.true)

pub returns-else-is_word-clause-none : goal.returns-else-is_word-clause-none
returns-else-is_word-clause-none c = λ others is.
    let both : c.in-Some.first.now ∷ map string_bytes c.in-Some.others.now ≡ codes "--check-options" ∷ others = sym c.in-Some.ensures.some ∙ is in
    let first : c.in-Some.first.now ≡ codes "--check-options" = cc both in
    cc (c.is_word.ensures.1 first, c.if-is_word.false)
