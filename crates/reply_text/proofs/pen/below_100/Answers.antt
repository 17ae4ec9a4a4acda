use Rattle.std.proofs.Common.{◌≡◌, ◌++◌, List, ℕ, take, ap, sym, ◌∙◌}
use Rattle.std.proofs.lemmas.Fmt.{decimal_digit}
use Rattle.reply_text.proofs.Digits.{two_digits}
use Rattle.reply_text.proofs.pen.below_100.Goals as goal

pub returns-then-number-lt10-clause-whole : goal.returns-then-number-lt10-clause-whole
returns-then-number-lt10-clause-whole c = c.byte.ensures.whole ∙ ap (λ (l : List ℕ). take c.args.at c.args.line.now ++ l) (sym (decimal_digit c.args.number c.if-number-lt10.true))

pub returns-else-number-lt10-clause-whole : goal.returns-else-number-lt10-clause-whole
returns-else-number-lt10-clause-whole c = c.pair.ensures.whole ∙ ap (λ (l : List ℕ). take c.args.at c.args.line.now ++ l) (sym (two_digits c.args.number c.if-number-lt10.false c.requires.number))
