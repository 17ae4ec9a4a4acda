use Rattle.ip_prefix.proofs.Digits.{hex_small, hex_large}
use Rattle.ip_prefix.proofs.texts.hex_digit.Goals as goal

pub returns-then-value-lt10 : goal.returns-then-value-lt10
returns-then-value-lt10 c = hex_small c.args.value c.if-value-lt10.true

pub returns-else-value-lt10 : goal.returns-else-value-lt10
returns-else-value-lt10 c = hex_large c.args.value c.if-value-lt10.false c.requires
