use Rattle.std.proofs.Common.{arith}
use Rattle.reply_text.proofs.Digits.{put_two, three_digits}
use Rattle.reply_text.proofs.pen.octet.Goals as goal

pub returns-clause-whole : goal.returns-clause-whole
returns-clause-whole c = put_two _ _ _ _ _ _ c.byte-next.ensures.whole c.pair.ensures.whole (three_digits c.args.octet c.if-number-lt100.false (omega (arith, c.ranges.octet.fits)))
