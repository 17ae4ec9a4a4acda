use Rattle.std.proofs.Common.{arith}
use Rattle.reply_text.proofs.Digits.{put_two, put_three, four_more, eight_more}
use Rattle.reply_text.proofs.pen.number.Goals as goal

pub returns-then-number-lt100000000-clause-whole : goal.returns-then-number-lt100000000-clause-whole
returns-then-number-lt100000000-clause-whole c = put_two _ _ _ _ _ _ c.below_10_000-next.ensures.whole c.quad.ensures.whole (four_more c.args.number c.if-number-lt10000.false (omega (arith, c.ranges.number.fits)))

pub returns-clause-whole : goal.returns-clause-whole
returns-clause-whole c = put_three _ _ _ _ _ _ _ _ c.below_100-next.ensures.whole c.quad-next.ensures.whole c.quad-2.ensures.whole (eight_more c.args.number c.if-number-lt100000000.false (omega (arith, c.ranges.number.fits)))
