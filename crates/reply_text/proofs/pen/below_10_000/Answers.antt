use Rattle.std.proofs.Common.{arith}
use Rattle.reply_text.proofs.Digits.{put_two, two_more}
use Rattle.reply_text.proofs.pen.below_10_000.Goals as goal

pub returns-clause-whole : goal.returns-clause-whole
returns-clause-whole c = put_two _ _ _ _ _ _ c.below_100-next.ensures.whole c.pair.ensures.whole (two_more c.args.number c.if-number-lt100.false (omega (arith, c.requires.number)))
