use Rattle.bmp_specs.specs.NumberText.{number_text}
use Rattle.reply_text.proofs.Digits.{put_two}
use Rattle.reply_text.proofs.Pieces.{join_first}
use Rattle.reply_text.proofs.line.joined.Goals as goal

pub returns-in-len1-up-clause-whole : goal.returns-in-len1-up-clause-whole
returns-in-len1-up-clause-whole c = put_two _ _ _ _ _ _ c.number-next.ensures.whole c.put_behind.ensures.whole (join_first c.args.mark number_text c.args.numbers.now 0 c.in-len1-up.len_at_least)
