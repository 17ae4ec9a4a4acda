use Rattle.stats_book.proofs.PartSums.{none_passed}
use Rattle.stats_book.proofs.passed.parts_of.Goals as goal

pub returns-in_default : goal.returns-in_default
returns-in_default c = none_passed c.args.effect.now c.in_default.not-Unread
