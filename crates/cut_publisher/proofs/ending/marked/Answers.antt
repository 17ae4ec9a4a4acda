use Rattle.std.proofs.Common.{refl}
use Rattle.cut_publisher.proofs.Endings.{good_end}
use Rattle.cut_publisher.proofs.ending.marked.Goals as goal

pub returns-clause-good : goal.returns-clause-good
returns-clause-good g c = good_end g.S.Subject.stands c.args.shown _ c.requires.good c.requires.unmarked refl (c.add_end.ensures.added c.if-not-add_end.false) refl
