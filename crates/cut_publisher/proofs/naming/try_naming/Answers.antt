use Rattle.cut_publisher.proofs.Moves.{names}
use Rattle.cut_publisher.proofs.naming.try_naming.Goals as goal

pub publish_as-back-requires : goal.publish_as-back-requires
publish_as-back-requires g c next is = names g.S.Subject.stands _ _ _ next _ c.requires.0 c.requires.1 is
