use Rattle.bmp_specs.specs.LenientBody.{lenient}
use Rattle.bmp_specs.specs.MessageEffects.{strict}
use Rattle.ask_specs.proofs.LiveLaws.{lenient_lives, strict_lives}
use Rattle.feed_worker.proofs.LaneLives.{keeps_copy}
use Rattle.feed_worker.proofs.laws.lanes_keep_copies.Goals as goal

pub returns : goal.returns
returns c = (keeps_copy strict strict_lives, keeps_copy lenient lenient_lives)
