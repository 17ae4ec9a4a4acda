use Rattle.bmp_specs.specs.LenientBody.{lenient}
use Rattle.bmp_specs.specs.MessageEffects.{strict}
use Rattle.ask_specs.proofs.LiveLaws.{lenient_lives, strict_lives}
use Rattle.feed_worker.proofs.LaneLives.{seen_up}
use Rattle.feed_worker.proofs.laws.lanes_announce_of_up.Goals as goal

pub returns : goal.returns
returns c = (seen_up strict strict_lives, seen_up lenient lenient_lives)
